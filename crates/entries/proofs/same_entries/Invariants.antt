-- `entries::same_entries` meets its contract: where all pairs before place k are equal, the entries agree that far.
use mathlib.Core.Bool.{true}
use mathlib.Core.Path.{◌≡◌}
use Rattle.agreeing.specs.Agrees.{Agrees}
use Rattle.entries.proofs.same_entries.Given as goal

abbrev pub invariant-loop-k : goal.invariant-loop-k
invariant-loop-k l = l.all ≡ true → Agrees l.table l.from l.table l.at l.k
