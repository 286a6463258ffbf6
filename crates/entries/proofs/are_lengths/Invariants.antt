-- `entries::are_lengths` meets its contract: where all entries before place k of the block were found right, they are.
use mathlib.Core.Bool.{true}
use mathlib.Core.Path.{◌≡◌}
use Prim.Native.Nat.{◌+◌, ◌-◌}
use Rattle.rows.proofs.Fill.{Right}
use Rattle.entries.proofs.are_lengths.Given as goal

abbrev pub invariant-loop-k : goal.invariant-loop-k
invariant-loop-k l = l.all ≡ true → Right (λ x. x + 1 - l.i) l.table l.at (l.at + l.k)
