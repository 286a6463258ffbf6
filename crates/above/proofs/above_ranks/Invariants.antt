-- `above::above_ranks` meets its contract: where the ranks of all bytes before place u passed, they are above d.
use mathlib.Core.Bool.{true}
use mathlib.Core.Path.{◌≡◌}
use Prim.Native.Nat.{◌+◌}
use Rattle.ranks.specs.Ranks.{ranked}
use Rattle.above.specs.Above.{Above}
use Rattle.above.proofs.above_ranks.Given as goal

abbrev pub invariant-loop-u : goal.invariant-loop-u
invariant-loop-u l = l.all ≡ true → Above (ranked l.ranks l.s) l.d l.j (l.j + l.u)
