-- `above::above_bytes` meets its contract: where all bytes before place u passed, they are above c.
use mathlib.Core.Path.{◌≡◌}
use mathlib.Core.Bool.{true}
use Rattle.above.specs.Above.{Above}
use Prim.Native.Nat.{◌+◌}
use Rattle.above.proofs.above_bytes.Given as goal

abbrev pub invariant-loop-u : goal.invariant-loop-u
invariant-loop-u l = l.all ≡ true → Above l.s l.c l.j (l.j + l.u)
