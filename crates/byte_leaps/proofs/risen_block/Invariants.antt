-- `byte_leaps::risen_block` meets its contract: where all bytes before place j + u passed, they are above c, or c where the test is met.
use Rattle.std.proofs.Common.{◌≡◌, ◌+◌, true}
use Rattle.rising.specs.Risen.{Risen}
use Rattle.byte_leaps.proofs.risen_block.Given as goal

abbrev pub invariant-loop-u : goal.invariant-loop-u
invariant-loop-u g l = l.all ≡ true → Risen l.s l.c (λ t. goal.F-post g l.meets t true) l.j (l.j + l.u)
