-- `byte_leaps::risen_blocks` meets its contract: the bytes before place k are above c, or c where the test is met.
use Rattle.std.proofs.Common.{◌-◌, ◌≤◌, length, true}
use Rattle.rising.specs.Risen.{Risen}
use Rattle.byte_leaps.proofs.risen_blocks.Given as goal

abbrev pub invariant-loop-k : goal.invariant-loop-k
invariant-loop-k g l = (l.j ≤ l.k) × (l.k ≤ length l.s) × Risen l.s l.c (λ t. goal.F-post g l.meets t true) l.j l.k

abbrev pub decreases-loop-k : goal.decreases-loop-k
decreases-loop-k g l = length l.s - l.k
