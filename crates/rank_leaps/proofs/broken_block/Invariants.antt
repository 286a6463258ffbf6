-- `rank_leaps::broken_block` meets its contract: where all places before j + u passed, no eight bytes c begin at them.
use Rattle.std.proofs.Common.{◌≡◌, ◌+◌, true}
use Rattle.rank_leaps.specs.Broken.{Broken}
use Rattle.rank_leaps.proofs.broken_block.Given as goal

abbrev pub invariant-loop-u : goal.invariant-loop-u
invariant-loop-u l = l.all ≡ true → Broken l.s l.c l.j (l.j + l.u)
