-- `rank_leaps::ranks_run` meets its contract: no eight bytes c begin before k, and no rank there is below that of c.
use Rattle.std.proofs.Common.{◌≤◌, length}
use Rattle.ranks.specs.Ranks.{rank, ranked}
use Rattle.rank_leaps.specs.Broken.{Broken, AtLeast}
use Rattle.rank_leaps.proofs.ranks_run.Given as goal

abbrev pub invariant-loop-k : goal.invariant-loop-k
invariant-loop-k l = (l.k ≤ length l.s) × Broken l.s l.c l.j l.k × AtLeast (ranked l.ranks l.s) (rank l.ranks l.c) l.j l.k
