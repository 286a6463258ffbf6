-- `above::ranks_above` meets its contract: the ranks before k are above that of c, which is d.
use Rattle.std.proofs.Common.{◌≤◌, length}
use Rattle.ranks.specs.Ranks.{rank, ranked}
use Rattle.above.specs.Above.{Above}
use Rattle.above.proofs.ranks_above.Given as goal

abbrev pub invariant-loop-k : goal.invariant-loop-k
invariant-loop-k l = (l.k ≤ length l.s) × Above (ranked l.ranks l.s) (rank l.ranks l.c) l.j l.k
