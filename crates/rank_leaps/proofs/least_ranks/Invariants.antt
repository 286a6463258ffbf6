-- `rank_leaps::least_ranks` meets its contract: where the ranks of all bytes before place j + u passed, they are d or above.
use Rattle.std.proofs.Common.{◌≡◌, ◌+◌, true}
use Rattle.ranks.specs.Ranks.{ranked}
use Rattle.rank_leaps.specs.Broken.{AtLeast}
use Rattle.rank_leaps.proofs.least_ranks.Given as goal

abbrev pub invariant-loop-u : goal.invariant-loop-u
invariant-loop-u l = l.all ≡ true → AtLeast (ranked l.ranks l.s) l.d l.j (l.j + l.u)
