-- `prefix_making::make_from` meets its contract: the loops keep the state of Duval's scan and the entries up to j, and to k.
use Prim.Native.Nat.{◌-◌, ◌≤◌, ◌<◌}
use lib.ListN.{length}
use Rattle.ranks.specs.Ranks.{ranked}
use Rattle.prefix_making_leaps.specs.Making.{Making}
use Rattle.prefix_making.proofs.make_from.Given as goal

abbrev pub invariant-loop-k : goal.invariant-loop-k
invariant-loop-k l = Making (ranked l.ranks.list.now l.s) l.initial.table l.table l.i l.k l.p

abbrev pub invariant-loop-j : goal.invariant-loop-j
invariant-loop-j l = (0 < l.gap) × (l.gap ≤ 256) × Making (ranked l.ranks.list.now l.s) l.initial.table l.table l.i l.j l.p

abbrev pub decreases-loop-j : goal.decreases-loop-j
decreases-loop-j l = length l.s - l.j
