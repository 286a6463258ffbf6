-- `prefix_testing::test_from` meets its contract: the loops keep the state of Duval's scan and that the entries up to `end`, and to k, are right.
use Prim.Native.Nat.{◌-◌, ◌≤◌, ◌<◌}
use lib.ListN.{length}
use Rattle.ranks.specs.Ranks.{ranked}
use Rattle.prefix_table.specs.State.{Testing}
use Rattle.prefix_testing.proofs.test_from.Given as goal

abbrev pub invariant-loop-k : goal.invariant-loop-k
invariant-loop-k l = Testing (ranked l.ranks.list.now l.s) l.table l.i l.k l.size

abbrev pub invariant-loop-end : goal.invariant-loop-end
invariant-loop-end l = (0 < l.gap) × (l.gap ≤ 256) × Testing (ranked l.ranks.list.now l.s) l.table l.i l.end l.size

abbrev pub decreases-loop-end : goal.decreases-loop-end
decreases-loop-end l = length l.s - l.end
