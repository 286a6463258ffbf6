-- `wanted_testing::nests` meets its contract: the stretches from `start` on nest; those behind it that start before `next` end there or before.
use Prim.Native.Nat.{◌-◌, ◌≤◌}
use Rattle.wanted_testing.proofs.Tested.{NestsFrom, Passed}
use Rattle.wanted_testing.proofs.nests.Given as goal

abbrev pub invariant-loop-next : goal.invariant-loop-next
invariant-loop-next l = (l.next ≤ l.end) × Passed l.table l.start l.next

abbrev pub decreases-loop-next : goal.decreases-loop-next
decreases-loop-next l = l.end - l.next

abbrev pub invariant-loop-start : goal.invariant-loop-start
invariant-loop-start l = NestsFrom l.table l.start
