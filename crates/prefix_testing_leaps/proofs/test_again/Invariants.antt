-- `prefix_testing_leaps::test_again` meets its contract: block by block the entries up to j are right.
use Prim.Native.Nat.{◌-◌, ◌≤◌}
use lib.ListN.{length}
use mathlib.Core.Path.{◌≡◌}
use Rattle.ranks.specs.Ranks.{ranked}
use Rattle.prefix_table.specs.State.{Testing}
use Rattle.prefix_testing_leaps.proofs.test_again.Given as goal

abbrev pub invariant-loop-j : goal.invariant-loop-j
invariant-loop-j l = (l.from ≤ l.j) × Testing (ranked l.ranks.list.now l.s) l.table l.i l.j l.p × (length (ranked l.ranks.list.now l.s) ≡ length l.s)

abbrev pub decreases-loop-j : goal.decreases-loop-j
decreases-loop-j l = length l.s - l.j
