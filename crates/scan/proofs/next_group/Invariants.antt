-- `scan::next_group` meets its contract: both loops keep the state of Duval's scan, and where it stops the group is read off.
use mathlib.Core.Path.{◌≡◌}
use Prim.Native.Nat.{◌-◌, ◌≤◌, ◌<◌}
use lib.ListN.{length}
use Rattle.words.proofs.Scan.{Scan}
use Rattle.ranks.specs.Ranks.{ranked}
use Rattle.scan.proofs.next_group.Given as goal

abbrev pub invariant-loop-k : goal.invariant-loop-k
invariant-loop-k l = Scan (ranked l.ranks.list.now l.s) l.i l.k l.p × (length (ranked l.ranks.list.now l.s) ≡ length l.s)

abbrev pub invariant-loop-j : goal.invariant-loop-j
invariant-loop-j l = (0 < l.gap) × (l.gap ≤ 64) × Scan (ranked l.ranks.list.now l.s) l.i l.j l.p × (length (ranked l.ranks.list.now l.s) ≡ length l.s)

abbrev pub decreases-loop-j : goal.decreases-loop-j
decreases-loop-j l = length l.s - l.j
