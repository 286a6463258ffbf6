-- `prefix_making_leaps::make_again` meets its contract: block by block the entries up to j are made.
use Prim.Native.Nat.{◌-◌, ◌≤◌}
use lib.ListN.{length}
use mathlib.Core.Path.{◌≡◌}
use Rattle.ranks.specs.Ranks.{ranked}
use Rattle.prefix_making_leaps.specs.Making.{Making}
use Rattle.prefix_making_leaps.proofs.make_again.Given as goal

abbrev pub invariant-loop-j : goal.invariant-loop-j
invariant-loop-j l = (l.from ≤ l.j) × Making (ranked l.ranks.list.now l.s) l.initial.table l.table l.i l.j l.p × (length (ranked l.ranks.list.now l.s) ≡ length l.s)

abbrev pub decreases-loop-j : goal.decreases-loop-j
decreases-loop-j l = length l.s - l.j
