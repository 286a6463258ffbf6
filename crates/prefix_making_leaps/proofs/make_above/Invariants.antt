-- `prefix_making_leaps::make_above` meets its contract: block by block the entries up to j are made.
use Prim.Native.Nat.{◌-◌, ◌≤◌}
use lib.ListN.{length}
use mathlib.Core.Path.{◌≡◌}
use Rattle.ranks.specs.Ranks.{ranked}
use Rattle.above.specs.Above.{AboveEnd}
use Rattle.prefix_making_leaps.specs.Making.{Making}
use Rattle.prefix_making_leaps.proofs.make_above.Given as goal

abbrev pub invariant-loop-j : goal.invariant-loop-j
invariant-loop-j l = (l.from ≤ l.j) × Making (ranked l.ranks.list.now l.s) l.initial.table l.table l.i l.j (l.j - l.i) × (length (ranked l.ranks.list.now l.s) ≡ length l.s) × AboveEnd l.ranks.list.now l.s l.c l.from l.end × (l.j ≤ l.end)

abbrev pub decreases-loop-j : goal.decreases-loop-j
decreases-loop-j l = l.end - l.j
