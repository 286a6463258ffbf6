-- `reach_table::merge_at` meets its contract: the word at i takes in the next word while that is greater.
use mathlib.Core.Path.{◌≡◌}
use lib.ListN.{length}
use Rattle.ranks.specs.Ranks.{ranked}
use Rattle.reach_table.proofs.Reach.{Grown}
use Prim.Native.Nat.{◌-◌}
use Rattle.reach_table.proofs.merge_at.Given as goal

abbrev pub invariant-loop-j : goal.invariant-loop-j
invariant-loop-j l = Grown (ranked l.ranks.list.now l.s) l.i l.j × (length (ranked l.ranks.list.now l.s) ≡ length l.s)

abbrev pub decreases-loop-j : goal.decreases-loop-j
decreases-loop-j l = length l.s - l.j
