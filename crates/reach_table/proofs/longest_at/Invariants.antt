-- `reach_table::longest_at` meets its contract: the word takes in the next one while that is greater; where it ends, its slot is written.
use mathlib.Core.Path.{◌≡◌}
use lib.ListN.{length}
use Rattle.ranks.specs.Ranks.{ranked}
use Rattle.memo.specs.Memo.{Memo}
use Rattle.reach_table.proofs.Merging.{Merging}
use Prim.Native.Nat.{◌-◌}
use Rattle.reach_table.proofs.longest_at.Given as goal

abbrev pub invariant-loop-j : goal.invariant-loop-j
invariant-loop-j l = Memo (ranked l.ranks.list.now l.s) l.memo × Merging (ranked l.ranks.list.now l.s) l.i l.j l.d l.edge l.shared
    × (length (ranked l.ranks.list.now l.s) ≡ length l.s)

abbrev pub decreases-loop-j : goal.decreases-loop-j
decreases-loop-j l = length l.s - l.j
