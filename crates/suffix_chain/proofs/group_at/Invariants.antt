-- `suffix_chain::group_at` meets its contract: the loop counts equal factors forward, and where it stops the group is read off.
use mathlib.Core.Path.{◌≡◌}
use Prim.Native.Nat.{◌-◌}
use lib.ListN.{length as size}
use Rattle.ranks.specs.Ranks.{ranked}
use Rattle.suffix_chain.proofs.After.{Equal}
use Rattle.suffix_chain.proofs.group_at.Given as goal

abbrev pub invariant-loop-j : goal.invariant-loop-j
invariant-loop-j l = Equal (ranked l.ranks.list.now l.s) l.i l.length l.power l.j × (size (ranked l.ranks.list.now l.s) ≡ size l.s)

abbrev pub decreases-loop-j : goal.decreases-loop-j
decreases-loop-j l = size l.s - l.j
