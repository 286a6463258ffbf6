-- `prefix_chain::group_before` meets its contract: the loop counts equal factors back, and where it stops the group is read off.
use mathlib.Core.Path.{◌≡◌}
use lib.ListN.{length}
use Rattle.ranks.specs.Ranks.{ranked}
use Rattle.prefix_chain.proofs.Before.{Equal}
use Rattle.prefix_chain.proofs.group_before.Given as goal

abbrev pub invariant-loop-j : goal.invariant-loop-j
invariant-loop-j l = Equal (ranked l.ranks.list.now l.s) l.q l.length l.power l.j × (length (ranked l.ranks.list.now l.s) ≡ length l.s)

abbrev pub decreases-loop-j : goal.decreases-loop-j
decreases-loop-j l = l.j
