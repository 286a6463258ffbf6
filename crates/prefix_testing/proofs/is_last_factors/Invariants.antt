-- `prefix_testing::is_last_factors` meets its contract: the entries before `start` are right, and that is the start of a factor or the end.
use mathlib.Core.Path.{◌≡◌}
use Prim.Native.Nat.{◌-◌}
use lib.ListN.{length}
use Rattle.ranks.specs.Ranks.{ranked}
use Rattle.rows.proofs.Fill.{Right}
use Rattle.prefix_table.specs.State.{last_to}
use Rattle.prefix_table.proofs.Pass.{Reached}
use Rattle.prefix_testing.proofs.is_last_factors.Given as goal

abbrev pub invariant-loop-start : goal.invariant-loop-start
invariant-loop-start l = Reached (ranked l.ranks.list.now l.s) l.start × Right (last_to (ranked l.ranks.list.now l.s)) l.table 0 l.start × (length (ranked l.ranks.list.now l.s) ≡ length l.s)

abbrev pub decreases-loop-start : goal.decreases-loop-start
decreases-loop-start l = length l.s - l.start
