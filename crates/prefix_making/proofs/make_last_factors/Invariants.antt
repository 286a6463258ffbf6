-- `prefix_making::make_last_factors` meets its contract: the entries before i are made, and i is the start of a factor or the end.
use mathlib.Core.Path.{◌≡◌}
use Prim.Native.Nat.{◌-◌}
use lib.ListN.{length}
use Rattle.ranks.specs.Ranks.{ranked}
use Rattle.rows.proofs.Fill.{Filled}
use Rattle.prefix_table.specs.State.{last_to}
use Rattle.prefix_table.proofs.Pass.{Reached}
use Rattle.prefix_making.proofs.make_last_factors.Given as goal

abbrev pub invariant-loop-i : goal.invariant-loop-i
invariant-loop-i l = Reached (ranked l.ranks.list.now l.s) l.i × Filled (last_to (ranked l.ranks.list.now l.s)) (length (ranked l.ranks.list.now l.s)) l.initial.table l.table 0 l.i × (length (ranked l.ranks.list.now l.s) ≡ length l.s)

abbrev pub decreases-loop-i : goal.decreases-loop-i
decreases-loop-i l = length l.s - l.i
