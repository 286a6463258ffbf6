-- `prefix_chain::write_prefix` meets its contract: what is still to be written are the numbers of the groups that are left.
use Prim.Native.Nat.{◌≤◌}
use Rattle.std.specs.Prelude.{reverse}
use Rattle.words.specs.Factors.{group_numbers}
use Rattle.words.specs.Tables.{prefix_groups}
use Rattle.ranks.specs.Ranks.{ranked}
use Rattle.rows.proofs.Back.{Back}
use Rattle.prefix_chain.proofs.TurnBack.{LeftBack}
use Rattle.prefix_chain.proofs.write_prefix.Given as goal

abbrev pub invariant-loop-g : goal.invariant-loop-g
invariant-loop-g l =
    let s = ranked l.ranks.list.now l.s in
    let it = l.g-iterator in
    (left : LeftBack s (reverse (prefix_groups (ranked it.ranks.list.now it.s.now) it.end)))
    × (left.end ≤ l.end) × Back (group_numbers (prefix_groups s l.end)) l.initial.row l.row l.at (group_numbers (prefix_groups s left.end))
