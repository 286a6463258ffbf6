-- `suffix_chain::write_suffix` meets its contract: what is still to be written are the numbers of the groups that are left, three of each.
use mathlib.Core.Path.{◌≡◌}
use lib.ListN.{length}
use Rattle.ranks.specs.Ranks.{ranked}
use Rattle.words.specs.Factors.{group_numbers}
use Rattle.words.specs.Tables.{suffix_groups}
use Rattle.rows.proofs.Wrote.{Wrote}
use Rattle.scan.proofs.Left.{Left}
use Rattle.suffix_chain.proofs.write_suffix.Given as goal

abbrev pub invariant-loop-g : goal.invariant-loop-g
invariant-loop-g l =
    let s = ranked l.ranks.list.now l.s in
    let it = l.g-iterator in
    let gs = suffix_groups (ranked it.ranks.list.now it.s.now) it.at in
    Left s gs × Wrote (group_numbers (suffix_groups s l.start)) l.initial.row l.row l.at (group_numbers gs) × (length s ≡ length l.s)
