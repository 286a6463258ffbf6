-- `edit_rows::write_middle` meets its contract: what is still to be written are the numbers of the groups that are left, and the starts in them.
use mathlib.Core.Path.{◌≡◌}
use lib.ListN.{length}
use Rattle.words.specs.Factors.{group_numbers}
use Rattle.words.specs.Tables.{suffix_groups}
use Rattle.rows.proofs.Wrote.{Wrote}
use Rattle.ranks.specs.Ranks.{ranked}
use Rattle.scan.proofs.Left.{Left}
use Rattle.longest_writing.proofs.Writes.{Listed}
use Rattle.edit_rows.proofs.write_middle.Given as goal

abbrev pub invariant-loop-g : goal.invariant-loop-g
invariant-loop-g l =
    let t = ranked l.ranks.list.now l.t in
    let it = l.g-iterator in
    let gs = suffix_groups (ranked it.ranks.list.now it.s.now) it.at in
    (left : Left t gs) × Wrote (group_numbers (suffix_groups t l.end)) l.initial.numbers l.numbers l.k (group_numbers gs)
    × Listed t l.end l.size l.at l.initial.starts l.starts l.next left.at × (length t ≡ length l.t)
