-- `longest_writing::write_starts` meets its contract: the starts of the groups that were gone over stand in the row, and the others are left.
use mathlib.Core.Path.{◌≡◌}
use lib.ListN.{length}
use Rattle.ranks.specs.Ranks.{ranked}
use Rattle.words.specs.Tables.{suffix_groups}
use Rattle.scan.proofs.Left.{Left}
use Rattle.longest_writing.proofs.Writes.{Listed}
use Rattle.longest_writing.proofs.write_starts.Given as goal

abbrev pub invariant-loop-g : goal.invariant-loop-g
invariant-loop-g l =
    let s = ranked l.ranks.list.now l.s in
    let it = l.g-iterator in
    (left : Left s (suffix_groups (ranked it.ranks.list.now it.s.now) it.at)) × Listed s l.from l.size l.at l.initial.row l.row l.next left.at × (length s ≡ length l.s)
