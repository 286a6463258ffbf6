-- `text_lines::write_lines` meets its contract: what is still to be written are the lines that are left.
use Rattle.ranks.specs.Ranks.{ranked}
use Rattle.words.specs.Factors.{join}
use Rattle.words.specs.Tables.{suffix_groups}
use Rattle.rows.proofs.Writing.{Writing}
use Rattle.text.specs.Listing.{lines}
use Rattle.text_lines.specs.Texts.{line_texts}
use Rattle.text_lines.proofs.write_lines.Given as goal

abbrev pub invariant-loop-line : goal.invariant-loop-line
invariant-loop-line l =
    let it = l.line-iterator in
    let left = line_texts it.s.now (suffix_groups (ranked it.ranks.list.now it.s.now) it.at) in
    Writing (lines l.s (suffix_groups (ranked l.ranks.list.now l.s) l.from)) l.initial.out l.out (join left)
