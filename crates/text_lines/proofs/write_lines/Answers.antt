-- `text_lines::write_lines` meets its contract: what is still to be written are the lines that are left.
use Rattle.std.proofs.Common.{◌≡◌, ap}
use Rattle.ranks.specs.Ranks.{ranked}
use Rattle.words.specs.Factors.{join}
use Rattle.words.specs.Tables.{suffix_groups}
use Rattle.rows.proofs.Writing.{writing_none, writing_fits, writing_part, writing_all}
use Rattle.text.specs.Listing.{lines}
use Rattle.text_lines.specs.Texts.{line_texts}
use Rattle.text_lines.proofs.Lines.{lines_joined}
use Rattle.text_lines.proofs.write_lines.Goals as goal

pub loop-line-init : goal.loop-line-init
loop-line-init c =
    let a = c.args in
    let gs = suffix_groups (ranked a.ranks.list.now a.s.now) a.from in
    let it = c.into_iter-line-iterator.result in
    let e : line_texts it.s.now (suffix_groups (ranked it.ranks.list.now it.s.now) it.at) ≡ line_texts a.s.now gs = cc in
    rw (e, lines_joined a.s.now gs) (writing_none (lines a.s.now gs) a.out.now c.requires.1)

pub write_line-requires : goal.write_line-requires
write_line-requires c =
    let e = ap join c.in-Some.ensures.steps in
    writing_fits _ _ (rw e at c.loop-line.invariant)

pub loop-line-preserved : goal.loop-line-preserved
loop-line-preserved c =
    let e = ap join c.in-Some.ensures.steps in
    writing_part _ _ (rw e at c.loop-line.invariant) c.write_line.ensures

pub returns : goal.returns
returns c =
    let none = ap join c.in-None.ensures.steps.0 in
    writing_all (rw none at c.loop-line.invariant)
