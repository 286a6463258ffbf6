-- `edited_text::write_edited` meets its contract: the row holds the edited pattern in its front, and the listing of that is written, which no ranks give.
use mathlib.Core.Path.{ap, ◌∙◌}
use lib.ListN.{length}
use native.Mathlib.Omega.{arith}
use Rattle.splicing.proofs.Spliced.{spliced_within, spliced_long, spliced_edited}
use Rattle.text_lines.proofs.Lines.{listing_none}
use Rattle.words.proofs.Edit.{length_edited}
use Rattle.words.specs.Edit.{edited}
use Rattle.edited_text.proofs.write_edited.Goals as goal

-- stands first, so that a wrong call fails at it
pub splice-requires : goal.splice-requires
splice-requires c = (c.requires.0, c.requires.1, omega (arith, c.requires.2))

pub slice_bounds-t-end : goal.slice_bounds-t-end
slice_bounds-t-end c =
    let e = c.args.edit in
    let m = c.edited_length-m.ensures ∙ length_edited e.pattern.now e.from e.to e.block.now c.requires.0 c.requires.1 in
    rw m (spliced_within e.pattern.now e.from e.to e.block.now c.requires.0 c.requires.1 _ c.splice.ensures)

pub slice_bounds-write_text-end : goal.slice_bounds-write_text-end
slice_bounds-write_text-end c =
    let e = c.args.edit in
    let m = c.edited_length-m.ensures ∙ length_edited e.pattern.now e.from e.to e.block.now c.requires.0 c.requires.1 in
    rw m (spliced_long e.pattern.now e.from e.to e.block.now c.requires.0 c.requires.1 _ c.splice.ensures)

pub write_text-requires : goal.write_text-requires
write_text-requires c =
    let e = c.args.edit in
    let m = c.edited_length-m.ensures ∙ length_edited e.pattern.now e.from e.to e.block.now c.requires.0 c.requires.1 in
    let t = spliced_edited e.pattern.now e.from e.to e.block.now c.requires.0 c.requires.1 _ c.splice.ensures in
    rw (m, t, listing_none c.of_bytes.result.list.now (edited e.pattern.now e.from e.to e.block.now) (ap length c.of_bytes.ensures)) c.requires.3

pub returns : goal.returns
returns c =
    let e = c.args.edit in
    let m = c.edited_length-m.ensures ∙ length_edited e.pattern.now e.from e.to e.block.now c.requires.0 c.requires.1 in
    let t = spliced_edited e.pattern.now e.from e.to e.block.now c.requires.0 c.requires.1 _ c.splice.ensures in
    rw (m, t, listing_none c.of_bytes.result.list.now (edited e.pattern.now e.from e.to e.block.now) (ap length c.of_bytes.ensures)) at c.write_text.ensures
