-- `edit_spliced::answer_in` meets its contract: filled from the edited pattern in the buffer.
use mathlib.Core.Path.{◌∙◌}
use Rattle.splicing.proofs.Spliced.{spliced_long}
use Rattle.edit_spliced.proofs.Bytes.{stretch_inside, edited_long, accepted_spliced}
use Rattle.edit_spliced.proofs.answer_in.Goals as goal

-- stands first, so that a wrong call fails at it
pub splice-requires : goal.splice-requires
splice-requires c = (c.requires.0.start, stretch_inside c.args.ranks.list.now c.args.edit.pattern.now c.args.edit.block.now c.requires.0, c.requires.1)

pub slice_bounds-fill-end-2 : goal.slice_bounds-fill-end-2
slice_bounds-fill-end-2 c =
    let o = c.args.ranks.list.now in
    let e = c.args.edit in
    rw (c.edited_length-m.ensures ∙ edited_long o e.pattern.now e.block.now c.requires.0)
    (spliced_long e.pattern.now e.from e.to e.block.now c.requires.0.start (stretch_inside o e.pattern.now e.block.now c.requires.0) _ c.splice.ensures)

pub fill-requires : goal.fill-requires
fill-requires c =
    let o = c.args.ranks.list.now in
    let e = c.args.edit in
    let accepted = accepted_spliced o e.pattern.now e.block.now c.requires.0 _ c.splice.ensures in
    (rw (c.edited_length-m.ensures ∙ edited_long o e.pattern.now e.block.now c.requires.0) accepted, c.requires.2)
