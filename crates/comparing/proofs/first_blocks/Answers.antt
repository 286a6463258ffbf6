-- `comparing::first_blocks` meets its contract: what agrees in the first bytes of both strings agrees in the strings.
use mathlib.Core.Path.{sym}
use native.Mathlib.Omega.{arith}
use lib.ListN.{length-take}
use lib.Seq.{length-take-le}
use Rattle.agreeing.proofs.Alike.{agrees_front}
use Rattle.comparing.proofs.first_blocks.Goals as goal

pub slice_bounds-agree_blocks-end : goal.slice_bounds-agree_blocks-end
slice_bounds-agree_blocks-end c =
    let a = c.args in
    sym (length-take-le a.end a.a.now (omega arith))

pub slice_bounds-agree_blocks-end-2 : goal.slice_bounds-agree_blocks-end-2
slice_bounds-agree_blocks-end-2 c =
    let a = c.args in
    sym (length-take-le a.end a.b.now (omega arith))

pub agree_blocks-requires : goal.agree_blocks-requires
agree_blocks-requires c =
    let a = c.args in
    (omega (arith, length-take a.end a.a.now), omega (arith, length-take a.end a.b.now))

pub returns : goal.returns
returns c =
    let r = c.agree_blocks.ensures in
    (r.0, agrees_front r.1 r.0)
