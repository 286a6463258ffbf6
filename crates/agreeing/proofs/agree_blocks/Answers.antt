use Rattle.std.proofs.Common.{arith}
use Rattle.agreeing.proofs.Alike.{agrees_more}
use Rattle.agreeing.proofs.agree_blocks.Goals as goal

pub loop-k-init : goal.loop-k-init
loop-k-init c =
    let b = c.agree_block.ensures c.if-not-agree_block.false in
    (omega arith, agrees_more b c.agree_pairs-k.ensures.1)

pub loop-k-preserved : goal.loop-k-preserved
loop-k-preserved c =
    let b = c.agree_block-in-loop-k.ensures c.if-not-agree_block-2.false in
    (omega arith, agrees_more c.loop-k.invariant.1 b)
