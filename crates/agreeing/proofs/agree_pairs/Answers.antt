use Rattle.std.proofs.Common.{arith}
use Rattle.words.proofs.Bounded.{and_true}
use Rattle.agreeing.proofs.Alike.{agrees_more}
use Rattle.agreeing.proofs.agree_pairs.Goals as goal

pub loop-k-preserved : goal.loop-k-preserved
loop-k-preserved c =
    let f = c.agree_block-first in
    let g = c.agree_block-second in
    let both = and_true f.result g.result c.if-not-first-second.false in
    (omega arith, agrees_more c.loop-k.invariant.1 (agrees_more (f.ensures both.0) (g.ensures both.1)))
