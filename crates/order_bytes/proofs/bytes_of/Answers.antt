use Rattle.std.proofs.Common.{arith, sym, ◌∙◌}
use Rattle.ranks.proofs.Ranked.{rank_entry}
use Rattle.ranks.proofs.Inverse.{inverting_one, inverting_all}
use Rattle.order_bytes.proofs.bytes_of.Goals as goal

pub loop-b-preserved : goal.loop-b-preserved
loop-b-preserved c =
    let e = rank_entry c.args.order.now c.loop-b.b (omega (arith, c.requires.size)) in
    inverting_one c.requires c.loop-b.invariant c.from-rank.result (c.from-rank.ensures ∙ sym e) (omega arith)

pub returns : goal.returns
returns c = inverting_all c.requires c.loop-b.invariant (omega arith)
