use Rattle.std.proofs.Common.{◌≡◌, arith}
use Rattle.rows.proofs.Fill.{filled_all}
use Rattle.ranks.proofs.Ranked.{byte_order_lists}
use Rattle.order_bytes.proofs.fill_byte_order.Goals as goal

pub returns : goal.returns
returns c =
    let e : c.loop-b.b ≡ 256 = omega arith in
    filled_all byte_order_lists c.loop-b.order c.requires (rw e at c.loop-b.invariant)
