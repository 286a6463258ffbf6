-- `order_test::rising_block` meets its contract: where all ranks before place k of the block were found to be one more than those before them, they are.
use Rattle.std.proofs.Common.{◌≡◌, ◌+◌, arith, rules}
use Rattle.rows.proofs.Block.{block_test}
use Rattle.rows.proofs.Fill.{right_none}
use Rattle.order_test.proofs.rising_block.Goals as goal

pub loop-k-init : goal.loop-k-init
loop-k-init c =
    let b = c.args in
    let e : b.i + 0 ≡ b.i = omega arith in
    (search rules, λ t. rw e (right_none _ b.order.now b.i))

pub loop-k-preserved : goal.loop-k-preserved
loop-k-preserved c =
    let b = c.args in
    (search rules, block_test b.order.now b.i c.loop-k.k _ c.loop-k.all c.loop-k.invariant.1 c.wrapping_add_u8-next.ensures.value)

pub returns : goal.returns
returns c =
    let e : c.loop-k.k ≡ 16 = omega arith in
    λ t. rw e at (c.loop-k.invariant.1 t)
