-- `order_test::is_byte_order` meets its contract: the ranks before i are those of byte order.
use Rattle.std.proofs.Common.{refl, arith, rules}
use Rattle.rows.proofs.Fill.{right_one}
use Rattle.ranks.proofs.Ranked.{byte_order_is, rising_on}
use Rattle.order_test.proofs.is_byte_order.Goals as goal

pub loop-i-init : goal.loop-i-init
loop-i-init c = (search rules, search rules, refl, right_one _ c.args.order.now 0 1 refl (search rules))

pub loop-i-preserved : goal.loop-i-preserved
loop-i-preserved c =
    let a = c.args in (
      omega arith,
      omega arith,
      omega arith,
      rising_on a.order.now c.loop-i.i 16 c.loop-i.invariant.0 (omega arith) c.loop-i.invariant.3
          (c.rising_block.ensures c.if-not-rising_block.false),
    )

pub returns : goal.returns
returns c =
    λ e. byte_order_is c.args.order.now c.requires
    (rising_on c.args.order.now 240 16 (omega arith) (omega arith) (λ k a b. c.loop-i.invariant.3 k a (omega arith)) (c.rising_block-2.ensures e))
