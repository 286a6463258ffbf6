-- `lyndon::byte_order` meets its contract: a row of under 256 entries is refused, and to another byte order is written.
use Rattle.lyndon.proofs.Ordered.{order_no_room, order_written}
use borrow.Author.Rules.{rules}
use Rattle.lyndon.proofs.byte_order.Goals as goal

pub returns-then-order-lt-ORDER : goal.returns-then-order-lt-ORDER
returns-then-order-lt-ORDER c = order_no_room c.args.order.now (search rules)

pub returns : goal.returns
returns c = order_written c.args.order.now (search rules) c.fill_byte_order.ensures
