-- `order_bytes::fill_byte_order` meets its contract: the ranks before b are written, so the half of b is its own rank.
use Rattle.rows.proofs.Fill.{Filled}
use Rattle.order_bytes.proofs.fill_byte_order.Given as goal

abbrev pub invariant-loop-b : goal.invariant-loop-b
invariant-loop-b l = Filled (λ k. k) 256 l.fn.order l.order 0 l.b
