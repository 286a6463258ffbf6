-- `order_test::is_byte_order` meets its contract: the ranks before i are those of byte order.
use Rattle.std.proofs.Common.{◌≡◌, ◌%◌, ◌<◌, ◌≤◌}
use Rattle.rows.proofs.Fill.{Right}
use Rattle.order_test.proofs.is_byte_order.Given as goal

abbrev pub invariant-loop-i : goal.invariant-loop-i
invariant-loop-i l = (0 < l.i) × (l.i ≤ 241) × (l.i % 16 ≡ 1) × Right (λ b. b) l.order 0 l.i
