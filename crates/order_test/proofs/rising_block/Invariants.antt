-- `order_test::rising_block` meets its contract: where all ranks before place k of the block were found to be one more than those before them, they are.
use Rattle.std.proofs.Common.{◌≡◌, ◌+◌, ◌-◌, ◌%◌, ◌≤◌, true, get_or}
use Rattle.rows.proofs.Fill.{Right}
use Rattle.order_test.proofs.rising_block.Given as goal

abbrev pub invariant-loop-k : goal.invariant-loop-k
invariant-loop-k l = (l.k ≤ 16) × (l.all ≡ true → Right (λ b. (get_or l.order (b - 1) 0 + 1) % 256) l.order l.i (l.i + l.k))

abbrev pub decreases-loop-k : goal.decreases-loop-k
decreases-loop-k l = 16 - l.k
