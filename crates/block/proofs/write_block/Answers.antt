-- `block::write_block` meets its contract: the parts of the block stand one behind the other.
use native.Mathlib.Omega.{arith}
use lib.ListN.{length}
use Rattle.refusals.proofs.First.{none, not_long, too_short_lem, not_short}
use Rattle.refusals.proofs.Outcome.{fills_refused, fills_accepted}
use Rattle.block_parts.specs.Block.{block_of}
use Rattle.block.proofs.Outcome.{few_digits, length_block, block_put}
use borrow.Author.Rules.{rules}
use Rattle.block.proofs.write_block.Goals as goal

pub overflow_add-digits : goal.overflow_add-digits
overflow_add-digits c =
    let s = c.args.pattern.now in
    omega (arith, few_digits s (search rules), c.digit_count-digits.ensures)

pub overflow_add-digits-2 : goal.overflow_add-digits-2
overflow_add-digits-2 c =
    let s = c.args.pattern.now in
    omega (arith, few_digits s (search rules), c.digit_count-digits.ensures)

pub returns-then-bytes-digits : goal.returns-then-bytes-digits
returns-then-bytes-digits c =
    let a = c.args in
    let s = a.pattern.now in
    fills_refused (not_long s (search rules) (too_short_lem (length (block_of s)) (length a.bytes.now) (omega (arith, length_block s (search rules)))))

pub overflow_cast-digits : goal.overflow_cast-digits
overflow_cast-digits c =
    let s = c.args.pattern.now in
    omega (arith, few_digits s (omega arith), c.digit_count-digits.ensures)

pub overflow_add-digits-3 : goal.overflow_add-digits-3
overflow_add-digits-3 c =
    let s = c.args.pattern.now in
    omega (arith, few_digits s (omega arith), c.digit_count-digits.ensures)

pub write_decimal-requires : goal.write_decimal-requires
write_decimal-requires c = omega (arith, length_block c.args.pattern.now (omega arith))

pub bytes-requires : goal.bytes-requires
bytes-requires c = omega (arith, length_block c.args.pattern.now (omega arith))

pub returns : goal.returns
returns c =
    let a = c.args in
    let s = a.pattern.now in
    let h = length_block s (omega arith) in
    let puts = block_put s (omega arith) (omega arith) c.digit_count-digits.ensures c.byte.ensures c.byte-2.ensures c.write_decimal.ensures c.bytes.ensures in
    let fits = not_long s (omega arith) (not_short (length (block_of s)) (length a.bytes.now) (omega arith) none) in
    fills_accepted fits (omega (arith, puts.next)) (search (rules, puts.leaves))
