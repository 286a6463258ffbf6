-- `block::read_block` meets its contract: 9 where there is no block, 1 where it holds too many bytes, else its place and count.
use Rattle.std.proofs.Common.{arith}
use Rattle.block.proofs.Outcome.{first_nine, first_one, read_refused, read_accepted}
use Rattle.block.proofs.read_block.Goals as goal

pub returns-in_default : goal.returns-in_default
returns-in_default c = read_refused (first_nine c.in_default.ensures)

pub returns-then-found-gt-MAX_PATTERN : goal.returns-then-found-gt-MAX_PATTERN
returns-then-found-gt-MAX_PATTERN c = read_refused (first_one c.in-Some.ensures (omega arith))

pub returns : goal.returns
returns c = read_accepted c.in-Some.ensures (omega arith)
