use Rattle.std.proofs.Common.{arith}
use Rattle.decimal.proofs.Decimal.{count_one, count_more, length_decimal}
use Rattle.decimal.proofs.digit_count.Goals as goal

pub loop-rest-preserved : goal.loop-rest-preserved
loop-rest-preserved c = (omega arith, omega (arith, count_more c.loop-rest.rest c.loop-rest-test.true))

pub returns : goal.returns
returns c = omega (arith, count_one c.loop-rest.rest (omega arith), length_decimal c.args.n)
