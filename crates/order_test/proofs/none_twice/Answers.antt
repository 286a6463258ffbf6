-- `order_test::none_twice` meets its contract: the marks tell which ranks stood before this place, each once.
use Rattle.std.proofs.Common.{arith, rules}
use Rattle.ranks.proofs.Marks.{marked_none, marked_one, marked_twice, marked_all}
use Rattle.order_test.proofs.none_twice.Goals as goal

pub loop-rank-init : goal.loop-rank-init
loop-rank-init c = marked_none c.args.order.now

pub returns-then-marks-at-ne0 : goal.returns-then-marks-at-ne0
returns-then-marks-at-ne0 c =
    marked_twice c.loop-rank.invariant (omega arith) c.from-at.result (search rules) (search rules) (search rules)

pub loop-rank-preserved : goal.loop-rank-preserved
loop-rank-preserved c =
    marked_one c.loop-rank.invariant (omega arith) c.from-at.result (search rules) (search rules) (search rules)

pub returns : goal.returns
returns c = marked_all c.loop-rank.invariant c.requires (search rules)
