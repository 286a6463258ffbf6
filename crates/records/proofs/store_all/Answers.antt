use Rattle.std.proofs.Common.{sym, arith}
use Rattle.records.proofs.Filled.{none_filled, one_filled}
use Rattle.records.proofs.store_all.Goals as goal

pub loop-i-init : goal.loop-i-init
loop-i-init c = sym (none_filled c.args.numbers.now c.args.row.now)

-- a turn stores the next group after those that are stored
pub loop-i-preserved : goal.loop-i-preserved
loop-i-preserved c =
    let one = one_filled c.loop-i.i c.args.numbers.now c.args.row.now (omega arith) (omega arith) in cc
