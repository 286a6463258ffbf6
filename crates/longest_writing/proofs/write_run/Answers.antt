-- `longest_writing::write_run` meets its contract: k of the starts stand in the row, and i is the next.
use Rattle.std.proofs.Common.{rules}
use native.Mathlib.Omega.{arith}
use Rattle.longest_writing.proofs.Writes.{run_none, run_next, run_one}
use Rattle.longest_writing.proofs.write_run.Goals as goal

pub loop-k-init : goal.loop-k-init
loop-k-init c = run_none c.args.row.now c.args.at c.args.start c.args.size c.args.power (search rules)

pub overflow_add-i : goal.overflow_add-i
overflow_add-i c = omega (arith, run_next c.loop-k.invariant (search rules))

pub loop-k-preserved : goal.loop-k-preserved
loop-k-preserved c = run_one c.loop-k.invariant (search rules)
