use mathlib.Core.Path.{refl}
use Rattle.decimal.proofs.Spelling.{spelling_none, spelling_one}
use Rattle.std.proofs.Common.{rules}
use Rattle.decimal.proofs.write_decimal.Goals as goal

pub loop-i-init : goal.loop-i-init
loop-i-init c =
    let w = c.args.out.now in
    let start = spelling_none c.args.n w.buffer.now w.at c.requires in
    (rw (← c.digit_count.ensures) at start, refl, refl)

pub loop-i-preserved : goal.loop-i-preserved
loop-i-preserved c = (spelling_one c.loop-i.invariant.0 (search rules), c.loop-i.invariant.1, c.loop-i.invariant.2)
