-- `decimal::write_decimal` meets its contract: each turn puts the last digit of what is left before the digits that stand.
use mathlib.Core.Path.{◌≡◌}
use Rattle.decimal.proofs.Spelling.{Spelling}
use Rattle.decimal.proofs.write_decimal.Given as goal

abbrev pub invariant-loop-i : goal.invariant-loop-i
invariant-loop-i l =
    let w = l.initial.out in
    Spelling l.n w.buffer.now w.at l.out.buffer.now l.i l.rest × (l.out.at ≡ w.at) × (l.out.buffer.ghost_name ≡ w.buffer.ghost_name)
