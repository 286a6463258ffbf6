-- `rising::breaks` meets its contract: it is known of the bytes before t + u whether one is not c.
use Rattle.std.proofs.Common.{◌≡◌, true, false}
use Rattle.rising.specs.Risen.{Run}
use Rattle.rising.proofs.breaks.Given as goal

abbrev pub invariant-loop-u : goal.invariant-loop-u
invariant-loop-u l = (l.some ≡ true → Run l.s l.c l.t l.u → ⊥) × (l.some ≡ false → Run l.s l.c l.t l.u)
