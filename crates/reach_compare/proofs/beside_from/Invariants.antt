-- `reach_compare::beside_from` meets its contract: the symbols where the words first differ, or their lengths, say which is smaller.
use Rattle.agreeing.specs.Agrees.{Agrees}
use Rattle.reach_compare.proofs.beside_from.Given as goal

abbrev pub invariant-loop-e : goal.invariant-loop-e
invariant-loop-e l = Agrees l.s l.i l.s l.j l.e
