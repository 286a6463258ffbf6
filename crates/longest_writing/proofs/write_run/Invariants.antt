-- `longest_writing::write_run` meets its contract: k of the starts stand in the row, and i is the next.
use Rattle.longest_writing.proofs.Writes.{Run}
use Rattle.longest_writing.proofs.write_run.Given as goal

abbrev pub invariant-loop-k : goal.invariant-loop-k
invariant-loop-k l = Run l.initial.row l.row l.at l.start l.size l.power l.k l.i
