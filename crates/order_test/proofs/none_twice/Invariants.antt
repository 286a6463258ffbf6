-- `order_test::none_twice` meets its contract: the marks tell which ranks stood before this place, each once.
use Rattle.ranks.proofs.Marks.{Marked}
use Rattle.order_test.proofs.none_twice.Given as goal

abbrev pub invariant-loop-rank : goal.invariant-loop-rank
invariant-loop-rank l = Marked l.order l.marks l.rank-index
