-- `wanted_making::write_symbols` meets its contract: the children among the first k places are counted; the symbols from i on are made.
use lib.ListN.{length}
use Rattle.rows.proofs.Fill.{Filled}
use Rattle.realisation.specs.Symbols.{symbol_at}
use Rattle.wanted_making.proofs.Made.{Counted}
use Rattle.wanted_making.proofs.write_symbols.Given as goal

abbrev pub invariant-loop-k : goal.invariant-loop-k
invariant-loop-k l = Counted l.table l.k l.children

abbrev pub invariant-loop-i : goal.invariant-loop-i
invariant-loop-i l = Counted l.table l.i l.children × Filled (symbol_at l.table) (length l.table) l.initial.pattern l.pattern l.i (length l.table)
