-- `reach_making::make_by` meets its contract: the entries from i on are made, from the last to the first.
use lib.ListN.{length}
use Rattle.words.specs.Tables.{longest_at}
use Rattle.ranks.specs.Ranks.{ranked}
use Rattle.rows.proofs.Fill.{Filled}
use Rattle.memo.specs.Memo.{Memo}
use Rattle.reach_making.proofs.make_by.Given as goal

abbrev pub invariant-loop-i : goal.invariant-loop-i
invariant-loop-i l = Memo (ranked l.ranks.list.now l.s) l.memo × Filled (longest_at (ranked l.ranks.list.now l.s)) (length l.s) l.initial.table l.table l.i (length l.s)
