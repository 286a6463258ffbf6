-- `reach_testing::test_by` meets its contract: the entries from i on are right.
use lib.ListN.{length}
use Rattle.words.specs.Tables.{longest_at}
use Rattle.ranks.specs.Ranks.{ranked}
use Rattle.rows.proofs.Fill.{Right}
use Rattle.memo.specs.Memo.{Memo}
use Rattle.reach_testing.proofs.test_by.Given as goal

abbrev pub invariant-loop-i : goal.invariant-loop-i
invariant-loop-i l = Memo (ranked l.ranks.list.now l.s) l.memo × Right (longest_at (ranked l.ranks.list.now l.s)) l.table l.i (length (ranked l.ranks.list.now l.s))
