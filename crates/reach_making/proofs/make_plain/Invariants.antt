-- `reach_making::make_plain` meets its contract: the entries from i on are made.
use lib.ListN.{length}
use Rattle.words.specs.Tables.{longest_at}
use Rattle.ranks.specs.Ranks.{ranked}
use Rattle.rows.proofs.Fill.{Filled}
use Rattle.reach_making.proofs.make_plain.Given as goal

abbrev pub invariant-loop-i : goal.invariant-loop-i
invariant-loop-i l = Filled (longest_at (ranked l.ranks.list.now l.s)) (length l.s) l.initial.table l.table l.i (length l.s)
