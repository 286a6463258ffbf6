-- `reach_testing::test_rest` meets its contract: the memo begins with empty slots.
use Rattle.ranks.specs.Ranks.{ranked}
use Rattle.memo.proofs.Slots.{memo_start}
use Rattle.reach_testing.proofs.test_rest.Goals as goal

pub test_by-requires : goal.test_by-requires
test_by-requires c =
    (c.requires.0, c.requires.1, memo_start (ranked c.args.ranks.list.now c.args.s.now))
