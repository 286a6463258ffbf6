-- `reach_making::make_rest` meets its contract: the memo begins with empty slots.
use Rattle.ranks.specs.Ranks.{ranked}
use Rattle.memo.proofs.Slots.{memo_start}
use Rattle.reach_making.proofs.make_rest.Goals as goal

pub make_by-requires : goal.make_by-requires
make_by-requires c =
    (c.requires.0, c.requires.1, c.requires.2, memo_start (ranked c.args.ranks.list.now c.args.s.now))
