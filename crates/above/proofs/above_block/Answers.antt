-- `above::above_block` meets its contract: without ranks a byte is its own rank.
use Rattle.ranks.proofs.Ranked.{none_ranked, rank_value}
use Rattle.above.proofs.above_block.Goals as goal

pub returns : goal.returns
returns c =
    let a = c.args in
    record { yes = λ t e. rw (none_ranked a.ranks.list.now a.s.now e, rank_value a.ranks.list.now a.c e) (c.above_bytes.ensures t) }
