-- `edit_core::core` meets its contract: refused by 13, or answered by the ranks that are handed down.
use lib.ListN.{length}
use Rattle.std.proofs.lemmas.Result.{err_from_is_err_and}
use Rattle.edit.specs.Core.{all_refusals}
use Rattle.ranks.specs.Ranks.{ranked}
use Rattle.edit_core.proofs.Accepted.{fills_not_order, core_order}
use Rattle.edit_core.proofs.core.Goals as goal

pub returns-in_err-ranks : goal.returns-in_err-ranks
returns-in_err-ranks c =
    let a = c.args in
    let o = a.order.now in
    let (e, wrong) = c.in_err-ranks.ensures.refused in
    let p = err_from_is_err_and c.from_residual.result c.from_residual.ensures.1 in
    rw (p.1, p.2, e)
    (fills_not_order o (all_refusals (ranked o a.edit.pattern.now) a.array.now a.last.now a.edit.from a.edit.to (ranked o a.edit.block.now) a.room (length a.starts.now)) wrong)

pub returns : goal.returns
returns c =
    let a = c.args in
    core_order c.in_ok-ranks.ensures.accepted a.array.now a.last.now a.room a.edit.pattern.now a.edit.block.now
    a.edit.pattern_bytes a.edit.block_bytes
    c.ranked_core.ensures
