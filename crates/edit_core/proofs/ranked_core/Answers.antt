-- `edit_core::ranked_core` meets its contract: refused by the first of the tests that holds, or answered.
use lib.ListN.{length}
use Rattle.std.proofs.lemmas.Result.{err_from_is_err_and}
use Rattle.ranks.specs.Ranks.{ranked}
use Rattle.edit.specs.Core.{room_refusals}
use Rattle.edit_core.proofs.Accepted.{fills_first, fills_later, passed_accepted}
use Rattle.edit_spliced.proofs.Bytes.{edited_fits}
use Rattle.edit_core.proofs.ranked_core.Goals as goal

pub returns-in_err-refusal : goal.returns-in_err-refusal
returns-in_err-refusal c =
    let a = c.args in
    let o = a.ranks.list.now in
    let p = err_from_is_err_and c.from_residual.result c.from_residual.ensures.1 in
    rw (p.1, p.2)
    (fills_first (ranked o a.edit.pattern.now) a.array.now a.last.now a.edit.from a.edit.to (ranked o a.edit.block.now) _ c.in_err-refusal.ensures)

pub answer-requires : goal.answer-requires
answer-requires c =
    let a = c.args in
    let o = a.ranks.list.now in
    let accepted = passed_accepted (ranked o a.edit.pattern.now) a.array.now a.last.now a.edit.from a.edit.to (ranked o a.edit.block.now) c.in_ok-refusal.ensures in
    (accepted, edited_fits o a.edit.pattern.now a.edit.block.now accepted, c.requires)

pub returns : goal.returns
returns c =
    let a = c.args in
    let o = a.ranks.list.now in
    fills_later (ranked o a.edit.pattern.now) a.array.now a.last.now a.edit.from a.edit.to (ranked o a.edit.block.now) c.in_ok-refusal.ensures
    {later = room_refusals (ranked o a.edit.pattern.now) a.edit.from a.edit.to (ranked o a.edit.block.now) a.room (length a.starts.now)}
    c.answer.ensures
