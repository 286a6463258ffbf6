-- The records are stored from the numbers that the core wrote, so the rows and the answer are those that are promised.
use Rattle.std.proofs.Common.{refl, arith}
use Rattle.std.proofs.lemmas.Result.{err_from_is_err_and}
use Rattle.edit.proofs.Filled.{max_middle_lem}
use Rattle.edit_answered.proofs.Answered.{row_fits, numbers_fit, edit_answered}
use Rattle.records.specs.Groups.{filled}
use Rattle.lyndon_edit.proofs.edit.Goals as goal

pub core-requires : goal.core-requires
core-requires c = omega (arith, max_middle_lem)

pub returns-in_err-counts : goal.returns-in_err-counts
unfolding filled
returns-in_err-counts c =
    let a = c.args in
    let p = err_from_is_err_and c.from_residual.result c.from_residual.ensures.1 in
    rw (p.1, p.2)
    (edit_answered a.pattern.now a.order.now a.array.now a.last.now a.from a.to a.block.now a.middle.now _ _ _ _ _ c.in_err-counts.ensures 0 refl _ refl
    (λ i _. (c.type_inv.pattern i).fits) (λ i _. (c.type_inv.block i).fits))

pub store_all-requires : goal.store_all-requires
store_all-requires c =
    let a = c.args in
    let said = c.in_ok-counts.ensures in (
      row_fits a.pattern.now a.order.now a.array.now a.last.now a.from a.to a.block.now a.middle.now _ _ _ _ _ said _ refl,
      numbers_fit a.pattern.now a.order.now a.array.now a.last.now a.from a.to a.block.now a.middle.now _ _ _ _ _ said _ refl,
    )

pub returns : goal.returns
returns c =
    let a = c.args in
    edit_answered a.pattern.now a.order.now a.array.now a.last.now a.from a.to a.block.now a.middle.now _ _ _ _ _ c.in_ok-counts.ensures _ refl _ c.store_all.ensures
    (λ i _. (c.type_inv.pattern i).fits) (λ i _. (c.type_inv.block i).fits)
