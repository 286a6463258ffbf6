-- `seams::plan` meets its contract: what the stored table and the pass tell are the seams and what stands between them.
use Rattle.seams.proofs.Meets.{starts_within, edited_short, survey_asks, planned_old, planned_new}
use mathlib.Core.Path.{sym, ap}
use Prim.Native.Nat.{◌+◌}
use native.Mathlib.Omega.{arith}
use Rattle.ranks.specs.Ranks.{ranked}
use Rattle.ranks.proofs.Ranked.{length_ranked}
use Rattle.seams.proofs.plan.Goals as goal
use Rattle.seams.proofs.plan.Goals.{then-stored-ends, else-stored-ends}

pub stored_ends-stored-requires : goal.stored_ends-stored-requires
stored_ends-stored-requires c =
    rw (length_ranked c.args.ranks.list.now c.args.edit.pattern.now) at c.requires.table

pub survey-seen-requires : goal.survey-seen-requires
survey-seen-requires c =
    let b = length_ranked c.args.ranks.list.now c.args.edit.block.now in
    let t = length_ranked c.args.ranks.list.now c.args.t.now in
    let a = survey_asks c.requires in
    (omega (arith, a.0, b, t), omega (arith, a.1, t))

pub overflow_add-resume : goal.overflow_add-resume
overflow_add-resume c =
    let t = ranked c.args.ranks.list.now c.args.t.now in
    omega (arith, starts_within t c.survey-seen.ensures.next, edited_short c.requires, c.requires.stretch, c.requires.pattern)

pub returns : goal.returns
returns c =
    let b = ap (λ l. c.args.edit.from + l) (sym (length_ranked c.args.ranks.list.now c.args.edit.block.now)) in
    elim c.if-stored-ends.branch [
      | then-stored-ends w ↦ rw (← ap (λ k. k.0) w.kept-is, ← ap (λ k. k.1) w.kept-is) at
          (planned_old c.requires b c.stored_ends-stored.ensures c.survey-seen.ensures w.if-stored-ends.true (rw w.kept-is at c.groups_between.ensures))
      | else-stored-ends w ↦ rw (← ap (λ k. k.0) w.kept-is, ← ap (λ k. k.1) w.kept-is) at
          (planned_new c.requires b c.stored_ends-stored.ensures c.survey-seen.ensures w.if-stored-ends.false (rw w.kept-is at c.groups_between.ensures))
    ]
