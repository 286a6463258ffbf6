-- `factoring::fill_groups` meets its contract: what is still to be written are the numbers of the groups that are left, three of each.
use mathlib.Core.Path.{◌≡◌}
use Rattle.ranks.specs.Ranks.{ranked}
use Rattle.ranks.proofs.Ranked.{length_ranked}
use Rattle.words.specs.Factors.{group_numbers}
use Rattle.words.specs.Tables.{suffix_groups}
use Rattle.rows.proofs.Wrote.{wrote_none, wrote_all, wrote_count, wrote_length}
use Rattle.scan.proofs.Left.{left_from, left_turn, left_next}
use Rattle.scan.proofs.Pass.{length_numbers}
use Rattle.scan.proofs.Pass.{length_fits, power_fits, group_room}
use Rattle.factoring.proofs.Turn.{group_written}
use native.Mathlib.Omega.{arith}
use Rattle.factoring.proofs.fill_groups.Goals as goal

pub loop-g-init : goal.loop-g-init
loop-g-init c =
    let a = c.args in
    let s = ranked a.ranks.list.now a.s.now in
    let gs = suffix_groups s a.from in
    let it = c.into_iter-g-iterator.result in
    let e : suffix_groups (ranked it.ranks.list.now it.s.now) it.at ≡ gs = cc in (
      rw e (left_from s a.from (omega (arith, length_ranked a.ranks.list.now a.s.now))),
      rw e (wrote_none (group_numbers gs) a.row.now (omega (arith, length_numbers gs))),
      length_ranked a.ranks.list.now a.s.now,
    )

pub write_group-requires : goal.write_group-requires
write_group-requires c =
    let l = c.loop-g.invariant in
    let t = left_turn l.0 c.in-Some.ensures.steps in
    let g = t.group in
    (group_room g (rw t.before at l.1), omega (arith, g.fits), omega (arith, g.fits, length_fits g), omega (arith, g.fits, power_fits g))

pub overflow_add-at : goal.overflow_add-at
overflow_add-at c =
    let l = c.loop-g.invariant in
    let t = left_turn l.0 c.in-Some.ensures.steps in
    omega (arith, group_room t.group (rw t.before at l.1), wrote_length l.1)

pub loop-g-preserved : goal.loop-g-preserved
loop-g-preserved c =
    let l = c.loop-g.invariant in
    let t = left_turn l.0 c.in-Some.ensures.steps in
    (left_next t, rw t.after (group_written t.group (rw t.before at l.1) c.write_group.ensures), l.2)

pub shape_of-row : goal.shape_of-row
shape_of-row c = wrote_length c.loop-g.invariant.1

pub returns : goal.returns
returns c =
    let a = c.args in
    let w = rw c.in-None.ensures.steps.0 at c.loop-g.invariant.1 in
    (omega (arith, wrote_count w, length_numbers (suffix_groups (ranked a.ranks.list.now a.s.now) a.from)), wrote_all w)
