-- `longest_writing::write_starts` meets its contract: the starts of the groups that were gone over stand in the row, and the others are left.
use mathlib.Core.Path.{◌≡◌}
use Rattle.ranks.specs.Ranks.{ranked}
use Rattle.ranks.proofs.Ranked.{length_ranked}
use Rattle.words.specs.Tables.{suffix_groups}
use Rattle.rows.proofs.Wrote.{wrote_length}
use Rattle.scan.proofs.Left.{left_turn, left_next, left_end}
use Rattle.longest_writing.proofs.Writes.{list_none, list_room, list_run, list_over, list_all}
use borrow.Author.Rules.{rules}
use native.Mathlib.Omega.{arith}
use Rattle.longest_writing.proofs.write_starts.Goals as goal

pub loop-g-init : goal.loop-g-init
loop-g-init c =
    let a = c.args in
    let s = ranked a.ranks.list.now a.s.now in
    let it = c.into_iter-g-iterator.result in
    let e : suffix_groups (ranked it.ranks.list.now it.s.now) it.at ≡ suffix_groups s a.from = cc in (
      record { at = a.from; fits = omega (arith, length_ranked a.ranks.list.now a.s.now); is = e },
      list_none s a.from a.size a.at a.row.now (search rules),
      length_ranked a.ranks.list.now a.s.now,
    )

pub write_run-next-requires : goal.write_run-next-requires
write_run-next-requires c =
    let l = c.loop-g.invariant in
    let t = left_turn l.0 c.in-Some.ensures.steps in
    (list_room t.group (rw t.place at l.1) (search rules), omega (arith, t.group.fits))

pub loop-g-preserved-then-g-size : goal.loop-g-preserved-then-g-size
loop-g-preserved-then-g-size c =
    let l = c.loop-g.invariant in
    let t = left_turn l.0 c.in-Some.ensures.steps in
    let w = list_run t.group (rw t.place at l.1) c.if-g-size.true in
    (left_next t, rw (c.write_run-next.ensures.1, c.write_run-next.ensures.0) w, l.2)

pub loop-g-preserved : goal.loop-g-preserved
loop-g-preserved c =
    let l = c.loop-g.invariant in
    let t = left_turn l.0 c.in-Some.ensures.steps in
    (left_next t, list_over t.group (rw t.place at l.1) c.if-g-size.false, l.2)

pub shape_of-row : goal.shape_of-row
shape_of-row c = wrote_length c.loop-g.invariant.1

pub returns : goal.returns
returns c =
    let a = c.args in
    let l = c.loop-g.invariant in
    list_all (ranked a.ranks.list.now a.s.now) a.from a.size a.at a.row.now (search rules) l.1 (left_end l.0 c.in-None.ensures.steps.0)
