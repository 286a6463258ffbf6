-- `edit_rows::write_middle` meets its contract: what is still to be written are the numbers of the groups that are left, and the starts in them.
use mathlib.Core.Path.{◌≡◌}
use Rattle.words.specs.Factors.{group_numbers}
use Rattle.words.specs.Tables.{suffix_groups}
use Rattle.rows.proofs.Wrote.{wrote_none, wrote_all}
use Rattle.ranks.specs.Ranks.{ranked}
use Rattle.ranks.proofs.Ranked.{length_ranked}
use Rattle.scan.proofs.Left.{left_turn, left_next, left_end}
use Rattle.scan.proofs.Pass.{write_turn, length_numbers, length_fits, power_fits, group_room}
use Rattle.longest_writing.proofs.Writes.{list_none, list_room, list_run, list_over, list_all}
use borrow.Author.Rules.{rules}
use native.Mathlib.Omega.{arith}
use Rattle.edit_rows.proofs.write_middle.Goals as goal

pub loop-g-init : goal.loop-g-init
loop-g-init c =
    let a = c.args in
    let t = ranked a.ranks.list.now a.t.now in
    let gs = suffix_groups t a.end in
    let it = c.into_iter-g-iterator.result in
    let e : suffix_groups (ranked it.ranks.list.now it.s.now) it.at ≡ gs = cc in (
      record { at = a.end; fits = omega (arith, length_ranked a.ranks.list.now a.t.now); is = e },
      rw e (wrote_none (group_numbers gs) a.numbers.now (omega (arith, length_numbers gs, c.requires.2))),
      list_none t a.end a.size a.at a.starts.now c.requires.3,
      length_ranked a.ranks.list.now a.t.now,
    )

pub write_group-requires : goal.write_group-requires
write_group-requires c =
    let l = c.loop-g.invariant in
    let t = left_turn l.0 c.in-Some.ensures.steps in
    let g = t.group in
    (group_room g (rw t.before at l.1), omega (arith, g.fits), omega (arith, g.fits, length_fits g), omega (arith, g.fits, power_fits g))

pub write_run-next-requires : goal.write_run-next-requires
write_run-next-requires c =
    let l = c.loop-g.invariant in
    let t = left_turn l.0 c.in-Some.ensures.steps in
    (list_room t.group (rw t.place at l.2) (search rules), omega (arith, t.group.fits, c.requires.0, l.3))

pub loop-g-preserved-then-g-size : goal.loop-g-preserved-then-g-size
loop-g-preserved-then-g-size c =
    let l = c.loop-g.invariant in
    let t = left_turn l.0 c.in-Some.ensures.steps in
    let w = list_run t.group (rw t.place at l.2) c.if-g-size.true in
    (left_next t, rw (c.write_group.ensures, t.after) (write_turn t.group (rw t.before at l.1)), rw (c.write_run-next.ensures.1, c.write_run-next.ensures.0) w, l.3)

pub loop-g-preserved : goal.loop-g-preserved
loop-g-preserved c =
    let l = c.loop-g.invariant in
    let t = left_turn l.0 c.in-Some.ensures.steps in
    (left_next t, rw (c.write_group.ensures, t.after) (write_turn t.group (rw t.before at l.1)), list_over t.group (rw t.place at l.2) c.if-g-size.false, l.3)

pub returns : goal.returns
returns c =
    let a = c.args in
    let t = ranked a.ranks.list.now a.t.now in
    let l = c.loop-g.invariant in
    let e = c.in-None.ensures.steps.0 in
    let listed = list_all t a.end a.size a.at a.starts.now c.requires.3 l.2 (left_end l.0 e) in
    record { next = listed.0; groups = wrote_all (rw e at l.1); places = listed.1 }
