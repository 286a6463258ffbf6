-- `seams::survey` meets its contract: each turn passes one group.
use mathlib.Core.Path.{◌≡◌}
use native.Mathlib.Omega.{arith}
use Rattle.ranks.specs.Ranks.{ranked}
use Rattle.ranks.proofs.Ranked.{length_ranked}
use Rattle.words.specs.Tables.{suffix_groups}
use Rattle.scan.proofs.Next.{group_long}
use Rattle.scan.proofs.Left.{left_turn, left_next, left_end}
use Rattle.cuts.proofs.Along.{group_first}
use Rattle.longest.proofs.Seen.{measured_fits}
use Rattle.seams.proofs.Passed.{passed_none, passed_few, passed_more, passed_all}
use Rattle.seams.proofs.survey.Goals as goal

pub loop-g-init : goal.loop-g-init
loop-g-init c =
    let a = c.args in
    let t = ranked a.ranks.list.now a.t.now in
    let it = c.into_iter-g-iterator.result in
    let e : suffix_groups (ranked it.ranks.list.now it.s.now) it.at ≡ suffix_groups t 0 = cc in
    (record { at = 0; fits = omega arith; is = e }, passed_none t a.end a.from a.q, length_ranked a.ranks.list.now a.t.now)

pub overflow_mul-next : goal.overflow_mul-next
overflow_mul-next c =
    let t = left_turn c.loop-g.invariant.0 c.in-Some.ensures.steps in
    omega (arith, t.group.fits, c.loop-g.invariant.2)

pub overflow_add-next : goal.overflow_add-next
overflow_add-next c =
    let t = left_turn c.loop-g.invariant.0 c.in-Some.ensures.steps in
    omega (arith, t.group.fits, c.loop-g.invariant.2)

pub ends_with-ends-requires : goal.ends_with-ends-requires
ends_with-ends-requires c =
    let l = c.loop-g.invariant in
    let t = left_turn l.0 c.in-Some.ensures.steps in
    let g = t.group in
    (g.factor, omega (arith, g.fits, c.requires.1, l.2), omega (arith, passed_few (rw t.place at l.1) g, g.fits, c.requires.1, l.2))

pub start_with-place-requires : goal.start_with-place-requires
start_with-place-requires c =
    let l = c.loop-g.invariant in
    let g = (left_turn l.0 c.in-Some.ensures.steps).group in
    (g.factor, omega (arith, group_first g, g.fits, c.requires.1, l.2))

pub counted-stored-requires : goal.counted-stored-requires
counted-stored-requires c =
    let l = c.loop-g.invariant in
    let t = left_turn l.0 c.in-Some.ensures.steps in
    let g = t.group in
    omega (arith, l.1.since_stored.few, t.place, group_long g, g.fits, c.requires.1, l.2)

pub counted-fresh-requires : goal.counted-fresh-requires
counted-fresh-requires c =
    let l = c.loop-g.invariant in
    let t = left_turn l.0 c.in-Some.ensures.steps in
    let g = t.group in
    omega (arith, l.1.since_start.few, t.place, group_long g, g.fits, c.requires.1, l.2)

pub better-found-requires : goal.better-found-requires
better-found-requires c =
    let l = c.loop-g.invariant in
    let t = left_turn l.0 c.in-Some.ensures.steps in
    let g = t.group in
    let p = rw t.place at l.1 in
    omega (arith, measured_fits p.measured g, g.fits, c.requires.1, l.2)

pub loop-g-preserved : goal.loop-g-preserved
loop-g-preserved c =
    let l = c.loop-g.invariant in
    let t = left_turn l.0 c.in-Some.ensures.steps in
    let p = passed_more (rw t.place at l.1) t.group in (
      left_next t,
      record {
        counted = rw c.ends_with-ends.ensures p.counted;
        reached = rw c.start_with-place.ensures p.reached;
        since_stored = rw c.counted-stored.ensures p.since_stored;
        since_start = rw c.counted-fresh.ensures p.since_start;
        measured = rw c.better-found.ensures (rw c.first_run-run.ensures p.measured);
      },
      l.2,
    )

pub returns : goal.returns
returns c =
    let l = c.loop-g.invariant in
    passed_all l.1 (omega (arith, c.requires.0, l.2)) (left_end l.0 c.in-None.ensures.steps.0)
