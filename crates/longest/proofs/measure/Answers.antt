-- `longest::measure` meets its contract: `best` is the longest of the groups that were gone over, and `run` the power of its group.
use mathlib.Core.Path.{◌≡◌}
use Rattle.ranks.specs.Ranks.{ranked}
use Rattle.ranks.proofs.Ranked.{length_ranked}
use Rattle.words.specs.Tables.{suffix_groups}
use Rattle.scan.proofs.Left.{left_turn, left_next, left_end}
use Rattle.longest.proofs.Seen.{measured_none, measured_fits, measured_more, measured_all}
use native.Mathlib.Omega.{arith}
use Rattle.longest.proofs.measure.Goals as goal

pub loop-g-init : goal.loop-g-init
loop-g-init c =
    let a = c.args in
    let s = ranked a.ranks.list.now a.s.now in
    let it = c.into_iter-g-iterator.result in
    let e : suffix_groups (ranked it.ranks.list.now it.s.now) it.at ≡ suffix_groups s 0 = cc in
    (record { at = 0; fits = omega arith; is = e }, measured_none s, length_ranked a.ranks.list.now a.s.now)

pub better-best-requires : goal.better-best-requires
better-best-requires c =
    let l = c.loop-g.invariant in
    let t = left_turn l.0 c.in-Some.ensures.steps in
    omega (arith, measured_fits (rw t.place at l.1) t.group)

pub loop-g-preserved : goal.loop-g-preserved
loop-g-preserved c =
    let l = c.loop-g.invariant in
    let t = left_turn l.0 c.in-Some.ensures.steps in
    let m = measured_more (rw t.place at l.1) t.group in
    (left_next t, rw c.better-best.ensures (rw c.first_run-run.ensures m), l.2)

pub returns : goal.returns
returns c =
    let a = c.args in
    let l = c.loop-g.invariant in
    measured_all (ranked a.ranks.list.now a.s.now) l.1 (left_end l.0 c.in-None.ensures.steps.0)
