-- `rotation::least_start` meets its contract: the pass is at the least start or before it.
use Rattle.std.proofs.Common.{rules, ◌≡◌, true, false, is_ge}
use native.Mathlib.Omega.{arith}
use Rattle.ranks.specs.Ranks.{ranked}
use Rattle.ranks.proofs.Ranked.{length_ranked}
use Rattle.words.specs.Tables.{suffix_groups}
use Rattle.scan.proofs.Left.{left_turn, left_next, left_end}
use Rattle.rotation.proofs.Start.{start_next, start_found, start_tells, start_none, none_tells}
use Rattle.rotation.proofs.least_start.Goals as goal

pub loop-g-init : goal.loop-g-init
loop-g-init c =
    let a = c.args in
    let s = ranked a.ranks.list.now a.s.now in
    let it = c.into_iter-g-iterator.result in
    let e : suffix_groups (ranked it.ranks.list.now it.s.now) it.at ≡ suffix_groups s 0 = cc in
    (record { at = 0; fits = omega arith; is = e }, omega arith, length_ranked a.ranks.list.now a.s.now)

pub compare_round-round-requires : goal.compare_round-round-requires
compare_round-round-requires c =
    let t = left_turn c.loop-g.invariant.0 c.in-Some.ensures.steps in
    t.group

pub overflow_mul-span : goal.overflow_mul-span
overflow_mul-span c =
    let t = left_turn c.loop-g.invariant.0 c.in-Some.ensures.steps in
    omega (arith, t.group.fits)

pub overflow_sub-outside : goal.overflow_sub-outside
overflow_sub-outside c =
    let t = left_turn c.loop-g.invariant.0 c.in-Some.ensures.steps in
    omega (arith, t.group.fits)

pub returns-then-is_ge : goal.returns-then-is_ge
returns-then-is_ge c =
    let s = ranked c.args.ranks.list.now c.args.s.now in
    let g = c.in-Some.g in
    let l = c.loop-g.invariant in
    let t = left_turn l.0 c.in-Some.ensures.steps in
    let h = rw t.place at l.1 in
    let round = c.compare_round-round in
    let ge : is_ge round.result ≡ true = search rules in
    let tells = rw l.2 at (start_tells s g.power t.group h round.result round.ensures ge) in
    (start_found s g.power t.group h round.result round.ensures ge, rw c.is_eq.ensures tells)

pub loop-g-preserved : goal.loop-g-preserved
loop-g-preserved c =
    let s = ranked c.args.ranks.list.now c.args.s.now in
    let g = c.in-Some.g in
    let l = c.loop-g.invariant in
    let t = left_turn l.0 c.in-Some.ensures.steps in
    let h = rw t.place at l.1 in
    let round = c.compare_round-round in
    let less : is_ge round.result ≡ false = search rules in
    (left_next t, start_next s g.power t.group h round.result round.ensures less, l.2)

pub returns : goal.returns
returns c =
    let a = c.args in
    let s = ranked a.ranks.list.now a.s.now in
    let l = c.loop-g.invariant in
    let e = left_end l.0 c.in-None.ensures.steps.0 in
    (start_none s l.0.at e l.1, none_tells s l.0.at e l.1)
