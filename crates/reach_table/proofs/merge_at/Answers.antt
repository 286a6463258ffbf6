-- `reach_table::merge_at` meets its contract: the word at i takes in the next word while that is greater.
use Rattle.ranks.specs.Ranks.{ranked}
use Rattle.ranks.proofs.Ranked.{length_ranked}
use borrow.Author.Tests.{not-true, not-false}
use Rattle.reach_table.proofs.Reach.{grown_start, entry_at, grown_turn, grown_stop, grown_end, next_some, next_fits}
use native.Mathlib.Omega.{arith}
use Rattle.reach_table.proofs.merge_at.Goals as goal

pub loop-j-init : goal.loop-j-init
loop-j-init c =
    let e = length_ranked c.args.ranks.list.now c.args.s.now in
    (grown_start (ranked c.args.ranks.list.now c.args.s.now) c.args.i (rw e c.requires.0), e)

pub beside_anew-step-requires : goal.beside_anew-step-requires
beside_anew-step-requires c =
    let e = c.loop-j.invariant.1 in
    let y = c.entry-y in
    let (h, next) = entry_at c.args.ranks.list.now c.args.s.now c.requires.1 c.loop-j.invariant.0.some c.loop-j-test.true y.ensures in
    (c.loop-j.invariant.0.some, next_some c.loop-j.invariant.0 y.result next h, rw e at (next_fits c.loop-j.invariant.0 y.result next h))

pub returns-then-not-step : goal.returns-then-not-step
returns-then-not-step c =
    let e = c.loop-j.invariant.1 in
    let y = c.entry-y in
    let (h, next) = entry_at c.args.ranks.list.now c.args.s.now c.requires.1 c.loop-j.invariant.0.some c.loop-j-test.true y.ensures in
    let w = c.beside_anew-step in
    grown_stop c.loop-j.invariant.0 y.result next h w.ensures.less (not-true w.result.up c.if-not-step.true)

pub loop-j-preserved : goal.loop-j-preserved
loop-j-preserved c =
    let e = c.loop-j.invariant.1 in
    let y = c.entry-y in
    let (h, next) = entry_at c.args.ranks.list.now c.args.s.now c.requires.1 c.loop-j.invariant.0.some c.loop-j-test.true y.ensures in
    let w = c.beside_anew-step in
    (grown_turn c.loop-j.invariant.0 y.result next h w.ensures.less (not-false w.result.up c.if-not-step.false), e)

pub returns : goal.returns
returns c = grown_end c.loop-j.invariant.0 (omega arith)
