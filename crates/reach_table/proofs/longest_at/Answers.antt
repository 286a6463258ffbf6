-- `reach_table::longest_at` meets its contract: the word takes in the next one while that is greater; where it ends, its slot is written.
use Rattle.ranks.specs.Ranks.{ranked}
use Rattle.ranks.proofs.Ranked.{length_ranked}
use borrow.Author.Tests.{not-true, not-false}
use Rattle.reach_table.proofs.Reach.{grown_start, entry_at, next_some, next_fits, grown_end}
use Rattle.reach_table.proofs.Merging.{merging_start, merging_known, merging_place, merging_turn, merging_stop, merging_slot}
use borrow.Author.Rules.{rules}
use native.Mathlib.Omega.{arith}
use Rattle.reach_table.proofs.longest_at.Goals as goal

pub loop-j-init : goal.loop-j-init
loop-j-init c =
    let e = length_ranked c.args.ranks.list.now c.args.s.now in
    (c.requires.2, merging_start (grown_start (ranked c.args.ranks.list.now c.args.s.now) c.args.i (rw e c.requires.0)), e)

pub beside-next-requires : goal.beside-next-requires
beside-next-requires c =
    let m = c.loop-j.invariant.1 in
    let f = c.loop-j.invariant.2 in
    let y = c.entry-y in
    let (h, next) = entry_at c.args.ranks.list.now c.args.s.now c.requires.1 m.grown.some c.loop-j-test.true y.ensures in
    (m.grown.some, next_some m.grown y.result next h, rw f at (next_fits m.grown y.result next h), merging_known m c.min.result (search rules) (search rules))

pub keep-requires : goal.keep-requires
keep-requires c =
    let m = c.loop-j.invariant.1 in
    let f = c.loop-j.invariant.2 in
    let y = c.entry-y in
    let (h, next) = entry_at c.args.ranks.list.now c.args.s.now c.requires.1 m.grown.some c.loop-j-test.true y.ensures in
    let w = c.beside-next in
    let up = not-true w.result.up c.if-not-next.true in
    (c.loop-j.invariant.0, omega (arith, m.grown.some, h, f), merging_slot m y.result w.result.e w.result.up w.ensures next h up c.best.result c.best.ensures)

pub returns-then-not-next : goal.returns-then-not-next
returns-then-not-next c =
    let m = c.loop-j.invariant.1 in
    let f = c.loop-j.invariant.2 in
    let y = c.entry-y in
    let (h, next) = entry_at c.args.ranks.list.now c.args.s.now c.requires.1 m.grown.some c.loop-j-test.true y.ensures in
    let w = c.beside-next in
    let up = not-true w.result.up c.if-not-next.true in
    record { entry = merging_stop m y.result w.result.e w.result.up w.ensures next h up; remains = c.keep.ensures }

pub recall-k-requires : goal.recall-k-requires
recall-k-requires c =
    let m = c.loop-j.invariant.1 in
    let f = c.loop-j.invariant.2 in
    let y = c.entry-y in
    let (h, next) = entry_at c.args.ranks.list.now c.args.s.now c.requires.1 m.grown.some c.loop-j-test.true y.ensures in
    let w = c.beside-next in
    (c.loop-j.invariant.0, omega (arith, m.grown.some, h, f), merging_place m y.result w.result.e w.result.up w.ensures (omega (arith, m.grown.some, h)))

pub loop-j-preserved : goal.loop-j-preserved
loop-j-preserved c =
    let m = c.loop-j.invariant.1 in
    let f = c.loop-j.invariant.2 in
    let y = c.entry-y in
    let (h, next) = entry_at c.args.ranks.list.now c.args.s.now c.requires.1 m.grown.some c.loop-j-test.true y.ensures in
    let w = c.beside-next in
    let up = not-false w.result.up c.if-not-next.false in (
      c.loop-j.invariant.0,
      merging_turn m y.result w.result.e w.result.up w.ensures next h up c.recall-k.result.edge c.recall-k.result.shared c.recall-k.ensures,
      f,
    )

pub returns : goal.returns
returns c = record { entry = grown_end c.loop-j.invariant.1.grown (omega arith); remains = c.loop-j.invariant.0 }
