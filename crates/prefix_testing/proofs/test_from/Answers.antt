-- `prefix_testing::test_from` meets its contract: the loops keep the state of Duval's scan and that the entries up to `end`, and to k, are right.
use Prim.Native.Nat.{◌<◌}
use lib.ListN.{length}
use Rattle.ranks.specs.Ranks.{ranked}
use Rattle.ranks.proofs.Ranked.{length_ranked}
use Rattle.scan.proofs.Next.{stop_end}
use Rattle.prefix_table.proofs.Start.{start_below}
use Rattle.prefix_table.proofs.Last.{testing_up}
use Rattle.prefix_table.proofs.Turn.{turn_equal, turn_greater, turn_smaller}
use Rattle.prefix_testing.proofs.Testing.{testing_first, testing_start, testing_up_wrong, testing_same, testing_same_wrong, tested_from}
use native.Mathlib.Omega.{arith}
use Rattle.prefix_testing.proofs.test_from.Goals as goal
use Rattle.prefix_testing.proofs.test_from.Goals.{then-old-new+else-below+else-table-k, else-old-new+else-table-k-2}

pub offset_bounds-table-i : goal.offset_bounds-table-i
offset_bounds-table-i c = omega (arith, start_below c.requires.0, length_ranked c.args.ranks.list.now c.args.s.now)

pub bounds-table-i : goal.bounds-table-i
bounds-table-i c = omega (arith, start_below c.requires.0, length_ranked c.args.ranks.list.now c.args.s.now)

pub returns-then-table-i-ne1 : goal.returns-then-table-i-ne1
returns-then-table-i-ne1 c = testing_first c.requires.0 c.args.table.now c.if-table-i-ne1.true

pub overflow_add-end : goal.overflow_add-end
overflow_add-end c = omega (arith, start_below c.requires.0, length_ranked c.args.ranks.list.now c.args.s.now)

pub loop-end-init : goal.loop-end-init
loop-end-init c = (omega arith, omega arith, testing_start c.requires.0 c.args.table.now c.if-table-i-ne1.false)

pub returns-then-below : goal.returns-then-below
returns-then-below c =
    let o = c.args.ranks.list.now in
    let s = c.args.s.now in
    let v = c.loop-k.invariant in
    let l : c.loop-k.k < length (ranked o s) = omega (arith, length_ranked o s) in
    tested_from c.requires.0 c.args.table.now v (turn_smaller o s v.scan l c.below.ensures c.if-below.true)

pub returns-then-table-k : goal.returns-then-table-k
returns-then-table-k c =
    let o = c.args.ranks.list.now in
    let s = c.args.s.now in
    let v = c.loop-k.invariant in
    let l : c.loop-k.k < length (ranked o s) = omega (arith, length_ranked o s) in
    let up = turn_greater o s v.scan l c.below.ensures c.if-below.false c.if-old-new.true in
    testing_up_wrong c.requires.0 c.args.table.now v l up c.if-table-k.true

pub returns-then-table-k-2 : goal.returns-then-table-k-2
returns-then-table-k-2 c =
    let o = c.args.ranks.list.now in
    let s = c.args.s.now in
    let v = c.loop-k.invariant in
    let l : c.loop-k.k < length (ranked o s) = omega (arith, length_ranked o s) in
    let same = turn_equal o s v.scan l c.if-old-new.false in
    testing_same_wrong c.requires.0 c.args.table.now v l same c.if-table-k-2.true

pub loop-k-preserved : goal.loop-k-preserved
loop-k-preserved c =
    let o = c.args.ranks.list.now in
    let s = c.args.s.now in
    let row = c.args.table.now in
    let v = c.loop-k.invariant in
    let l : c.loop-k.k < length (ranked o s) = omega (arith, length_ranked o s) in
    elim c.if-old-new.branch [
      | then-old-new+else-below+else-table-k w ↦
          rw w.size-is (testing_up c.requires.0 row v l (turn_greater o s v.scan l w.below.ensures w.if-below.false w.if-old-new.true) w.if-table-k.false)
      | else-old-new+else-table-k-2 w ↦
          rw w.size-is (testing_same c.requires.0 row v l (turn_equal o s v.scan l w.if-old-new.false) w.if-table-k-2.false)
    ]

pub returns : goal.returns
returns c =
    let v = c.loop-end.invariant.2 in
    tested_from c.requires.0 c.args.table.now v (stop_end v.scan (omega (arith, length_ranked c.args.ranks.list.now c.args.s.now)))
