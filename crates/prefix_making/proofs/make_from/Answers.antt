-- `prefix_making::make_from` meets its contract: the loops keep the state of Duval's scan and the entries up to j, and to k.
use Prim.Native.Nat.{◌<◌}
use lib.ListN.{length}
use Rattle.ranks.specs.Ranks.{ranked}
use Rattle.ranks.proofs.Ranked.{length_ranked}
use Rattle.scan.proofs.Next.{stop_end}
use Rattle.prefix_table.proofs.Start.{start_below}
use Rattle.prefix_table.proofs.Turn.{turn_equal, turn_greater, turn_smaller}
use Rattle.prefix_making.proofs.Making.{making_start, making_up, making_same, made_from, making_on}
use native.Mathlib.Omega.{arith}
use Rattle.prefix_making.proofs.make_from.Goals as goal
use Rattle.prefix_making.proofs.make_from.Goals.{then-x-y+else-below, else-x-y}

pub offset_bounds-table-i : goal.offset_bounds-table-i
offset_bounds-table-i c = omega (arith, start_below c.requires.0, length_ranked c.args.ranks.list.now c.args.s.now)

pub bounds-table-i : goal.bounds-table-i
bounds-table-i c = omega (arith, start_below c.requires.0, length_ranked c.args.ranks.list.now c.args.s.now)

pub overflow_add-j : goal.overflow_add-j
overflow_add-j c = omega (arith, start_below c.requires.0, length_ranked c.args.ranks.list.now c.args.s.now)

pub loop-j-init : goal.loop-j-init
loop-j-init c =
    let e = length_ranked c.args.ranks.list.now c.args.s.now in
    (omega arith, omega arith, making_start c.requires.0 c.args.table.now (omega arith))

pub returns-then-below : goal.returns-then-below
returns-then-below c =
    let o = c.args.ranks.list.now in
    let s = c.args.s.now in
    let m = c.loop-k.invariant in
    let l : c.loop-k.k < length (ranked o s) = omega (arith, length_ranked o s) in
    made_from c.requires.0 (making_on c.loop-j.invariant.2 m) (turn_smaller o s m.scan l c.below.ensures c.if-below.true)

pub loop-k-preserved : goal.loop-k-preserved
loop-k-preserved c =
    let o = c.args.ranks.list.now in
    let s = c.args.s.now in
    let m = c.loop-k.invariant in
    let l : c.loop-k.k < length (ranked o s) = omega (arith, length_ranked o s) in
    elim c.if-x-y.branch [
      | then-x-y+else-below w ↦ rw (w.table-is, w.p-is) (making_up c.requires.0 m l (turn_greater o s m.scan l w.below.ensures w.if-below.false w.if-x-y.true))
      | else-x-y w ↦ rw (w.table-is, w.p-is) (making_same c.requires.0 m l (turn_equal o s m.scan l w.if-x-y.false))
    ]

pub returns : goal.returns
returns c =
    let m = c.loop-j.invariant.2 in
    made_from c.requires.0 m (stop_end m.scan (omega (arith, length_ranked c.args.ranks.list.now c.args.s.now)))
