-- `reach_making::make_by` meets its contract: the entries from i on are made, from the last to the first.
use lib.ListN.{length}
use Rattle.words.specs.Tables.{longest_at}
use Rattle.words.proofs.Tables.{longest_at_fits}
use Rattle.ranks.specs.Ranks.{ranked}
use Rattle.ranks.proofs.Ranked.{length_ranked}
use Rattle.rows.proofs.Fill.{filled_start, filled_down}
use Prim.Native.Nat.{◌-◌}
use native.Mathlib.Omega.{arith}
use Rattle.reach_making.proofs.make_by.Goals as goal

pub loop-i-init : goal.loop-i-init
loop-i-init c =
    let o = c.args.ranks.list.now in
    let s = c.args.s.now in
    let e = length_ranked o s in
    (c.requires.3, filled_start (longest_at (ranked o s)) (length s) (rw e at c.requires.2.right))

pub overflow_cast-table : goal.overflow_cast-table
overflow_cast-table c =
    let e = length_ranked c.args.ranks.list.now c.args.s.now in
    omega (arith, c.longest_at-l.ensures.entry, longest_at_fits (ranked c.args.ranks.list.now c.args.s.now) (c.loop-i.i - 1) (omega arith))

pub bounds-table-i : goal.bounds-table-i
bounds-table-i c = omega (arith, c.requires.2.room, length_ranked c.args.ranks.list.now c.args.s.now)

pub loop-i-preserved : goal.loop-i-preserved
loop-i-preserved c =
    let e = length_ranked c.args.ranks.list.now c.args.s.now in
    let r = c.longest_at-l in
    (r.ensures.remains, filled_down c.loop-i.invariant.1 (omega (arith, c.requires.2.room)) (c.loop-i.i - 1) r.result r.ensures.entry (omega arith) (omega arith))
