-- `reach_testing::test_by` meets its contract: the entries from i on are right.
use mathlib.Core.Path.{◌≡◌}
use Rattle.ranks.proofs.Ranked.{length_ranked}
use Rattle.rows.proofs.Fill.{tested_all, tested_wrong}
use Rattle.reach_table.proofs.Reach.{lyndon_table}
use Prim.Native.Nat.{◌-◌}
use native.Mathlib.Omega.{arith}
use Rattle.reach_testing.proofs.test_by.Goals as goal

pub entry-requires : goal.entry-requires
entry-requires c = omega (arith, c.requires.1.room, length_ranked c.args.ranks.list.now c.args.s.now)

pub returns-then-entry-l : goal.returns-then-entry-l
returns-then-entry-l c =
    let r = c.longest_at-l in
    let e = length_ranked c.args.ranks.list.now c.args.s.now in
    tested_wrong (lyndon_table c.args.ranks.list.now c.args.s.now) c.args.table.now (omega (arith, c.requires.1.room)) (c.loop-i.i - 1) (omega arith)
    (λ q. c.if-entry-l.true (omega (arith, q, r.ensures.entry, c.entry.ensures)))

pub returns : goal.returns
returns c =
    let e : c.loop-i.i ≡ 0 = omega arith in
    let f = length_ranked c.args.ranks.list.now c.args.s.now in
    tested_all (lyndon_table c.args.ranks.list.now c.args.s.now) c.args.table.now (omega (arith, c.requires.1.room)) (rw (e, f) at c.loop-i.invariant.1)
