-- `reach_testing::is_lyndon_array` meets its contract: what is left is tested with the memo.
use mathlib.Core.Path.{◌≡◌, refl}
use Rattle.ranks.proofs.Ranked.{length_ranked}
use Rattle.rows.proofs.Fill.{tested_all, tested_wrong}
use Rattle.reach_table.proofs.Reach.{lyndon_table}
use Rattle.reach_testing.proofs.is_lyndon_array.Goals as goal

pub returns-in_default : goal.returns-in_default
returns-in_default c =
    let (i, t) = c.in_default.ensures in
    let w = t.differs refl in
    let e = length_ranked c.args.ranks.list.now c.args.s.now in
    tested_wrong (lyndon_table c.args.ranks.list.now c.args.s.now) c.args.table.now c.requires i (rw e at w.0) w.1

pub returns-then-left-eq0 : goal.returns-then-left-eq0
returns-then-left-eq0 c =
    let e : c.in-Some.left ≡ 0 = c.if-left-eq0.true in
    let f = length_ranked c.args.ranks.list.now c.args.s.now in
    tested_all (lyndon_table c.args.ranks.list.now c.args.s.now) c.args.table.now c.requires (rw (e, f) at (c.in-Some.ensures.right refl).right)

pub test_rest-requires : goal.test_rest-requires
test_rest-requires c =
    let e = length_ranked c.args.ranks.list.now c.args.s.now in
    (rw e at c.in-Some.ensures.within, c.in-Some.ensures.right refl)
