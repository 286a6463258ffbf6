-- `reach_making::make_lyndon_array` meets its contract: what is left is made with the memo.
use mathlib.Core.Path.{◌≡◌}
use native.Mathlib.Omega.{arith}
use Rattle.ranks.proofs.Ranked.{length_ranked}
use Rattle.rows.proofs.Fill.{filled_on, filled_all}
use Rattle.reach_table.proofs.Reach.{lyndon_table}
use Rattle.reach_making.proofs.make_lyndon_array.Goals as goal

pub make_rest-requires : goal.make_rest-requires
make_rest-requires c =
    let r = c.make_plain-left.ensures in
    let e = length_ranked c.args.ranks.list.now c.args.s.now in
    (c.requires.0, r.0, record { room = omega (arith, r.1.size, c.requires.1); right = rw e r.1.inside })

pub returns-then-left-gt0 : goal.returns-then-left-gt0
returns-then-left-gt0 c =
    let r = c.make_plain-left in
    filled_all (lyndon_table c.args.ranks.list.now c.args.s.now) _ c.requires.1 (filled_on r.ensures.1 c.make_rest.ensures (omega arith))

pub returns-else-left-gt0 : goal.returns-else-left-gt0
returns-else-left-gt0 c =
    let r = c.make_plain-left in
    let e : r.result ≡ 0 = omega arith in
    filled_all (lyndon_table c.args.ranks.list.now c.args.s.now) _ c.requires.1 (rw e at r.ensures.1)
