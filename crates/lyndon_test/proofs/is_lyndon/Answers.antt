-- `lyndon_test::is_lyndon` meets its contract: a nonempty string is a Lyndon word exactly when its first factor is the whole of it.
use Rattle.std.proofs.Common.{arith, rules}
use Rattle.lyndon_test.proofs.Told.{told_yes}
use Rattle.lyndon_test.proofs.Whole.{whole_lyndon}
use Rattle.lyndon_test.proofs.is_lyndon.Goals as goal

pub returns : goal.returns
returns c =
    let a = c.args in
    let p = c.in_ok-ranks in
    let g = c.next_group in
    told_yes p.ensures.accepted a.word.now (λ i h. omega (arith, c.type_inv.word i)) (search rules) _
    (whole_lyndon p.ranks.list.now a.word.now g.result.length g.result.power g.ensures)
