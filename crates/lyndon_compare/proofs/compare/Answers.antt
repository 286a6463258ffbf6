-- `lyndon_compare::compare` meets its contract: refused where the ranks are no order or either string is too long, otherwise the comparison's two numbers.
use mathlib.Core.Path.{◌∙◌}
use native.Mathlib.Omega.{arith}
use Rattle.lyndon_compare.proofs.Told.{first_long, second_long, both_fit, compared_same}
use borrow.Author.Rules.{rules}
use Rattle.lyndon_compare.proofs.compare.Goals as goal

pub returns-then-first-gt-MAX_PATTERN : goal.returns-then-first-gt-MAX_PATTERN
returns-then-first-gt-MAX_PATTERN c =
    first_long c.args.first.now c.args.second.now c.args.order.now c.in_ok-ranks.ensures.accepted.is (search rules)

pub returns-then-second-gt-MAX_PATTERN : goal.returns-then-second-gt-MAX_PATTERN
returns-then-second-gt-MAX_PATTERN c =
    second_long c.args.first.now c.args.second.now c.args.order.now c.in_ok-ranks.ensures.accepted.is (search rules) (search rules)

pub returns : goal.returns
returns c =
    let a = c.args in
    let t = c.in_ok-ranks.ensures.accepted in
    both_fit a.first.now a.second.now a.order.now t.is (search rules) (search rules) c.compare.result
    (c.compare.ensures
    ∙ compared_same c.in_ok-ranks.ranks.list.now a.order.now a.first.now a.second.now
    (t.same a.first.now (λ i h. omega (arith, c.type_inv.first i)))
    (t.same a.second.now (λ i h. omega (arith, c.type_inv.second i))))
