-- `lyndon_rotation::least_rotation` meets its contract: what `least_start` tells of the pattern, where neither the order nor the pattern is refused.
use Rattle.std.proofs.Common.{sym, ◌∙◌, arith, rules}
use Rattle.lyndon_rotation.proofs.Found.{rotation_long, rotation_repeated, rotation_found}
use Rattle.lyndon_rotation.proofs.least_rotation.Goals as goal

pub returns-then-pattern-gt-MAX_PATTERN : goal.returns-then-pattern-gt-MAX_PATTERN
returns-then-pattern-gt-MAX_PATTERN c = rotation_long c.in_ok-ranks.ensures.accepted c.args.pattern.now (search rules)

pub returns-then-found : goal.returns-then-found
returns-then-found c =
    rotation_repeated c.in_ok-ranks.ensures.accepted c.args.pattern.now (λ i h. omega (arith, c.type_inv.pattern i)) (search rules)
    (sym c.least_start-found.ensures.1 ∙ c.if-found.true)

pub returns : goal.returns
returns c =
    let e = c.least_start-found.ensures in
    rotation_found c.in_ok-ranks.ensures.accepted c.args.pattern.now (λ i h. omega (arith, c.type_inv.pattern i)) (search rules)
    (sym e.1 ∙ c.if-found.false) _ e.0
