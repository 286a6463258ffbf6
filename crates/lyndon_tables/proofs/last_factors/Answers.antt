-- `lyndon_tables::last_factors` meets its contract: each way out is the outcome of the first refusal that holds, or of none.
use native.Mathlib.Omega.{arith}
use borrow.Author.Rules.{rules}
use Rattle.words.proofs.Tables.{last_factors_length}
use Rattle.words.specs.Tables.{last_factors}
use Rattle.lyndon_tables.proofs.Made.{table_no_room, table_made}
use Rattle.lyndon_tables.proofs.last_factors.Goals as goal

pub returns-then-last-pattern : goal.returns-then-last-pattern
returns-then-last-pattern c =
    let a = c.args in
    table_no_room a.order.now last_factors last_factors_length a.pattern.now a.last.now c.in_ok-ranks.ensures.accepted (search rules) (search rules)

pub returns : goal.returns
returns c =
    let a = c.args in
    table_made a.order.now last_factors last_factors_length a.pattern.now a.last.now c.in_ok-ranks.ensures.accepted
    (λ i h. omega (arith, c.type_inv.pattern i)) (search rules) (search rules) c.make_last_factors.ensures
