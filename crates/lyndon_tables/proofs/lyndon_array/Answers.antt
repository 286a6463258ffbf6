-- `lyndon_tables::lyndon_array` meets its contract: each way out is the outcome of the first refusal that holds, or of none.
use native.Mathlib.Omega.{arith}
use borrow.Author.Rules.{rules}
use Rattle.words.proofs.Tables.{lyndon_array_length}
use Rattle.words.specs.Tables.{lyndon_array}
use Rattle.lyndon_tables.proofs.Made.{table_no_room, table_made}
use Rattle.lyndon_tables.proofs.lyndon_array.Goals as goal

pub returns-then-array-pattern : goal.returns-then-array-pattern
returns-then-array-pattern c =
    let a = c.args in
    table_no_room a.order.now lyndon_array lyndon_array_length a.pattern.now a.array.now c.in_ok-ranks.ensures.accepted (search rules) (search rules)

pub returns : goal.returns
returns c =
    let a = c.args in
    table_made a.order.now lyndon_array lyndon_array_length a.pattern.now a.array.now c.in_ok-ranks.ensures.accepted
    (λ i h. omega (arith, c.type_inv.pattern i)) (search rules) (search rules) c.make_lyndon_array.ensures
