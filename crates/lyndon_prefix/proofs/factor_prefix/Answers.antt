-- `lyndon_prefix::factor_prefix` meets its contract: each way out is the outcome of the first refusal that holds, or of none.
use mathlib.Core.Path.{sym, ◌∙◌}
use native.Mathlib.Omega.{arith}
use Rattle.words.proofs.Order.{same_true}
use Rattle.words.proofs.Tables.{last_factors_length}
use Rattle.words.specs.Tables.{last_factors, prefix_groups}
use Rattle.lyndon_parts.proofs.Parts.{part_past, part_table_short, part_table_wrong, part_short, part_done}
use borrow.Author.Rules.{rules}
use Rattle.lyndon_prefix.proofs.factor_prefix.Goals as goal

pub returns-then-n-end : goal.returns-then-n-end
returns-then-n-end c = part_past c.args.order.now last_factors last_factors_length (λ u. prefix_groups u c.args.end) c.args.pattern.now c.args.table.now c.args.groups.now c.args.end c.in_ok-ranks.ensures.accepted (search rules) (search rules)

pub returns-then-table-n : goal.returns-then-table-n
returns-then-table-n c =
    part_table_short c.args.order.now last_factors last_factors_length (λ u. prefix_groups u c.args.end) c.args.pattern.now c.args.table.now c.args.groups.now c.args.end c.in_ok-ranks.ensures.accepted (search rules) (search rules) (search rules)

pub returns-then-not-is_last_factors : goal.returns-then-not-is_last_factors
returns-then-not-is_last_factors c =
    part_table_wrong c.args.order.now last_factors last_factors_length (λ u. prefix_groups u c.args.end) c.args.pattern.now c.args.table.now c.args.groups.now c.args.end c.in_ok-ranks.ensures.accepted (search rules) (search rules) (search rules)
    (λ i h. omega (arith, c.type_inv.pattern i)) (sym c.is_last_factors.ensures ∙ c.if-not-is_last_factors.true)

pub count_prefix-count-requires : goal.count_prefix-count-requires
count_prefix-count-requires c = (search rules, same_true _ _ (sym c.is_last_factors.ensures ∙ c.if-not-is_last_factors.false))

pub returns-then-groups-count : goal.returns-then-groups-count
returns-then-groups-count c =
    part_short c.args.order.now last_factors last_factors_length (λ u. prefix_groups u c.args.end) c.args.pattern.now c.args.table.now c.args.groups.now c.args.end c.in_ok-ranks.ensures.accepted (search rules) (search rules) (search rules)
    (λ i h. omega (arith, c.type_inv.pattern i)) (sym c.is_last_factors.ensures ∙ c.if-not-is_last_factors.false) (search rules)

pub write_prefix-requires : goal.write_prefix-requires
write_prefix-requires c = (search rules, search rules, same_true _ _ (sym c.is_last_factors.ensures ∙ c.if-not-is_last_factors.false), c.count_prefix-count.ensures, search rules)

pub returns : goal.returns
returns c =
    let count = c.count_prefix-count in
    part_done c.args.order.now last_factors last_factors_length (λ u. prefix_groups u c.args.end) c.args.pattern.now c.args.table.now c.args.groups.now c.args.end c.in_ok-ranks.ensures.accepted (search rules) (search rules) (search rules)
    (λ i h. omega (arith, c.type_inv.pattern i)) (sym c.is_last_factors.ensures ∙ c.if-not-is_last_factors.false) (omega (arith, count.ensures)) count.ensures c.write_prefix.ensures
