-- `lyndon_suffix::factor_suffix` meets its contract: each way out is the outcome of the first refusal that holds, or of none.
use mathlib.Core.Path.{sym, ◌∙◌}
use native.Mathlib.Omega.{arith}
use Rattle.words.proofs.Order.{same_true}
use Rattle.words.proofs.Tables.{lyndon_array_length}
use Rattle.words.specs.Tables.{lyndon_array, suffix_groups}
use Rattle.lyndon_parts.proofs.Parts.{part_past, part_table_short, part_table_wrong, part_short, part_done}
use borrow.Author.Rules.{rules}
use Rattle.lyndon_suffix.proofs.factor_suffix.Goals as goal

pub returns-then-n-start : goal.returns-then-n-start
returns-then-n-start c = part_past c.args.order.now lyndon_array lyndon_array_length (λ u. suffix_groups u c.args.start) c.args.pattern.now c.args.table.now c.args.groups.now c.args.start c.in_ok-ranks.ensures.accepted (search rules) (search rules)

pub returns-then-table-n : goal.returns-then-table-n
returns-then-table-n c =
    part_table_short c.args.order.now lyndon_array lyndon_array_length (λ u. suffix_groups u c.args.start) c.args.pattern.now c.args.table.now c.args.groups.now c.args.start c.in_ok-ranks.ensures.accepted (search rules) (search rules) (search rules)

pub returns-then-not-is_lyndon_array : goal.returns-then-not-is_lyndon_array
returns-then-not-is_lyndon_array c =
    part_table_wrong c.args.order.now lyndon_array lyndon_array_length (λ u. suffix_groups u c.args.start) c.args.pattern.now c.args.table.now c.args.groups.now c.args.start c.in_ok-ranks.ensures.accepted (search rules) (search rules) (search rules)
    (λ i h. omega (arith, c.type_inv.pattern i)) (sym c.is_lyndon_array.ensures ∙ c.if-not-is_lyndon_array.true)

pub count_suffix-count-requires : goal.count_suffix-count-requires
count_suffix-count-requires c = same_true _ _ (sym c.is_lyndon_array.ensures ∙ c.if-not-is_lyndon_array.false)

pub returns-then-groups-count : goal.returns-then-groups-count
returns-then-groups-count c =
    part_short c.args.order.now lyndon_array lyndon_array_length (λ u. suffix_groups u c.args.start) c.args.pattern.now c.args.table.now c.args.groups.now c.args.start c.in_ok-ranks.ensures.accepted (search rules) (search rules) (search rules)
    (λ i h. omega (arith, c.type_inv.pattern i)) (sym c.is_lyndon_array.ensures ∙ c.if-not-is_lyndon_array.false) (search rules)

pub write_suffix-requires : goal.write_suffix-requires
write_suffix-requires c = (search rules, same_true _ _ (sym c.is_lyndon_array.ensures ∙ c.if-not-is_lyndon_array.false), omega (arith, c.count_suffix-count.ensures))

pub returns : goal.returns
returns c =
    let count = c.count_suffix-count in
    part_done c.args.order.now lyndon_array lyndon_array_length (λ u. suffix_groups u c.args.start) c.args.pattern.now c.args.table.now c.args.groups.now c.args.start c.in_ok-ranks.ensures.accepted (search rules) (search rules) (search rules)
    (λ i h. omega (arith, c.type_inv.pattern i)) (sym c.is_lyndon_array.ensures ∙ c.if-not-is_lyndon_array.false) (omega (arith, count.ensures)) count.ensures c.write_suffix.ensures
