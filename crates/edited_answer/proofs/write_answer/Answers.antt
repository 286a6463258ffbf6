-- `edited_answer::write_answer` meets its contract: the order is byte order, the tables are right and the rows long enough, so that only 2, 3 and 4 refuse the edit.
use Rattle.std.proofs.Common.{refl, arith, rules}
use Rattle.edit.proofs.Filled.{max_middle_lem}
use Rattle.edited_answer.proofs.Printed.{order_filled, refused_output, edited_output, taken}
use Rattle.text_writers.proofs.Parts.{refusal_fits}
use Rattle.edited_answer.proofs.write_answer.Goals as goal

pub write_refused-requires : goal.write_refused-requires
write_refused-requires c = refusal_fits c.unwrap_err.result c.args.text.now (omega arith)

pub returns-in_default : goal.returns-in_default
returns-in_default c =
    let a = c.args in
    let refused = rw c.unwrap_err.ensures at c.core-answer.ensures in
    refused_output a.edit.pattern.now _ a.edit.from a.edit.to a.edit.block.now (order_filled c.fill_byte_order.ensures)
    a.edit.pattern_bytes a.edit.block_bytes
    c.requires.0 c.lyndon_array.ensures (search rules) c.last_factors.ensures (search rules) refused
    (search (rules, max_middle_lem)) (search rules)
    refl c.write_refused.ensures

pub write_edited-requires : goal.write_edited-requires
write_edited-requires c =
    let a = c.args in
    taken a.edit.pattern.now _ a.edit.from a.edit.to a.edit.block.now (order_filled c.fill_byte_order.ensures)
    a.edit.pattern_bytes a.edit.block_bytes
    c.requires.0 c.lyndon_array.ensures (search rules) c.last_factors.ensures (search rules) c.in-Ok.ensures
    (search (rules, max_middle_lem)) (search rules)
    a.text.now refl c.requires.1

pub returns : goal.returns
returns c =
    let a = c.args in
    edited_output a.edit.pattern.now _ a.edit.from a.edit.to a.edit.block.now (order_filled c.fill_byte_order.ensures)
    a.edit.pattern_bytes a.edit.block_bytes
    c.requires.0 c.lyndon_array.ensures (search rules) c.last_factors.ensures (search rules) c.in-Ok.ensures
    (search (rules, max_middle_lem)) (search rules)
    refl c.write_edited.ensures
