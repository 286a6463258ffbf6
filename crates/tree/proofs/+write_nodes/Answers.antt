-- A leaf is two numbers, and a node is its two numbers and what the calls wrote for its halves.
use Rattle.std.proofs.Common.{rules, ◌≡◌, length, arith, ◌∙◌, length-set}
use Rattle.words.proofs.Places.{lyndon_at_some}
use Rattle.tree.proofs.Halves.{part_inside, part_halves}
use Rattle.tree.proofs.Nodes.{leaf_written, node_written}
use Rattle.tree.proofs.+write_nodes.Goals as goal

pub overflow_cast-row : goal.overflow_cast-row
overflow_cast-row t c = search (rules, part_inside c.args.ranks.list.now c.args.word.now c.requires.0)

pub overflow_cast-row-2 : goal.overflow_cast-row-2
overflow_cast-row-2 t c = search (rules, part_inside c.args.ranks.list.now c.args.word.now c.requires.0)

pub returns-then-size-eq1 : goal.returns-then-size-eq1
returns-then-size-eq1 t c =
    (search rules, leaf_written c.requires.0 c.if-size-eq1.true c.args.row.now c.args.at (omega arith))

pub overflow_add-a : goal.overflow_add-a
overflow_add-a t c = search (rules, part_inside c.args.ranks.list.now c.args.word.now c.requires.0)

pub overflow_add-b : goal.overflow_add-b
overflow_add-b t c = search (rules, part_inside c.args.ranks.list.now c.args.word.now c.requires.0)

pub slice_bounds-last_factor-end : goal.slice_bounds-last_factor-end
slice_bounds-last_factor-end t c = search (rules, part_inside c.args.ranks.list.now c.args.word.now c.requires.0)

-- the halves of the node, once its last factor is known
pub write_nodes-next-requires : goal.write_nodes-next-requires
write_nodes-next-requires t c =
    let some = lyndon_at_some c.requires.0 in
    let h = part_halves c.args.ranks.list.now c.args.word.now c.requires.0 (omega arith) c.last_factor-right.result c.last_factor-right.ensures in
    (omega (arith, c.decreases, h.some, h.fewer), (h.left, c.requires.1, simp length-set (omega (arith, h.some))))

pub write_nodes-requires : goal.write_nodes-requires
write_nodes-requires t c =
    let some = lyndon_at_some c.requires.0 in
    let h = part_halves c.args.ranks.list.now c.args.word.now c.requires.0 (omega arith) c.last_factor-right.result c.last_factor-right.ensures in
    let long : length c.write_nodes-next.new.row ≡ length c.args.row.now = c.write_nodes-next.auto.row ∙ simp length-set in
    (omega (arith, c.decreases, h.some, h.fewer), (h.right, c.requires.1, omega (arith, long, c.write_nodes-next.ensures.0, h.fewer)))

pub overflow_sub-left : goal.overflow_sub-left
overflow_sub-left t c =
    let some = lyndon_at_some c.requires.0 in
    let h = part_halves c.args.ranks.list.now c.args.word.now c.requires.0 (omega arith) c.last_factor-right.result c.last_factor-right.ensures in
    omega (arith, h.fewer)

pub returns : goal.returns
returns t c =
    let some = lyndon_at_some c.requires.0 in
    let h = part_halves c.args.ranks.list.now c.args.word.now c.requires.0 (omega arith) c.last_factor-right.result c.last_factor-right.ensures in
    let left = c.write_nodes-next.ensures in
    let right = c.write_nodes.ensures in (
      omega (arith, h.fewer, left.0, right.0),
      node_written h c.args.row.now c.args.at c.write_nodes-next.result c.write_nodes-next.new.row c.write_nodes.new.row c.requires.2 left.0 left.1 right.1,
    )
