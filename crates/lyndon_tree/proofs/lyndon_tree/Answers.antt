-- `lyndon_tree::lyndon_tree` meets its contract: each way out is the outcome of the first refusal that holds, or of none.
use native.Mathlib.Omega.{arith}
use Rattle.lyndon_test.proofs.Whole.{empty_not_lyndon, part_not_lyndon, all_lyndon}
use Rattle.lyndon_tree.proofs.Listed.{tree_long, tree_not_lyndon, tree_short, tree_done, tree_word}
use borrow.Author.Rules.{rules}
use Rattle.lyndon_tree.proofs.lyndon_tree.Goals as goal

pub returns-then-n-eq0 : goal.returns-then-n-eq0
returns-then-n-eq0 c =
    let w = c.args.word.now in
    tree_not_lyndon c.in_ok-ranks.ensures.accepted w c.args.nodes.now (λ i h. omega (arith, c.type_inv.word i)) (search rules)
    (empty_not_lyndon c.in_ok-ranks.ranks.list.now w (search rules))

pub returns-then-first-n : goal.returns-then-first-n
returns-then-first-n c =
    let w = c.args.word.now in
    let g = c.next_group-first in
    let l = part_not_lyndon c.in_ok-ranks.ranks.list.now w g.result.length g.result.power g.ensures c.if-first-n.true in
    tree_not_lyndon c.in_ok-ranks.ensures.accepted w c.args.nodes.now (λ i h. omega (arith, c.type_inv.word i)) (search rules) l

pub returns-then-nodes-count : goal.returns-then-nodes-count
returns-then-nodes-count c =
    let w = c.args.word.now in
    let g = c.next_group-first in
    let l = all_lyndon c.in_ok-ranks.ranks.list.now w g.result.length g.result.power g.ensures c.if-first-n.false in
    tree_short c.in_ok-ranks.ensures.accepted w c.args.nodes.now (λ i h. omega (arith, c.type_inv.word i)) (search rules) l (search rules)

pub write_nodes-requires : goal.write_nodes-requires
write_nodes-requires c =
    let w = c.args.word.now in
    let ranks = c.in_ok-ranks.ranks.list.now in
    let g = c.next_group-first in
    let l = all_lyndon ranks w g.result.length g.result.power g.ensures c.if-first-n.false in
    (tree_word ranks w l, search rules, search rules)

pub returns : goal.returns
returns c =
    let w = c.args.word.now in
    let g = c.next_group-first in
    let l = all_lyndon c.in_ok-ranks.ranks.list.now w g.result.length g.result.power g.ensures c.if-first-n.false in
    tree_done c.in_ok-ranks.ensures.accepted w c.args.nodes.now (λ i h. omega (arith, c.type_inv.word i)) (search rules) l (search rules)
    c.write_nodes.ensures.1
