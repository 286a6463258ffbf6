-- `suffix_chain::group_at` meets its contract: the loop counts equal factors forward, and where it stops the group is read off.
use mathlib.Core.Path.{◌∙◌}
use lib.ListN.{get_or}
use Rattle.ranks.specs.Ranks.{Bytes, ranked}
use Rattle.ranks.proofs.Ranked.{length_ranked}
use Rattle.suffix_chain.proofs.After.{equal_start, equal_turn, stop_end, stop_length, stop_word, array_room, array_entry, array_fits, same_words}
use borrow.Author.Rules.{rules}
use native.Mathlib.Omega.{arith}
use Rattle.suffix_chain.proofs.group_at.Goals as goal

pub bounds-table-i : goal.bounds-table-i
bounds-table-i c =
    omega (arith, array_room c.args.ranks.list.now c.args.s.now c.args.table.now c.requires.1)

pub loop-j-init : goal.loop-j-init
loop-j-init c =
    let e = array_entry c.args.ranks.list.now c.args.s.now c.args.table.now c.requires.1 c.args.i c.requires.0 in
    let r = length_ranked c.args.ranks.list.now c.args.s.now in
    (equal_start (ranked c.args.ranks.list.now c.args.s.now) c.args.i _ (rw r c.requires.0) e, r)

pub bounds-table-j : goal.bounds-table-j
bounds-table-j c =
    omega (arith, array_room c.args.ranks.list.now c.args.s.now c.args.table.now c.requires.1)

pub returns-then-table-j : goal.returns-then-table-j
returns-then-table-j c =
    let e = array_entry c.args.ranks.list.now c.args.s.now c.args.table.now c.requires.1 c.loop-j.j (search rules) in
    stop_length c.loop-j.invariant.0 (search rules) e c.if-table-j.true

pub slice_bounds-agree-end-in-loop-j : goal.slice_bounds-agree-end-in-loop-j
slice_bounds-agree-end-in-loop-j c =
    omega (arith, array_fits c.args.ranks.list.now c.args.s.now c.args.table.now c.requires.1 c.loop-j.j (search rules))

pub returns-then-not-agree : goal.returns-then-not-agree
returns-then-not-agree c =
    let e = array_entry c.args.ranks.list.now c.args.s.now c.args.table.now c.requires.1 c.loop-j.j (search rules) in
    let b : Bytes c.args.s.now = λ k h. omega (arith, c.type_inv.s k) in
    let parts = same_words c.args.ranks.known c.args.s.now b c.args.i c.loop-j.j (get_or c.args.table.now c.args.i 0) in
    stop_word c.loop-j.invariant.0 (search rules) e (search rules) (c.agree.ensures ∙ parts) c.if-not-agree.true

pub loop-j-preserved : goal.loop-j-preserved
loop-j-preserved c =
    let e = array_entry c.args.ranks.list.now c.args.s.now c.args.table.now c.requires.1 c.loop-j.j (search rules) in
    let b : Bytes c.args.s.now = λ k h. omega (arith, c.type_inv.s k) in
    let parts = same_words c.args.ranks.known c.args.s.now b c.args.i c.loop-j.j (get_or c.args.table.now c.args.i 0) in
    (equal_turn c.loop-j.invariant.0 (search rules) e (search rules) (c.agree.ensures ∙ parts) c.if-not-agree.false, c.loop-j.invariant.1)

pub returns : goal.returns
returns c = stop_end c.loop-j.invariant.0 (search rules)
