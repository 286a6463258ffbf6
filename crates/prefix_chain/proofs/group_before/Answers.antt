-- `prefix_chain::group_before` meets its contract: the loop counts equal factors back, and where it stops the group is read off.
use Rattle.ranks.specs.Ranks.{Bytes, ranked}
use Rattle.ranks.proofs.Ranked.{length_ranked}
use Rattle.prefix_chain.proofs.Before.{equal_start, equal_turn, stop_start, stop_length, stop_word, table_room, table_entry, table_fits}
use borrow.Author.Rules.{rules}
use native.Mathlib.Omega.{arith}
use Rattle.prefix_chain.proofs.group_before.Goals as goal

pub bounds-table-q : goal.bounds-table-q
bounds-table-q c =
    omega (arith, table_room c.args.ranks.list.now c.args.s.now c.args.table.now c.requires.2)

pub overflow_sub-from : goal.overflow_sub-from
overflow_sub-from c =
    omega (arith, table_fits c.args.ranks.list.now c.args.s.now c.args.table.now c.requires.2 c.args.q c.requires.0 c.requires.1)

pub loop-j-init : goal.loop-j-init
loop-j-init c =
    let e = table_entry c.args.ranks.list.now c.args.s.now c.args.table.now c.requires.2 c.args.q c.requires.0 c.requires.1 in
    let m = length_ranked c.args.ranks.list.now c.args.s.now in
    (equal_start (ranked c.args.ranks.list.now c.args.s.now) c.args.q _ c.requires.0 (omega arith) e, m)

pub returns-then-table-j : goal.returns-then-table-j
returns-then-table-j c =
    let e = table_entry c.args.ranks.list.now c.args.s.now c.args.table.now c.requires.2 c.loop-j.j (search rules) (search rules) in
    stop_length c.loop-j.invariant.0 (search rules) e c.if-table-j.true

pub overflow_sub-back : goal.overflow_sub-back
overflow_sub-back c =
    omega (arith, table_fits c.args.ranks.list.now c.args.s.now c.args.table.now c.requires.2 c.loop-j.j (search rules) (search rules))

pub returns-then-not-agree : goal.returns-then-not-agree
returns-then-not-agree c =
    let e = table_entry c.args.ranks.list.now c.args.s.now c.args.table.now c.requires.2 c.loop-j.j (search rules) (search rules) in
    let bytes : Bytes c.args.s.now = λ i h. omega (arith, c.type_inv.s i) in
    stop_word c.args.ranks.known c.args.s.now bytes c.loop-j.invariant.0 (search rules) e (search rules) c.agree.ensures c.if-not-agree.true

pub loop-j-preserved : goal.loop-j-preserved
loop-j-preserved c =
    let e = table_entry c.args.ranks.list.now c.args.s.now c.args.table.now c.requires.2 c.loop-j.j (search rules) (search rules) in
    let bytes : Bytes c.args.s.now = λ i h. omega (arith, c.type_inv.s i) in (
      equal_turn c.args.ranks.known c.args.s.now bytes c.loop-j.invariant.0 (search rules) e (search rules) c.agree.ensures
          c.if-not-agree.false,
      c.loop-j.invariant.1,
    )

pub returns : goal.returns
returns c = stop_start c.loop-j.invariant.0 (search rules)
