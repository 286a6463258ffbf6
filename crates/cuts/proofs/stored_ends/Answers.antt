-- `cuts::stored_ends` meets its contract: each turn passes one factor, whose length stands in the table.
use native.Mathlib.Omega.{arith}
use Rattle.ranks.specs.Ranks.{ranked}
use Rattle.ranks.proofs.Ranked.{length_ranked}
use Rattle.cuts.proofs.Along.{at_start, at_end, at_last, at_count, at_entry, entry_within, entry_some}
use borrow.Author.Rules.{rules}
use Rattle.cuts.proofs.stored_ends.Goals as goal

pub loop-end-init : goal.loop-end-init
loop-end-init c =
    let a = c.args in
    (at_start (ranked a.ranks.now a.s.now), search rules, length_ranked a.ranks.now a.s.now)

pub bounds-table-end : goal.bounds-table-end
bounds-table-end c =
    entry_within c.args.ranks.now c.args.s.now c.args.table.now c.loop-end.end c.requires (search rules)

pub returns-then-q-next : goal.returns-then-q-next
returns-then-q-next c =
    let n = at_entry c.args.ranks.now c.args.s.now c.args.table.now c.loop-end.end c.requires (search rules) c.loop-end.invariant.0 in
    at_last c.loop-end.invariant.0 c.args.q (search rules) n (search rules)

pub overflow_add-count : goal.overflow_add-count
overflow_add-count c = omega (arith, at_count c.loop-end.invariant.0)

pub loop-end-smaller : goal.loop-end-smaller
loop-end-smaller c =
    omega (arith, entry_some c.args.ranks.now c.args.s.now c.args.table.now c.loop-end.end c.requires (search rules))

pub loop-end-preserved : goal.loop-end-preserved
loop-end-preserved c =
    (at_entry c.args.ranks.now c.args.s.now c.args.table.now c.loop-end.end c.requires (search rules) c.loop-end.invariant.0, search rules, c.loop-end.invariant.2)

pub returns : goal.returns
returns c = at_end c.loop-end.invariant.0 c.args.q (search rules) (search rules)
