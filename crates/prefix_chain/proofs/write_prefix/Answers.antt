-- `prefix_chain::write_prefix` meets its contract: what is still to be written are the numbers of the groups that are left.
use mathlib.Core.Path.{◌≡◌}
use Rattle.std.specs.Prelude.{reverse}
use Rattle.words.specs.Tables.{prefix_groups}
use Rattle.ranks.specs.Ranks.{ranked}
use Rattle.ranks.proofs.Ranked.{length_ranked}
use Rattle.scan.proofs.Pass.{stretches}
use Rattle.prefix_chain.proofs.TurnBack.{write_start, write_room, write_turn, write_end, left_turn, left_next, left_end}
use borrow.Author.Rules.{rules}
use native.Mathlib.Omega.{arith}
use Rattle.prefix_chain.proofs.write_prefix.Goals as goal

pub loop-g-init : goal.loop-g-init
loop-g-init c =
    let a = c.args in
    let s = ranked a.ranks.list.now a.s.now in
    let it = c.into_iter-g-iterator.result in
    let e : reverse (prefix_groups (ranked it.ranks.list.now it.s.now) it.end) ≡ reverse (prefix_groups s a.end) = cc in (
      record { end = a.end; fits = omega (arith, length_ranked a.ranks.list.now a.s.now); is = e },
      omega arith,
      write_start s a.row.now a.end a.count (search rules) (search rules),
    )

pub overflow_sub-at : goal.overflow_sub-at
overflow_sub-at c =
    let l = c.loop-g.invariant in
    let t = left_turn l.0 c.in-Some.ensures.steps in
    omega (arith, write_room t.group l.2)

pub write_group-requires : goal.write_group-requires
write_group-requires c =
    let l = c.loop-g.invariant in
    let t = left_turn l.0 c.in-Some.ensures.steps in
    let s = stretches t.group.factor t.group.some in
    (omega (arith, write_room t.group l.2), omega (arith, t.place, l.1), omega (arith, s, t.group.fits, l.1), omega (arith, s, t.group.fits, l.1))

pub loop-g-preserved : goal.loop-g-preserved
loop-g-preserved c =
    let l = c.loop-g.invariant in
    let t = left_turn l.0 c.in-Some.ensures.steps in
    (left_next l.0.fits t, omega (arith, t.place, l.1), rw c.write_group.ensures (write_turn t.group t.place l.2))

pub returns : goal.returns
returns c =
    let a = c.args in
    let l = c.loop-g.invariant in
    write_end (ranked a.ranks.list.now a.s.now) l.0.end (left_end l.0 c.in-None.ensures.steps.0) l.2
