-- `prefix_making_leaps::make_above` meets its contract: block by block the entries up to j are made.
use Rattle.ranks.proofs.Ranked.{length_ranked}
use Rattle.above.proofs.Beyond.{above_told}
use Rattle.prefix_table.proofs.Start.{start_below}
use Rattle.prefix_table.proofs.Blocks.{above_first}
use Rattle.prefix_making_leaps.proofs.Steps.{making_above}
use borrow.Author.Rules.{rules}
use native.Mathlib.Omega.{arith}
use Rattle.prefix_making_leaps.proofs.make_above.Goals as goal

pub bounds-s-i : goal.bounds-s-i
bounds-s-i c =
    omega (arith, start_below c.requires.0, length_ranked c.args.ranks.list.now c.args.s.now)

pub above_end-end-requires : goal.above_end-end-requires
above_end-end-requires c =
    let m = c.requires.2 in
    omega (arith, m.scan.fits, length_ranked c.args.ranks.list.now c.args.s.now)

pub loop-j-init : goal.loop-j-init
loop-j-init c =
    (search rules, c.requires.2, length_ranked c.args.ranks.list.now c.args.s.now, c.above_end-end.ensures, c.above_end-end.ensures.after)

pub loop-j-preserved : goal.loop-j-preserved
loop-j-preserved c =
    let made = c.write_lengths.ensures in
    let v = c.above_block in
    let above = above_told c.loop-j.j c.loop-j.invariant.3 v.ensures c.if-not-above_block.false c.loop-j.invariant.0 (omega arith) in
    let first = above_first c.args.ranks.list.now c.args.s.now (start_below c.requires.0) above in
    (search rules, making_above c.requires.0 (search rules) c.loop-j.invariant.1 first made, c.loop-j.invariant.2, c.loop-j.invariant.3, omega arith)
