-- `prefix_making_leaps::make_again` meets its contract: block by block the entries up to j are made.
use Rattle.ranks.proofs.Ranked.{length_ranked}
use Rattle.agreeing.proofs.Alike.{agrees_ranked}
use Rattle.prefix_making_leaps.proofs.Steps.{making_again, back_later}
use borrow.Author.Rules.{rules}
use Rattle.prefix_making_leaps.proofs.make_again.Goals as goal

pub loop-j-init : goal.loop-j-init
loop-j-init c =
    (search rules, c.requires.3, length_ranked c.args.ranks.list.now c.args.s.now)

pub loop-j-preserved : goal.loop-j-preserved
loop-j-preserved c =
    let made = c.copy_entries.ensures in
    let bytes = c.agree_block.ensures c.if-not-agree_block.false in
    let back = back_later c.requires.2 c.loop-j.invariant.0 in
    let same = agrees_ranked c.args.ranks.list.now (search rules) (search rules) bytes in
    (search rules, making_again c.requires.0 (search rules) c.loop-j.invariant.1 back c.requires.1 same made, c.loop-j.invariant.2)
