-- `prefix_testing_leaps::test_again` meets its contract: block by block the entries up to j are right.
use Rattle.ranks.proofs.Ranked.{length_ranked}
use Rattle.agreeing.proofs.Alike.{agrees_ranked}
use Rattle.prefix_table.proofs.Blocks.{again_block}
use Rattle.prefix_testing_leaps.proofs.Word.{back_one}
use borrow.Author.Rules.{rules}
use Rattle.prefix_testing_leaps.proofs.test_again.Goals as goal

pub loop-j-init : goal.loop-j-init
loop-j-init c =
    (search rules, c.requires.2, length_ranked c.args.ranks.list.now c.args.s.now)

pub loop-j-preserved : goal.loop-j-preserved
loop-j-preserved c =
    let bytes = c.agree_block.ensures c.if-not-agree_block.false in
    let same = agrees_ranked c.args.ranks.list.now (search rules) (search rules) bytes in
    let right = c.same_entries.ensures c.if-not-same_entries.false in
    let back = back_one c.loop-j.invariant.1.scan.fits in
    (search rules, again_block c.requires.0 c.args.table.now c.loop-j.invariant.1 back (search rules) same right 16 (search rules), c.loop-j.invariant.2)
