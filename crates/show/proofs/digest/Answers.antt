-- `show::digest` meets its contract: the digest so far, below its modulus, is that of the numbers of the entries before this one.
use Rattle.std.proofs.Common.{rules}
use Rattle.show.proofs.Digested.{digested_more}
use Rattle.show.proofs.digest.Goals as goal

pub loop-entry-preserved : goal.loop-entry-preserved
loop-entry-preserved g c =
    let l = c.loop-entry in (
      search rules,
      rw c.from.ensures
          (digested_more g.T.Into.converts c.args.row.now l.entry-index l.d c.entry-item.result c.into-number.result c.loop-entry-test.true c.entry-item.is
          c.into-number.ensures l.invariant.1),
    )
