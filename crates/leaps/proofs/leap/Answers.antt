-- `leaps::leap` meets its contract: the period goes on over bytes that agree with those a period back.
use Rattle.std.proofs.Common.{arith}
use Rattle.ranks.proofs.Ranked.{length_ranked}
use Rattle.agreeing.proofs.Alike.{agrees_ranked}
use Rattle.leaps.proofs.Gains.{leap_same}
use Rattle.leaps.proofs.leap.Goals as goal

pub returns-then-p-j : goal.returns-then-p-j
returns-then-p-j c =
    let r = c.agree_blocks-more.ensures in
    let e = length_ranked c.args.ranks.list.now c.args.s.now in
    let a = agrees_ranked c.args.ranks.list.now (omega arith) (omega arith) r.1 in
    (omega arith, leap_same c.requires a (omega (arith, e)))
