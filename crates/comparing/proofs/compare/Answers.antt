-- `comparing::compare` meets its contract: where the common beginning ends, an end or two ranks decide.
use native.Mathlib.Omega.{arith}
use Rattle.comparing.proofs.Decided.{compared_ends, compared_differ}
use Rattle.comparing.proofs.compare.Goals as goal

pub returns-then-k-min : goal.returns-then-k-min
returns-then-k-min c =
    let r = c.shared_bytes-k in
    let x = c.rank_of-x in
    let y = c.rank_of-y in
    rw c.cmp.ensures
    (compared_differ c.args.ranks.list.now c.args.a.now c.args.b.now r.result r.ensures c.args.ranks.known (omega arith) (omega arith) x.result y.result
    x.ensures.0 y.ensures.0 x.ensures.1 y.ensures.1)

pub returns : goal.returns
returns c =
    let r = c.shared_bytes-k in
    rw c.cmp-2.ensures (compared_ends c.args.ranks.list.now c.args.a.now c.args.b.now r.result r.ensures (omega arith))
