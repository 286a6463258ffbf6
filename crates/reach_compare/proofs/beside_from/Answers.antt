-- `reach_compare::beside_from` meets its contract: the symbols where the words first differ, or their lengths, say which is smaller.
use mathlib.Core.Path.{◌≡◌}
use native.Mathlib.Omega.{arith}
use Rattle.reach_compare.proofs.Bytes.{beside_differ, beside_end}
use Rattle.reach_compare.proofs.beside_from.Goals as goal

pub returns-then-x-z : goal.returns-then-x-z
returns-then-x-z c =
    let l = c.loop-e in
    beside_differ c.args.ranks.list.now c.args.s.now c.args.i c.args.j c.args.y c.requires.0 l.e (omega arith) l.invariant c.if-x-z.true c.below.result
    c.below.ensures

pub returns : goal.returns
returns c =
    let e : c.loop-e.e ≡ c.args.len = omega arith in
    beside_end c.args.ranks.list.now c.args.s.now c.args.i c.args.j c.args.y c.requires.0 (rw e at c.loop-e.invariant)
