-- `next` back along the chain meets its contract: at the front no group is left, and before it the last group is the first of those left.
use mathlib.Core.Path.{ap}
use borrow.Author.Rules.{rules}
use native.Mathlib.Omega.{arith}
use Rattle.std.specs.Prelude.{reverse}
use Rattle.ranks.specs.Ranks.{ranked}
use Rattle.prefix_chain.proofs.TurnBack.{prefix_none, back_first}
use Rattle.prefix_chain.proofs.GroupsBackIterator.next.Goals as goal

pub returns-then-self-eq0-clause-steps : goal.returns-then-self-eq0-clause-steps
returns-then-self-eq0-clause-steps c =
    let it = c.args.self.now in
    let e = ap (λ t. reverse t) (prefix_none (ranked it.ranks.list.now it.s.now) it.end (search rules)) in
    (e, e)

pub overflow_mul-start : goal.overflow_mul-start
overflow_mul-start c = omega (arith, c.group_before-length.ensures.fits)

pub returns-clause-steps : goal.returns-clause-steps
returns-clause-steps c = back_first c.group_before-length.ensures
