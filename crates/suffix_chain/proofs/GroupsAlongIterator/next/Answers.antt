-- `next` along the chain meets its contract: at the end no group is left, and before it the group that starts there is the first of those left.
use native.Mathlib.Omega.{arith}
use Rattle.ranks.specs.Ranks.{ranked}
use Rattle.ranks.proofs.Ranked.{length_ranked}
use Rattle.scan.proofs.Next.{suffix_end}
use Rattle.suffix_chain.proofs.GroupsAlongIterator.next.Goals as goal

pub returns-then-start-self-clause-steps : goal.returns-then-start-self-clause-steps
returns-then-start-self-clause-steps c =
    let it = c.args.self.now in
    let e = suffix_end (ranked it.ranks.list.now it.s.now) it.at (omega (arith, length_ranked it.ranks.list.now it.s.now)) in
    (e, e)

pub overflow_mul-self : goal.overflow_mul-self
overflow_mul-self c =
    let it = c.args.self.now in
    omega (arith, length_ranked it.ranks.list.now it.s.now)

pub overflow_add-self : goal.overflow_add-self
overflow_add-self c =
    let it = c.args.self.now in
    omega (arith, length_ranked it.ranks.list.now it.s.now)

pub invariant_of-self : goal.invariant_of-self
invariant_of-self c =
    let it = c.args.self.now in
    record { array = it.array; within = omega (arith, length_ranked it.ranks.list.now it.s.now) }
