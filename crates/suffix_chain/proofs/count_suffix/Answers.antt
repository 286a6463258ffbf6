-- `suffix_chain::count_suffix` meets its contract: there are no more groups than symbols.
use mathlib.Core.Logic.{inl}
use native.Mathlib.Omega.{arith}
use Rattle.ranks.specs.Ranks.{ranked}
use Rattle.ranks.proofs.Ranked.{length_ranked}
use Rattle.scan.proofs.Next.{suffix_few}
use Rattle.suffix_chain.proofs.count_suffix.Goals as goal

pub count-requires-clause-fits : goal.count-requires-clause-fits
count-requires-clause-fits c =
    let it = c.groups_along.result in
    inl (omega (arith, suffix_few (ranked it.ranks.list.now it.s.now) it.at, length_ranked it.ranks.list.now it.s.now))
