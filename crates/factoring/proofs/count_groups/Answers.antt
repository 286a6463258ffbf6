-- `factoring::count_groups` meets its contract: there are no more groups than symbols.
use mathlib.Core.Logic.{inl}
use native.Mathlib.Omega.{arith}
use Rattle.ranks.specs.Ranks.{ranked}
use Rattle.ranks.proofs.Ranked.{length_ranked}
use Rattle.scan.proofs.Next.{suffix_few}
use Rattle.factoring.proofs.count_groups.Goals as goal

pub count-requires-clause-fits : goal.count-requires-clause-fits
count-requires-clause-fits c =
    let it = c.groups.result in
    inl (omega (arith, suffix_few (ranked it.ranks.list.now it.s.now) it.at, length_ranked it.ranks.list.now it.s.now))
