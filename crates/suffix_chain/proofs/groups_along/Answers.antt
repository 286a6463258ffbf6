-- `suffix_chain::groups_along` meets its contract: behind the end of the pattern no group starts.
use mathlib.Core.Path.{refl}
use native.Mathlib.Omega.{arith}
use Rattle.ranks.specs.Ranks.{ranked}
use Rattle.ranks.proofs.Ranked.{length_ranked}
use Rattle.suffix_chain.proofs.Turn.{groups_start}
use Rattle.suffix_chain.proofs.groups_along.Goals as goal

pub returns : goal.returns
returns c =
    let a = c.args in
    let e = length_ranked a.ranks.list.now a.s.now in
    let m = c.min-at.ensures in
    (refl, refl, groups_start (ranked a.ranks.list.now a.s.now) a.start c.min-at.result (λ h. omega (arith, e, m)) (λ h. omega (arith, e, m)))
