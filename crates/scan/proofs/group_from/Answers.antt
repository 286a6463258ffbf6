-- `scan::group_from` meets its contract.
use mathlib.Core.Path.{refl}
use native.Mathlib.Omega.{arith}
use Rattle.ranks.proofs.Ranked.{length_ranked}
use Rattle.scan.proofs.group_from.Goals as goal

pub returns-then-i-s : goal.returns-then-i-s
returns-then-i-s c =
    let a = c.args in
    record { group = λ h. c.next_group.ensures; none = λ h. absurd (omega (arith, length_ranked a.ranks.list.now a.s.now)) }

pub returns : goal.returns
returns c =
    let a = c.args in
    record { group = λ h. absurd (omega (arith, length_ranked a.ranks.list.now a.s.now)); none = λ h. (refl, refl) }
