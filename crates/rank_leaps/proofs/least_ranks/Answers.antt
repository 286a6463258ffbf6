-- `rank_leaps::least_ranks` meets its contract: where the ranks of all bytes before place j + u passed, they are d or above.
use Rattle.std.proofs.Common.{◌≡◌, ◌+◌, refl, arith}
use Rattle.ranks.proofs.Ranked.{entry_ranked}
use Rattle.rank_leaps.proofs.Breaking.{least_test}
use Rattle.rank_leaps.proofs.least_ranks.Goals as goal

pub loop-u-preserved : goal.loop-u-preserved
loop-u-preserved c =
    let a = c.args in
    let x = entry_ranked a.ranks.now a.s.now (a.j + c.loop-u.u) c.from-at.result _ c.requires.0 (omega arith) c.from-at.ensures (omega arith) refl in
    let e : a.j + (c.loop-u.u + 1) ≡ a.j + c.loop-u.u + 1 = omega arith in
    λ t. rw e (least_test c.loop-u.all c.loop-u.invariant (rw (← x) t))
