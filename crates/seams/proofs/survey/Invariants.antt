-- `seams::survey` meets its contract: each turn passes one group.
use mathlib.Core.Path.{◌≡◌}
use lib.ListN.{length}
use Rattle.ranks.specs.Ranks.{ranked}
use Rattle.words.specs.Tables.{suffix_groups}
use Rattle.scan.proofs.Left.{Left}
use Rattle.seams.proofs.Passed.{Passed}
use Rattle.seams.proofs.survey.Given as goal

abbrev pub invariant-loop-g : goal.invariant-loop-g
invariant-loop-g l =
    let t = ranked l.ranks.list.now l.t in
    let it = l.g-iterator in
    (left : Left t (suffix_groups (ranked it.ranks.list.now it.s.now) it.at)) × Passed t l.end l.from l.q l.ends l.place l.stored l.fresh l.found l.run left.at × (length t ≡ length l.t)
