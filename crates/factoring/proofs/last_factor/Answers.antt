-- `factoring::last_factor` meets its contract: the last group of what is left, or the one before it where nothing is left, is the last of all.
use mathlib.Core.Path.{◌≡◌, sym, ap, ◌∙◌}
use Rattle.ranks.specs.Ranks.{ranked}
use Rattle.words.specs.Tables.{suffix_groups}
use Rattle.factoring.proofs.Last.{last_size, last_start}
use Rattle.factoring.proofs.last_factor.Goals as goal

pub loop-g-init : goal.loop-g-init
loop-g-init c =
    let a = c.args in
    let it = c.into_iter-g-iterator.result in
    let e : suffix_groups (ranked it.ranks.list.now it.s.now) it.at ≡ suffix_groups (ranked a.ranks.list.now a.s.now) 0 = cc in
    ap (last_size 0) e ∙ last_start (ranked a.ranks.list.now a.s.now)

pub loop-g-preserved : goal.loop-g-preserved
loop-g-preserved c = sym (ap (last_size c.loop-g.last) c.in-Some.ensures.steps) ∙ c.loop-g.invariant

pub returns : goal.returns
returns c = sym (ap (last_size c.loop-g.last) c.in-None.ensures.steps.0) ∙ c.loop-g.invariant
