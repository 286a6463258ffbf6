-- `prefix_chain::count_prefix` meets its contract: there are no more groups than symbols.
use mathlib.Core.Logic.{inl}
use mathlib.Core.Path.{refl, ◌∙◌}
use Rattle.std.proofs.lemmas.Iterator.Consumers.{YieldsList-from_first, count_from_yields_List}
use Rattle.scan.specs.Group.{group_of}
use Rattle.std.specs.Prelude.{reverse}
use Rattle.words.specs.Tables.{prefix_groups}
use native.Mathlib.Omega.{arith}
use Rattle.ranks.specs.Ranks.{ranked}
use Rattle.ranks.proofs.Ranked.{length_ranked}
use Rattle.prefix_chain.proofs.TurnBack.{prefix_few, back_count}
use Rattle.prefix_chain.proofs.count_prefix.Goals as goal

pub count-requires-clause-fits : goal.count-requires-clause-fits
count-requires-clause-fits c =
    let a = c.args in
    let s = ranked a.ranks.list.now a.s.now in
    inl (omega (arith, prefix_few s a.end, back_count s a.end, length_ranked a.ranks.list.now a.s.now))

pub returns : goal.returns
returns c =
    let a = c.args in
    let s = ranked a.ranks.list.now a.s.now in
    let all = YieldsList-from_first (λ g. group_of g.start g.length g.power) (λ it. reverse (prefix_groups (ranked it.ranks.list.now it.s.now) it.end)) (reverse (prefix_groups s a.end)) refl in
    count_from_yields_List _ c.count.result c.count.ensures.ran all ∙ back_count s a.end
