-- `factoring::last_factor` meets its contract: the last group of what is left, or the one before it where nothing is left, is the last of all.
use mathlib.Core.Path.{◌≡◌}
use Rattle.ranks.specs.Ranks.{ranked}
use Rattle.words.specs.Factors.{factors}
use Rattle.words.specs.Tables.{last_length, suffix_groups}
use Rattle.factoring.proofs.Last.{last_size}
use Rattle.factoring.proofs.last_factor.Given as goal

abbrev pub invariant-loop-g : goal.invariant-loop-g
invariant-loop-g l =
    let it = l.g-iterator in
    last_size l.last (suffix_groups (ranked it.ranks.list.now it.s.now) it.at) ≡ last_length (factors (ranked l.ranks.list.now l.s))
