-- What the call for a prefix's factors answers and leaves in the lent row, for every input: the refusals in their order, then the result.
use Rattle.std.specs.Prelude.{List, [], ◌∷◌, ℕ, length}
use Rattle.ranks.specs.Ranks.{ranked}
use Rattle.words.specs.Factors.{group_numbers}
use Rattle.words.specs.Tables.{last_factors, prefix_groups}
use Rattle.refusals.specs.Filled.{Filled, Fills}
use Rattle.refusals.specs.Refusals.{not_order, pattern_too_long, past_end, not_table, too_short}

-- factor_prefix, by the pattern's table of last factors
abbrev pub PrefixFactored : List ℕ → List ℕ → List ℕ → ℕ → List ℕ → List ℕ → Filled → Type 0
PrefixFactored s order table end row row' r =
    Fills
    (not_order order ∷ pattern_too_long s ∷ past_end s end ∷ not_table (last_factors (ranked order s)) table
    ∷ too_short (length (group_numbers (prefix_groups (ranked order s) end))) (length row) ∷ [])
    (group_numbers (prefix_groups (ranked order s) end)) (length (prefix_groups (ranked order s) end)) row row' r
