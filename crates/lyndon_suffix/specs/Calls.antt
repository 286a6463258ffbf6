-- What the call for a suffix's factors answers and leaves in the lent row, for every input: the refusals in their order, then the result.
use Rattle.std.specs.Prelude.{List, [], ◌∷◌, ℕ, length}
use Rattle.ranks.specs.Ranks.{ranked}
use Rattle.words.specs.Factors.{group_numbers}
use Rattle.words.specs.Tables.{lyndon_array, suffix_groups}
use Rattle.refusals.specs.Filled.{Filled, Fills}
use Rattle.refusals.specs.Refusals.{not_order, pattern_too_long, past_end, not_table, too_short}

-- factor_suffix, by the pattern's Lyndon array
abbrev pub SuffixFactored : List ℕ → List ℕ → List ℕ → ℕ → List ℕ → List ℕ → Filled → Type 0
SuffixFactored s order table start row row' r =
    Fills
    (not_order order ∷ pattern_too_long s ∷ past_end s start ∷ not_table (lyndon_array (ranked order s)) table
    ∷ too_short (length (group_numbers (suffix_groups (ranked order s) start))) (length row) ∷ [])
    (group_numbers (suffix_groups (ranked order s) start)) (length (suffix_groups (ranked order s) start)) row row' r
