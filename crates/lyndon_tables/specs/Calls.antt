-- What the calls for the two tables answer and leave in the lent row, for every input: the refusals in their order, then the table.
use Rattle.std.specs.Prelude.{List, [], ◌∷◌, ℕ, length}
use Rattle.ranks.specs.Ranks.{ranked}
use Rattle.words.specs.Tables.{lyndon_array, last_factors}
use Rattle.refusals.specs.Filled.{Filled, Fills}
use Rattle.refusals.specs.Refusals.{not_order, pattern_too_long, too_short}

-- lyndon_array
abbrev pub ArrayMade : List ℕ → List ℕ → List ℕ → List ℕ → Filled → Type 0
ArrayMade s order row row' r =
    Fills (not_order order ∷ pattern_too_long s ∷ too_short (length (lyndon_array (ranked order s))) (length row) ∷ []) (lyndon_array (ranked order s)) (length s) row row' r

-- last_factors
abbrev pub LastFactorsMade : List ℕ → List ℕ → List ℕ → List ℕ → Filled → Type 0
LastFactorsMade s order row row' r =
    Fills (not_order order ∷ pattern_too_long s ∷ too_short (length (last_factors (ranked order s))) (length row) ∷ []) (last_factors (ranked order s)) (length s) row row' r
