-- What the call for a wanted table answers and leaves in the lent row, for every input: the refusals in their order, then a pattern that has it.
use Rattle.std.specs.Prelude.{Bool, true, false, List, [], ◌∷◌, ◌≡◌, ℕ, ◌≤◌, length}
use Rattle.ranks.specs.Ranks.{Bytes, is_order, ranked}
use Rattle.words.specs.Tables.{lyndon_array}
use Rattle.refusals.specs.Filled.{Filled, Fills}
use Rattle.refusals.specs.Refusals.{Refusal, not_order, too_short, max_wanted, wanted_too_long, no_pattern}

-- realise_array. A byte pattern with the wanted reach table; it has as many bytes as the table has entries.
pub record HasArray (wanted order s : List ℕ) : Type 0 where
  pub bytes : Bytes s
  pub array : lyndon_array (ranked order s) ≡ wanted

abbrev pub wanted_refusals : List ℕ → List ℕ → Bool → List ℕ → List Refusal
wanted_refusals wanted order unrealisable row = not_order order ∷ wanted_too_long wanted ∷ no_pattern unrealisable ∷ too_short (length wanted) (length row) ∷ []

-- Which pattern is written is left free but for that. Of a table of up to 256 entries and an order either `unrealisable` says that there is no such
-- pattern at all, or `pattern` is one; a longer table is refused by 11, and what is no order by 13, whatever they are.
pub record ArrayRealised (wanted order row row' : List ℕ) (r : Filled) : Type 0 where
  pub pattern : List ℕ
  pub unrealisable : Bool
  pub fills : Fills (wanted_refusals wanted order unrealisable row) pattern (length wanted) row row' r
  pub has : unrealisable ≡ false → is_order order ≡ true → length wanted ≤ max_wanted → HasArray wanted order pattern
  pub lacks : unrealisable ≡ true → (s : List ℕ) → HasArray wanted order s → ⊥
