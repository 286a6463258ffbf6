-- What the calls for the trigger word answer, for every input: where it is, and the part of the pattern that is cut there.
use Rattle.std.specs.Prelude.{List, [], ◌∷◌, ◌≡◌, ℕ, ◌+◌, take, drop}
use Rattle.ranks.specs.Ranks.{ranked}
use Rattle.words.specs.Tables.{longest_word}
use Rattle.refusals.specs.Refusals.{first_of, unless_refused, not_order, pattern_too_long}

-- longest_word: where the trigger word starts, and its length; the empty part at the front where the pattern or the order is refused
abbrev pub word_place : List ℕ → List ℕ → ℕ × ℕ
word_place s order = unless_refused (first_of (not_order order ∷ pattern_too_long s ∷ [])) (longest_word (ranked order s)) (0, 0)

-- its bytes, and its place: the pattern lies at `at`, an allocation and an offset in it, and the word in the same allocation, as far on as it starts
pub record WordCut (s order : List ℕ) (at : ℕ × ℕ) (word : List ℕ) (at' : ℕ × ℕ) : Type 0 where
  pub bytes : word ≡ take (word_place s order).1 (drop (word_place s order).0 s)
  pub place : at' ≡ (at.0, (word_place s order).0 + at.1)
