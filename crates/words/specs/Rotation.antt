-- The phase mark of a pattern, the smallest start of a least rotation; and patterns that are a shorter word repeated, whose mark names no
-- single phase.
use Rattle.std.specs.Prelude.{Bool, not, List, ◌++◌, ◌≡◌, ℕ, ◌/◌, ◌≤◌, ◌<◌, ltb, length, take, drop, replicate}
use Rattle.words.specs.Bounded.{every, smallest}
use Rattle.words.specs.Factors.{join}
use Rattle.words.specs.Order.{Less, less, same}

-- The rotation that starts at k.
abbrev pub rotation : List ℕ → ℕ → List ℕ
rotation s k = drop k s ++ take k s

-- No rotation is smaller than the one at k.
abbrev pub least : List ℕ → ℕ → Bool
least s k = every (λ j. not (less (rotation s j) (rotation s k))) (length s)

-- Phase mark: the smallest start of a least rotation; 0 for the empty pattern.
unfoldable pub least_rotation : List ℕ → ℕ
least_rotation s = smallest (least s) (length s)

-- The least rotation starts at this place and at no other: each other rotation is greater.
pub record UniqueLeast (s : List ℕ) (r : ℕ) : Type 0 where
  pub within : r < length s
  pub others : (k : ℕ) → k < length s → ¬ (k ≡ r) → Less (rotation s r) (rotation s k)

-- A shorter word repeated two or more times. So it has at least two symbols.
pub record Repeated (s : List ℕ) : Type 0 where
  pub word : List ℕ
  pub times : ℕ
  pub shorter : length word < length s
  pub twice : 2 ≤ times
  pub whole : s ≡ join (replicate times word)

-- The smallest d for which the pattern is its first d symbols repeated is below its length; d = 0 would repeat the empty word, which gives no symbol.
unfoldable pub repeated : List ℕ → Bool
repeated s = ltb (smallest (λ d. same s (join (replicate (length s / d) (take d s)))) (length s)) (length s)
