-- What a comparison of two strings answers.
use Rattle.std.specs.Prelude.{List, cond, eqb, ◌≡◌, ℕ, ◌≤◌, ◌<◌, length, take, get_or}
use Rattle.std.specs.declared.cmp.Ordering.{Ordering}
use Rattle.std.specs.declared.cmp.Ordering.TheVariants.{Less, Equal, Greater}
use Rattle.ranks.specs.Ranks.{ranked}
use Rattle.words.specs.Order.{smaller, shared}
use Rattle.comparing.specs.declared.Compared.{Compared}

-- The number of the smaller string in an ordering, as `smaller` tells it: 1 the first, 2 the second, 0 where neither is.
abbrev pub smaller_of : Ordering → ℕ
smaller_of Less = 1
smaller_of Greater = 2
smaller_of Equal = 0

-- The ordering of that number.
abbrev pub ordering_of : ℕ → Ordering
ordering_of n = cond (eqb n 1) Less (cond (eqb n 2) Greater Equal)

-- The shared length, which is of the bytes, and how the strings are ordered, by their ranks.
unfoldable pub compared : List ℕ → List ℕ → List ℕ → Compared
compared order a b = record { shared = shared a b; ordering = ordering_of (smaller (ranked order a) (ranked order b)) }

-- How far two strings agree: at k one ends, or they differ.
pub record SharedTold (a b : List ℕ) (k : ℕ) : Type 0 where
  pub first : k ≤ length a
  pub second : k ≤ length b
  pub agree : take k a ≡ take k b
  pub differ : k < length a → k < length b → get_or a k 0 ≡ get_or b k 0 → ⊥
