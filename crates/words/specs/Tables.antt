-- The two tables of a pattern, its longest Lyndon substrings, and the factors of its prefixes and suffixes.
-- How the engine makes or tests a table is not said here.
use Rattle.std.specs.Prelude.{Bool, ◌&&◌, List, [], ◌∷◌, ℕ, suc, ◌+◌, ◌≤◌, leb, ltb, length, take, drop, get_or}
use Rattle.words.specs.Bounded.{largest, table, passing}
use Rattle.words.specs.Order.{Lyndon, lyndon}
use Rattle.words.specs.Factors.{factors, Group, groups_from}

-- A Lyndon substring of length l starts at i.
pub record LyndonAt (s : List ℕ) (l i : ℕ) : Type 0 where
  pub fits : i + l ≤ length s
  pub word : Lyndon (take l (drop i s))

abbrev pub lyndon_at : List ℕ → ℕ → ℕ → Bool
lyndon_at s l i = leb (i + l) (length s) && lyndon (take l (drop i s))

-- Reach table (the Lyndon array): entry i is the length of the longest Lyndon substring that starts at i.
unfoldable pub longest_at : List ℕ → ℕ → ℕ
longest_at s i = largest (λ l. lyndon_at s l i) (length s)

unfoldable pub lyndon_array : List ℕ → List ℕ
lyndon_array s = table (longest_at s) (length s)

-- Prefix table: entry q - 1 is the length of the last factor of the first q symbols.
abbrev pub last_length : List (List ℕ) → ℕ
last_length [] = 0
last_length (f ∷ []) = length f
last_length (f ∷ g ∷ fs) = last_length (g ∷ fs)

unfoldable pub last_factor : List ℕ → ℕ → ℕ
last_factor s q = last_length (factors (take q s))

unfoldable pub last_factors : List ℕ → List ℕ
last_factors s = table (λ k. last_factor s (suc k)) (length s)

-- The places at which a Lyndon substring of length l starts, ascending.
unfoldable pub lyndon_starts : List ℕ → ℕ → List ℕ
lyndon_starts s l = passing (lyndon_at s l) (length s)

-- The length of the longest Lyndon substrings; 0 for the empty pattern.
unfoldable pub longest : List ℕ → ℕ
longest s = largest (λ l. ltb 0 (length (lyndon_starts s l))) (length s)

unfoldable pub longest_starts : List ℕ → List ℕ
longest_starts s = lyndon_starts s (longest s)

-- Trigger word: the first of the longest Lyndon substrings, as start and length; (0, 0) for the empty pattern.
unfoldable pub longest_word : List ℕ → ℕ × ℕ
longest_word s = (get_or (longest_starts s) 0 0, longest s)

-- The groups of a pattern, of its first q symbols, and of its symbols from place q on. Starts are places in the pattern.
unfoldable pub groups : List ℕ → List Group
groups s = groups_from 0 (factors s)

unfoldable pub prefix_groups : List ℕ → ℕ → List Group
prefix_groups s q = groups_from 0 (factors (take q s))

unfoldable pub suffix_groups : List ℕ → ℕ → List Group
suffix_groups s q = groups_from q (factors (drop q s))
