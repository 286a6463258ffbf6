-- Factors of a pattern (source 004: decomposed factors), their places, and groups of equal neighbours.
-- `Factorisation` says what factors are. `factors` computes them; proofs/Theorems proves that a list is a factorisation exactly when
-- it is this one.
use Rattle.std.specs.Prelude.{Bool, true, false, List, [], ◌∷◌, ◌++◌, ◌≡◌, ℕ, zero, suc, ◌+◌, ◌<◌, length, take, drop, get_or, replicate}
use Rattle.words.specs.Bounded.{largest}
use Rattle.words.specs.Order.{Less, Lyndon, lyndon, same}

-- The strings joined.
abbrev pub join : List (List ℕ) → List ℕ
join [] = []
join (f ∷ fs) = f ++ join fs

-- The three qualities: Lyndon words, none smaller than the next, whose joining is the pattern.
pub record Factorisation (s : List ℕ) (fs : List (List ℕ)) : Type 0 where
  pub words : (k : ℕ) → k < length fs → Lyndon (get_or fs k [])
  pub falling : (k : ℕ) → suc k < length fs → ¬ Less (get_or fs k []) (get_or fs (suc k) [])
  pub joined : join fs ≡ s

-- The length of the longest prefix that is a Lyndon word; 0 for the empty pattern.
abbrev pub longest_prefix : List ℕ → ℕ
longest_prefix s = largest (λ l. lyndon (take l s)) (length s)

-- The first n factors: the longest prefix that is a Lyndon word, then the factors of what is left.
abbrev pub factors_up_to : ℕ → List ℕ → List (List ℕ)
factors_up_to zero s = []
factors_up_to (suc n) [] = []
factors_up_to (suc n) (x ∷ xs) = let p = longest_prefix (x ∷ xs) in take p (x ∷ xs) ∷ factors_up_to n (drop p (x ∷ xs))

-- A pattern has no more factors than symbols.
unfoldable pub factors : List ℕ → List (List ℕ)
factors s = factors_up_to (length s) s

-- The places at which the strings start when they are joined from place i on.
abbrev pub starts_from : ℕ → List (List ℕ) → List ℕ
starts_from i [] = []
starts_from i (f ∷ fs) = i ∷ starts_from (i + length f) fs

-- The place at which the k-th string starts when they are joined.
abbrev pub start_at : List (List ℕ) → ℕ → ℕ
start_at fs k = length (join (take k fs))

-- Group: a longest stretch of equal neighbouring factors, as its start, the length of one factor (`size`), and their number (`power`).
pub record Group : Type 0 where
  pub start : ℕ
  pub size : ℕ
  pub power : ℕ

-- The word of a group of factors of s.
abbrev pub word_of : List ℕ → Group → List ℕ
word_of s g = take g.size (drop g.start s)

-- Groups of factors of s spelled out: the word of each, as often as its power says.
abbrev pub spelled : List ℕ → List Group → List (List ℕ)
spelled s [] = []
spelled s (g ∷ gs) = replicate g.power (word_of s g) ++ spelled s gs

abbrev pub starts_with : List ℕ → List (List ℕ) → Bool
starts_with f [] = false
starts_with f (g ∷ gs) = same f g

-- One more factor of this start and length before the groups: in the first of them (true), or in a group of its own.
abbrev pub with_factor : Bool → ℕ → ℕ → List Group → List Group
with_factor false i l gs = record { start = i; size = l; power = 1 } ∷ gs
with_factor true i l [] = record { start = i; size = l; power = 1 } ∷ []
with_factor true i l (g ∷ gs) = record { start = i; size = l; power = suc g.power } ∷ gs

-- The groups of factors that stand from place i on.
abbrev pub groups_from : ℕ → List (List ℕ) → List Group
groups_from i [] = []
groups_from i (f ∷ fs) = with_factor (starts_with f fs) i (length f) (groups_from (i + length f) fs)

-- Groups in a row of numbers, three each.
abbrev pub group_numbers : List Group → List ℕ
group_numbers [] = []
group_numbers (g ∷ gs) = g.start ∷ g.size ∷ g.power ∷ group_numbers gs

-- The first k groups of such a row.
abbrev pub number_groups : ℕ → List ℕ → List Group
number_groups zero row = []
number_groups (suc k) row = record { start = get_or row 0 0; size = get_or row 1 0; power = get_or row 2 0 } ∷ number_groups k (drop 3 row)
