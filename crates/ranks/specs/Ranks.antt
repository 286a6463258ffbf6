-- A symbol order: 256 ranks, entry b being the rank of byte b. Smaller means smaller rank: what that makes of strings, Lyndon words and factors.
-- What is answered under an order is said of the ranks of a pattern; proofs/Theorems proves that this is what the words on bytes say.
use Rattle.std.specs.Prelude.{Bool, ◌&&◌, List, [], ◌∷◌, ◌⊎◌, ◌≡◌, ℕ, suc, ◌<◌, eqb, length, drop, get_or}
use Rattle.words.specs.Bounded.{every, select, table}
use Rattle.words.specs.Factors.{join, spelled}
use Rattle.words.specs.Tables.{groups}

-- Each symbol is a byte.
abbrev pub Bytes : List ℕ → Type 0
Bytes s = (i : ℕ) → i < length s → get_or s i 0 < 256

-- How often a number stands in a list.
abbrev pub times : ℕ → List ℕ → ℕ
times r xs = length (select (λ x. eqb r x) xs)

-- Order: exactly 256 entries that hold each of 0 to 255 once.
pub record Order (order : List ℕ) : Type 0 where
  pub size : length order ≡ 256
  pub once : (r : ℕ) → r < 256 → times r order ≡ 1

unfoldable pub is_order : List ℕ → Bool
is_order order = eqb (length order) 256 && every (λ r. eqb (times r order) 1) 256

-- Byte order: each byte's value is its rank.
unfoldable pub byte_order : List ℕ
byte_order = table (λ b. b) 256

-- The rank of a byte: its entry, or its value where there is no entry.
abbrev pub rank : List ℕ → ℕ → ℕ
rank order b = get_or order b b

-- The ranks of a pattern's bytes.
abbrev pub ranked : List ℕ → List ℕ → List ℕ
ranked order [] = []
ranked order (b ∷ s) = rank order b ∷ ranked order s

-- Smaller under an order: the byte of smaller rank at the first difference, or a proper prefix of the longer string.
abbrev pub LessBy : List ℕ → List ℕ → List ℕ → Type 0
LessBy order [] [] = ⊥
LessBy order [] (y ∷ ys) = Unit {0}
LessBy order (x ∷ xs) [] = ⊥
LessBy order (x ∷ xs) (y ∷ ys) = (rank order x < rank order y) ⊎ ((x ≡ y) × LessBy order xs ys)

-- A Lyndon word under an order.
pub record LyndonBy (order w : List ℕ) : Type 0 where
  pub some : 0 < length w
  pub least : (k : ℕ) → 0 < k → k < length w → LessBy order w (drop k w)

-- The three qualities of factors, under an order.
pub record FactorisationBy (order s : List ℕ) (fs : List (List ℕ)) : Type 0 where
  pub words : (k : ℕ) → k < length fs → LyndonBy order (get_or fs k [])
  pub falling : (k : ℕ) → suc k < length fs → ¬ LessBy order (get_or fs k []) (get_or fs (suc k) [])
  pub joined : join fs ≡ s

-- The factors under an order, as bytes: those of the ranks, spelled out of the pattern.
unfoldable pub factors_by : List ℕ → List ℕ → List (List ℕ)
factors_by order s = spelled s (groups (ranked order s))
