-- Characters and numbers in decimal, as lists of ASCII codes.
use Rattle.std.specs.Prelude.{List, [], ◌∷◌, ◌++◌, ℕ, zero, suc, ◌+◌, ◌-◌, ◌*◌, ◌/◌, ◌%◌, ◌^◌, ◌≤◌, ◌<◌, ltb, length, get_or}
use Prim.Native.Char.{code}
use Prim.Native.String.{String, [] as none, ◌∷◌ as ◌then◌}
use Rattle.words.specs.Bounded.{smallest}

-- The codes of a text's characters.
abbrev pub codes : String → List ℕ
codes none = []
codes (c then cs) = code c ∷ codes cs

-- The last k decimal digits of n, the most significant first.
abbrev pub last_digits : ℕ → ℕ → List ℕ
last_digits zero n = []
last_digits (suc k) n = last_digits k (n / 10) ++ ((48 + n % 10) ∷ [])

-- The fewest digits, at least one, that hold n.
unfoldable pub digit_count : ℕ → ℕ
digit_count n = suc (smallest (λ k. ltb n (10 ^ suc k)) n)

-- A number in decimal. proofs/Decimal proves that it is the one text of digits that reads as n and has no leading zero.
unfoldable pub decimal : ℕ → List ℕ
decimal n = last_digits (digit_count n) n

-- The number that digits are read as, behind those that were read before.
abbrev pub read_behind : ℕ → List ℕ → ℕ
read_behind n [] = n
read_behind n (c ∷ cs) = read_behind (10 * n + (c - 48)) cs

abbrev pub read : List ℕ → ℕ
read cs = read_behind 0 cs

-- The code of a decimal digit.
abbrev pub Digit : ℕ → Type 0
Digit c = (48 ≤ c) × (c ≤ 57)

abbrev pub Digits : List ℕ → Type 0
Digits cs = (k : ℕ) → k < length cs → Digit (get_or cs k 0)
