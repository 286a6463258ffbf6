-- A byte as two capital hexadecimal digits.
use Rattle.std.specs.Prelude.{cond, List, [], ◌∷◌, ◌≡◌, ℕ, ◌+◌, ◌/◌, ◌%◌, ◌<◌, ltb, get_or}

-- The ASCII code of a digit below 16: 0 to 9, then A to F.
abbrev pub digit_of : ℕ → ℕ
digit_of d = cond (ltb d 10) (48 + d) (55 + d)

-- The digits of a byte, the high one first.
unfoldable pub pair_of : ℕ → List ℕ
pair_of b = digit_of (b / 16) ∷ digit_of (b % 16) ∷ []

-- A list of the digits below 16 in their order.
pub record HexDigits (list : List ℕ) : Type 0 where
  pub entry : (d : ℕ) → d < 16 → get_or list d 0 ≡ digit_of d
