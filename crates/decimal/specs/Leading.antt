-- What the count of leading digits answers; for the parsers between the crates.
use Rattle.std.specs.Prelude.{List, ℕ, ◌≤◌, ◌<◌, length, get_or}
use Rattle.decimal.specs.Decimal.{Digit}

-- The text starts with n digits and no more; past its end stands no digit.
pub record Leading (text : List ℕ) (n : ℕ) : Type 0 where
  pub fits : n ≤ length text
  pub digits : (k : ℕ) → k < n → Digit (get_or text k 0)
  pub stops : Digit (get_or text n 0) → ⊥
