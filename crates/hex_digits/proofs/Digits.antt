-- The list of sixteen digits, and that the digits of a byte are two of its entries.
use mathlib.Core.List.{List, [], ◌∷◌}
use mathlib.Core.Path.{◌≡◌, refl}
use Prim.Native.Nat.{ℕ, zero, suc, ◌/◌, ◌%◌, ◌<◌}
use native.Mathlib.Omega.{arith}
use lib.ListN.{get_or}
use Rattle.hex_digits.specs.Hex.{digit_of, pair_of, HexDigits}

-- the n values f 0, f 1, ..
abbrev values : (ℕ → ℕ) → ℕ → List ℕ
values f zero = []
values f (suc n) = f 0 ∷ values (λ k. f (suc k)) n

value_at : (f : ℕ → ℕ) (n k : ℕ) → k < n → get_or (values f n) k 0 ≡ f k
value_at f zero k h = absurd (omega arith)
value_at f (suc n) zero h = refl
value_at f (suc n) (suc k) h = value_at (λ i. f (suc i)) n k (omega arith)

pub digits_listed : HexDigits (values digit_of 16)
digits_listed = record { entry = value_at digit_of 16 }

pub pair_at : {list : List ℕ} (b : ℕ) → HexDigits list → b < 256 → get_or list (b / 16) 0 ∷ get_or list (b % 16) 0 ∷ [] ≡ pair_of b
unfolding pair_of
pair_at b l h = rw (l.entry (b / 16) (omega arith), l.entry (b % 16) (omega arith)) refl
