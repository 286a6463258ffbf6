-- Worked facts of orders, by computing: the reverse order, in which the byte 80 (hexadecimal) is smaller than 7F, and lists that are no order.
use mathlib.Core.Bool.{true, false}
use mathlib.Core.List.{List, [], ◌∷◌, ◌++◌}
use mathlib.Core.Logic.{inl, inr}
use mathlib.Core.Path.{◌≡◌, refl}
use Prim.Native.Nat.{ℕ, zero, suc, ◌-◌, ◌<◌}
use native.Mathlib.Omega.{arith}
use lib.ListN.{drop, take}
use Rattle.words.specs.Bounded.{table}
use Rattle.words.specs.Factors.{factors}
use Rattle.words.specs.Tables.{groups}
use Rattle.words.proofs.Bounded.{length_table}
use Rattle.ranks.specs.Ranks.{is_order, byte_order, LessBy, LyndonBy, factors_by}
use Rattle.ranks.proofs.Times.{times_once}
use Rattle.ranks.proofs.Marks.{true_order}

-- The largest byte has the smallest rank.
abbrev pub reverse : List ℕ
reverse = table (λ b. 255 - b) 256

pub reverse_is_order : is_order reverse ≡ true
reverse_is_order =
    true_order reverse (record {
      size = length_table (λ b. 255 - b) 256;
      once = λ r h. times_once (λ b. 255 - b) 256 r (255 - r) (omega arith) (omega arith) (λ k l q. omega arith);
    })

-- 7F 80 is one factor in byte order and two in the reverse, 80 7F the other way round
pub rising_plain : factors_by byte_order (127 ∷ 128 ∷ []) ≡ (127 ∷ 128 ∷ []) ∷ []
unfolding factors_by byte_order groups factors
rising_plain = refl

pub rising_reverse : factors_by reverse (127 ∷ 128 ∷ []) ≡ (127 ∷ []) ∷ (128 ∷ []) ∷ []
unfolding factors_by groups factors
rising_reverse = refl

pub falling_plain : factors_by byte_order (128 ∷ 127 ∷ []) ≡ (128 ∷ []) ∷ (127 ∷ []) ∷ []
unfolding factors_by byte_order groups factors
falling_plain = refl

pub falling_reverse : factors_by reverse (128 ∷ 127 ∷ []) ≡ (128 ∷ 127 ∷ []) ∷ []
unfolding factors_by groups factors
falling_reverse = refl

-- as the definition on bytes says it
pub falling_word : LyndonBy reverse (128 ∷ 127 ∷ [])
falling_word = record { some = omega arith; least = go }
  where
    go : (k : ℕ) → 0 < k → k < 2 → LessBy reverse (128 ∷ 127 ∷ []) (drop k (128 ∷ 127 ∷ []))
    go zero h l = absurd (omega arith)
    go (suc zero) h l = inl (omega arith)
    go (suc (suc k)) h l = absurd (omega arith)

pub rising_no_word : ¬ LyndonBy reverse (127 ∷ 128 ∷ [])
rising_no_word d = go (d.least 1 (omega arith) (omega arith))
  where
    go : LessBy reverse (127 ∷ 128 ∷ []) (128 ∷ []) → ⊥
    go (inl h) = omega arith
    go (inr h) = omega (arith, h.0)

-- no orders: the rank 0 twice, a rank that is no byte, 255 entries, 257, none
pub twice_is_none : is_order (take 255 byte_order ++ 0 ∷ []) ≡ false
unfolding is_order byte_order
twice_is_none = refl

pub beyond_is_none : is_order (take 255 byte_order ++ 256 ∷ []) ≡ false
unfolding is_order byte_order
beyond_is_none = refl

pub fewer_is_none : is_order (take 255 byte_order) ≡ false
unfolding is_order byte_order
fewer_is_none = refl

pub more_is_none : is_order (byte_order ++ 0 ∷ []) ≡ false
unfolding is_order byte_order
more_is_none = refl

pub empty_is_none : is_order [] ≡ false
unfolding is_order
empty_is_none = refl
