-- Digits are the decimal text of the number that they read as, behind leading zeros.
use mathlib.Core.List.{List, [], ◌∷◌, ◌++◌}
use mathlib.Core.Logic.{◌⊎◌, inl, inr}
use mathlib.Core.Path.{◌≡◌, refl, ap}
use Prim.Native.Nat.{ℕ, suc, ◌≤◌, ◌<◌}
use native.Mathlib.Omega.{arith}
use lib.ListN.{length, replicate}
use Rattle.words.proofs.Bounded.{le_or_lt}
use Rattle.decimal.specs.Decimal.{decimal, read, Digits}
use Rattle.decimal.proofs.Decimal.{decimal_only}

pub record Padded (cs : List ℕ) : Type 0 where
  pub zeros : ℕ
  pub padded : cs ≡ replicate zeros 48 ++ decimal (read cs)

pub digits_padded : (cs : List ℕ) → 0 < length cs → Digits cs → Padded cs
digits_padded [] h d = absurd (omega arith)
digits_padded (c ∷ []) h d =
    record { zeros = 0; padded = decimal_only (read (c ∷ [])) (c ∷ []) (record { some = h; digits = d; reads = refl; leading = λ e. ap (λ x. x ∷ []) e }) }
digits_padded (c ∷ x ∷ xs) h d = go (le_or_lt c 48) (digits_padded (x ∷ xs) (omega arith) (λ k l. d (suc k) (omega arith)))
  where
    go : (c ≤ 48) ⊎ (48 < c) → Padded (x ∷ xs) → Padded (c ∷ x ∷ xs)
    go (inl l) p =
        let e : c ≡ 48 = omega (arith, d 0 (omega arith)) in
        record { zeros = suc p.zeros; padded = rw e (ap (λ u. 48 ∷ u) p.padded) }
    go (inr l) p =
        record {
          zeros = 0;
          padded =
              decimal_only (read (c ∷ x ∷ xs)) (c ∷ x ∷ xs) (record { some = h; digits = d; reads = refl; leading = λ e. absurd (omega arith) });
        }
