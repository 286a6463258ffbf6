-- A number that a text starts with: it has all of the leading digits, and the closing byte stands behind them.
use mathlib.Core.List.{List, ◌∷◌, ◌++◌}
use mathlib.Core.Logic.{◌⊎◌, inl, inr}
use mathlib.Core.Path.{◌≡◌, sym, ap, ◌∙◌}
use Prim.Native.Nat.{ℕ, suc, ◌+◌, ◌≤◌, ◌<◌}
use native.Mathlib.Numerals.{add-one}
use native.Mathlib.Omega.{arith}
use lib.ListN.{length, take, drop, get_or, length-append, get_or-append}
use lib.Seq.{split_at, length-take-le, get_or-take, get_or-append_seam}
use Rattle.words.proofs.Bounded.{le_or_lt, le_cases}
use Rattle.decimal.specs.Decimal.{read, Digits}
use Rattle.decimal.specs.Leading.{Leading}
use Rattle.edit_file.specs.EditFile.{Numeral}
use Rattle.edit_file.specs.Fields.{Closes}

-- digits before a byte that is none are all the digits that the text starts with
digits_all : (cs : List ℕ) (x n : ℕ) (rest : List ℕ) → Digits cs → x < 48 → Leading (cs ++ (x ∷ rest)) n
    → n ≡ length cs
digits_all cs x n rest d h l = go (le_or_lt n (length cs))
  where
    less : (n ≡ length cs) ⊎ (n < length cs) → n ≡ length cs
    less (inl e) = e
    less (inr k) = absurd (l.stops (rw (get_or-append cs (x ∷ rest) 0 n k) (d n k)))

    go : (n ≤ length cs) ⊎ (length cs < n) → n ≡ length cs
    go (inl k) = less (le_cases k)
    go (inr k) = absurd (omega (arith, l.digits (length cs) k, get_or-append_seam cs x rest 0))

-- what is known at the end of the digits, where the text starts with a number that this byte closes
pub record AtClose (text : List ℕ) (close n : ℕ) : Type 0 where
  pub some : 1 ≤ n
  pub few : n ≤ 5
  pub inside : n < length text
  pub closed : get_or text n 0 ≡ close

pub at_close : {text cs : List ℕ} {close m n : ℕ} (rest : List ℕ) → close < 48 → Leading text n → Numeral cs m → text ≡ cs ++ (close ∷ rest)
    → AtClose text close n
at_close {text} {cs} {close} {m} {n} rest h l d e =
    let q : n ≡ length cs = digits_all cs close n rest d.digits h (rw e at l) in
    record {
      some = omega (arith, d.some);
      few = omega (arith, d.few);
      inside = omega (arith, ap length e, length-append cs (close ∷ rest));
      closed = rw (e, q) (get_or-append_seam cs close rest 0);
    }

module _ {text : List ℕ} {n : ℕ} (l : Leading text n) where
  pub length_front : n ≡ length (take n text)
  length_front = sym (length-take-le n text l.fits)

  pub digits_front : Digits (take n text)
  digits_front k h = rw (get_or-take n text k 0 (omega (arith, length_front))) (l.digits k (omega (arith, length_front)))

  pub closes : {value : ℕ} (close : ℕ) → (n ≡ 0 → ⊥) → n ≤ 5 → n < length text → get_or text n 0 ≡ close → value ≡ read (take n text)
      → Closes text close value (n + 1)
  closes close some few h e r =
      record {
        spelled = take n text;
        numeral = record { some = omega (arith, length_front); few = omega (arith, length_front); digits = digits_front; reads = sym r };
        front = rw add-one (split_at text n 0 h ∙ ap (λ c. take n text ++ (c ∷ drop (suc n) text)) e);
        place = omega (arith, length_front);
      }
