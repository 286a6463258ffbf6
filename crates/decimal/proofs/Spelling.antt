-- One turn of the loop that writes a number in decimal: the last digit of what is left goes before the digits that stand.
use mathlib.Core.List.{List}
use mathlib.Core.Path.{◌≡◌, refl, ap, ◌∙◌}
use Prim.Native.Nat.{ℕ, suc, ◌+◌, ◌-◌, ◌/◌, ◌%◌, ◌≤◌, ◌<◌}
use native.Mathlib.Omega.{arith}
use lib.ListN.{length, set, length-set}
use Rattle.rows.specs.Row.{written_at}
use Rattle.rows.specs.Written.{Room}
use Rattle.rows.proofs.Puts.{written_last}
use Rattle.decimal.specs.Decimal.{last_digits, decimal, digit_count}
use Rattle.decimal.proofs.Decimal.{length_last, length_decimal}

-- with the digits of `rest` put before place j, the buffer is as it is to be
pub record Spelling (n : ℕ) (d : List ℕ) (i : ℕ) (b : List ℕ) (j rest : ℕ) : Type 0 where
  pub from : i ≤ j
  pub upto : j ≤ length d
  pub long : length b ≡ length d
  pub holds : written_at i (decimal n) d ≡ written_at i (last_digits (j - i) rest) b

pub spelling_none : (n : ℕ) (d : List ℕ) (i : ℕ) → Room (decimal n) i d → Spelling n d i d (i + length (decimal n)) n
unfolding decimal
spelling_none n d i h =
    let e : i + length (decimal n) - i ≡ digit_count n = omega (arith, length_decimal n) in
    record { from = omega arith; upto = h; long = refl; holds = rw e refl }

module _ {n : ℕ} {d b : List ℕ} {i j rest : ℕ} (w : Spelling n d i b j rest) where
  pub spelling_one : i < j → Spelling n d i (set b (j - 1) (48 + rest % 10)) (j - 1) (rest / 10)
  spelling_one h =
      let x = 48 + rest % 10 in
      let digits = last_digits (j - 1 - i) (rest / 10) in
      let e : j - i ≡ suc (j - 1 - i) = omega arith in
      let f : i + length digits ≡ j - 1 = omega (arith, length_last (j - 1 - i) (rest / 10)) in
      record {
        from = omega arith;
        upto = omega (arith, w.upto);
        long = length-set b (j - 1) x ∙ w.long;
        holds =
            w.holds ∙ ap (λ k. written_at i (last_digits k rest) b) e ∙ written_last i digits x b (omega (arith, w.upto, w.long))
            ∙ ap (λ k. written_at i digits (set b k x)) f;
      }
