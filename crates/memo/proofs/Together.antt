-- Agreements of bytes inside a pattern: of nothing, along a third place, and in a run.
use mathlib.Core.List.{List}
use mathlib.Core.Logic.{◌⊎◌, inl, inr}
use mathlib.Core.Path.{◌≡◌, sym, ◌∙◌}
use Prim.Native.Nat.{ℕ, ◌+◌, ◌-◌, ◌≤◌, ◌<◌}
use native.Mathlib.Omega.{arith}
use lib.ListN.{length, get_or}
use Rattle.words.proofs.Bounded.{le_or_lt}
use Rattle.memo.specs.Memo.{Alike}

module _ {s : List ℕ} where
  pub alike_none : (p q : ℕ) → q ≤ length s → Alike s p q 0
  alike_none p q h = record { inside = omega arith; agree = record { at = λ k l. absurd (omega arith) } }

  -- through a place between
  pub alike_on : {p q r e f : ℕ} → Alike s p q e → Alike s q r f → (k : ℕ) → k ≤ e → k ≤ f → Alike s p r k
  alike_on a b k h l = record { inside = omega (arith, b.inside); agree = record { at = λ t m. a.agree.at t (omega arith) ∙ b.agree.at t (omega arith) } }

  -- two places that agree with a third behind them
  pub alike_both : {p q r e f : ℕ} → Alike s p r e → Alike s q r f → q ≤ r → (k : ℕ) → k ≤ e → k ≤ f → Alike s p q k
  alike_both a b o k h l =
      record { inside = omega (arith, b.inside); agree = record { at = λ t m. a.agree.at t (omega arith) ∙ sym (b.agree.at t (omega arith)) } }

  -- the first d bytes from i agree with those d further on, which go on so: a run
  pub alike_run : {i d g : ℕ} → Alike s i (i + d) d → Alike s (i + d) (i + d + d) g → Alike s i (i + d) (d + g)
  alike_run {i} {d} {g} a b = record { inside = omega (arith, b.inside); agree = record { at = λ k h. go k h (le_or_lt d k) } }
    where
      go : (k : ℕ) → k < d + g → (d ≤ k) ⊎ (k < d) → get_or s (i + k) 0 ≡ get_or s (i + d + k) 0
      go k h (inl l) =
          let p : i + d + (k - d) ≡ i + k = omega arith in
          let q : i + d + d + (k - d) ≡ i + d + k = omega arith in
          rw (p, q) at (b.agree.at (k - d) (omega arith))
      go k h (inr l) = a.agree.at k l
