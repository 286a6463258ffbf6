-- Two words of a pattern that agree up to a place: what stands there, or an end, says which is smaller.
use mathlib.Core.List.{List}
use mathlib.Core.Logic.{◌⊎◌, inl, inr}
use mathlib.Core.Path.{◌≡◌, refl, sym, ap, ◌∙◌}
use Prim.Native.Nat.{ℕ, ◌+◌, ◌≤◌, ◌<◌, min}
use native.Mathlib.Omega.{arith}
use lib.ListN.{length, take, drop, get_or}
use lib.Seq.{take-take, ext_get_or}
use lib.Dec.{ltb}
use borrow.Author.Tests.{le-ltb}
use Rattle.words.specs.Order.{less}
use Rattle.words.proofs.Below.{word_length, word_at}
use Rattle.words.proofs.Shared.{less_behind}
use Rattle.agreeing.specs.Agrees.{Agrees}
use Rattle.comparing.proofs.Decided.{less_ends, less_differ}

module _ (s : List ℕ) (i m j y e : ℕ) (g : Agrees s i s j e) (p : i + m ≤ length s) (q : j + y ≤ length s) (a : e ≤ m) (b : e ≤ y) where
  abbrev this : List ℕ
  this = take m (drop i s)

  abbrev next : List ℕ
  next = take y (drop j s)

  long : length this ≡ m
  long = word_length s i m p

  wide : length next ≡ y
  wide = word_length s j y q

  front : take e this ≡ take e next
  front =
      let u = word_length s i e (omega arith) in
      let v = word_length s j e (omega arith) in
      take-take e m (drop i s) a
      ∙ ext_get_or 0 _ _ (omega arith) (λ k h.
      word_at s i e k (i + k) refl (omega arith) ∙ g.at k (omega arith) ∙ sym (word_at s j e k (j + k) refl (omega arith)))
      ∙ sym (take-take e y (drop j s) b)

  pub words_end : (m ≤ e) ⊎ (y ≤ e) → less this next ≡ ltb m y
  words_end d =
      less_behind this next e front
      ∙ less_ends this next e (omega (arith, long)) (omega (arith, wide)) (go d)
      ∙ ap (λ u. ltb u (length next)) long ∙ ap (ltb m) wide
    where
      go : (m ≤ e) ⊎ (y ≤ e) → min (length this) (length next) ≤ e
      go (inl h) = omega (arith, long)
      go (inr h) = omega (arith, wide)

  pub words_differ : e < m → e < y → (get_or s (i + e) 0 ≡ get_or s (j + e) 0 → ⊥) → less this next ≡ ltb (get_or s (i + e) 0) (get_or s (j + e) 0)
  words_differ h l d =
      let u = word_at s i m e (i + e) refl h in
      let v = word_at s j y e (j + e) refl l in
      less_behind this next e front
      ∙ less_differ this next e (omega (arith, long)) (omega (arith, wide)) (λ f. d (sym u ∙ f ∙ v))
      ∙ ap (λ t. ltb t (get_or next e 0)) u ∙ ap (ltb (get_or s (i + e) 0)) v

-- the shorter of two lengths is below the second exactly when the first is
pub shorter_test : (m y len : ℕ) → len ≤ m → len ≤ y → (m ≤ len) ⊎ (y ≤ len) → ltb len y ≡ ltb m y
shorter_test m y len a b (inl h) =
    let e : len ≡ m = omega arith in
    rw e
shorter_test m y len a b (inr h) = le-ltb len y h ∙ sym (le-ltb m y (omega arith))
