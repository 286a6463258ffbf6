-- The common beginning of two strings: its length is that of the longest prefix they share, and what stands behind it decides the order.
-- Of two words that follow each other in falling order and differ, the first shares less than its whole length.
use mathlib.Core.Bool.{Bool, true, false, cond}
use mathlib.Core.List.{List, [], ◌∷◌, ◌++◌}
use mathlib.Core.Logic.{◌⊎◌, inl, inr, ◌↔◌}
use mathlib.Core.Path.{◌≡◌, refl, sym, ap, ◌∙◌}
use Prim.Native.Nat.{ℕ, ◌≤◌, ◌<◌, min}
use native.Mathlib.Omega.{arith}
use lib.Dec.{eqb}
use lib.ListN.{length, take, drop, get_or, take-append-drop}
use lib.Seq.{get_or-take, take_all, take-take}
use borrow.Author.Tests.{le-ltb, eq-eqb, ne_eqb}
use Rattle.words.specs.Order.{Less, less, same, smaller, shared}
use Rattle.words.proofs.Bounded.{le_or_lt, largest_le, largest_max, largest_test}
use Rattle.words.proofs.Order.{less_le, le_refl, le_antisym, le_prefix, less_true, true_less, less_false, false_less, same_true, true_same, same_false}

module _ (a b : List ℕ) where
  shared_left : shared a b ≤ length a
  unfolding shared
  shared_left = omega (arith, largest_le (λ k. same (take k a) (take k b)) (min (length a) (length b)))

  pub shared_right : shared a b ≤ length b
  unfolding shared
  shared_right = omega (arith, largest_le (λ k. same (take k a) (take k b)) (min (length a) (length b)))

  shared_same : take (shared a b) a ≡ take (shared a b) b
  unfolding shared
  shared_same = same_true _ _ (largest_test (λ k. same (take k a) (take k b)) (min (length a) (length b)) refl)

  shared_most : (k : ℕ) → k ≤ length a → k ≤ length b → take k a ≡ take k b → k ≤ shared a b
  unfolding shared
  shared_most k h l e = largest_max (λ k. same (take k a) (take k b)) (min (length a) (length b)) k (omega arith) (true_same _ _ e)

  -- the first k symbols are a common beginning exactly when k is at most the shared length
  pub shared_longest : (k : ℕ) → ((k ≤ length a) × (k ≤ length b) × (take k a ≡ take k b)) ↔ (k ≤ shared a b)
  shared_longest k = ((λ h. shared_most k h.0 h.1 h.2), within)
    where
      within : k ≤ shared a b → (k ≤ length a) × (k ≤ length b) × (take k a ≡ take k b)
      within h =
          let p = take-take k (shared a b) a h in
          let q = take-take k (shared a b) b h in
          (omega (arith, shared_left), omega (arith, shared_right), sym p ∙ ap (take k) shared_same ∙ q)

  -- the strings agree up to k, and there one ends or they differ
  pub shared_is : (k : ℕ) → k ≤ length a → k ≤ length b → take k a ≡ take k b
      → (k < length a → k < length b → get_or a k 0 ≡ get_or b k 0 → ⊥) → shared a b ≡ k
  shared_is k h l e differ = go (le_or_lt (shared a b) k)
    where
      go : (shared a b ≤ k) ⊎ (k < shared a b) → shared a b ≡ k
      go (inl u) = omega (arith, shared_most k h l e)
      go (inr u) =
          let q = ap (λ w. get_or w k 0) shared_same in
          let m = get_or-take (shared a b) a k 0 u in
          let n = get_or-take (shared a b) b k 0 u in
          absurd (differ (omega (arith, shared_left)) (omega (arith, shared_right)) (sym m ∙ q ∙ n))

  -- a string that is greater shares less than its whole length with the smaller one
  pub shared_shorter : Less b a → shared a b < length a
  shared_shorter h = go (le_or_lt (length a) (shared a b))
    where
      go : (length a ≤ shared a b) ⊎ (shared a b < length a) → shared a b < length a
      go (inl u) =
          let p : take (shared a b) b ≡ a = sym shared_same ∙ take_all (shared a b) a u in
          let q : a ++ drop (shared a b) b ≡ b = ap (λ w. w ++ drop (shared a b) b) (sym p) ∙ take-append-drop (shared a b) b in
          absurd (rw q at (le_prefix a (drop (shared a b) b)) h)
      go (inr u) = u

-- a common front does not count
less_behind_front : (p x y : List ℕ) → less (p ++ x) (p ++ y) ≡ less x y
less_behind_front [] x y = refl
less_behind_front (c ∷ p) x y = rw (le-ltb c c (omega arith), eq-eqb c c refl) (less_behind_front p x y)

pub less_behind : (a b : List ℕ) (k : ℕ) → take k a ≡ take k b → less a b ≡ less (drop k a) (drop k b)
less_behind a b k e =
    let p : a ≡ take k a ++ drop k a = sym (take-append-drop k a) in
    let q : b ≡ take k a ++ drop k b = sym (take-append-drop k b) ∙ ap (λ w. w ++ drop k b) (sym e) in
    ap (λ w. less w b) p ∙ ap (less (take k a ++ drop k a)) q ∙ less_behind_front (take k a) (drop k a) (drop k b)

pub smaller_behind : (a b : List ℕ) (k : ℕ) → take k a ≡ take k b → smaller a b ≡ smaller (drop k a) (drop k b)
unfolding smaller
smaller_behind a b k e = rw (less_behind a b k e, less_behind b a k (sym e))

-- the three answers, and the two tests that are read off them
module _ (a b : List ℕ) where
  smaller_cases : (u v : Bool) → less a b ≡ u → less b a ≡ v → smaller a b ≡ cond u 1 (cond v 2 0)
  unfolding smaller
  smaller_cases u v p q = rw (p, q)

  pub smaller_first : Less a b ↔ (smaller a b ≡ 1)
  smaller_first = ((λ h. smaller_cases true (less b a) (true_less a b h) refl), λ e. go (less a b) (less b a) refl refl e)
    where
      go : (u v : Bool) → less a b ≡ u → less b a ≡ v → smaller a b ≡ 1 → Less a b
      go true v p q e = less_true a b p
      go false true p q e = absurd (omega (arith, smaller_cases false true p q))
      go false false p q e = absurd (omega (arith, smaller_cases false false p q))

  pub smaller_second : Less b a ↔ (smaller a b ≡ 2)
  smaller_second = ((λ h. smaller_cases false true (false_less a b (less_le b a h)) (true_less b a h)), λ e. go (less a b) (less b a) refl refl e)
    where
      go : (u v : Bool) → less a b ≡ u → less b a ≡ v → smaller a b ≡ 2 → Less b a
      go u true p q e = less_true b a q
      go true false p q e = absurd (omega (arith, smaller_cases true false p q))
      go false false p q e = absurd (omega (arith, smaller_cases false false p q))

  pub smaller_neither : (a ≡ b) ↔ (smaller a b ≡ 0)
  smaller_neither = ((λ h. same_none h), λ e. go (less a b) (less b a) refl refl e)
    where
      same_none : a ≡ b → smaller a b ≡ 0
      same_none h = smaller_cases false false (rw (← h) (false_less a a (le_refl a))) (rw (← h) (false_less a a (le_refl a)))

      go : (u v : Bool) → less a b ≡ u → less b a ≡ v → smaller a b ≡ 0 → a ≡ b
      go true v p q e = absurd (omega (arith, smaller_cases true v p q))
      go false true p q e = absurd (omega (arith, smaller_cases false true p q))
      go false false p q e = le_antisym a b (less_false b a q) (less_false a b p)

  pub first_test : eqb (smaller a b) 1 ≡ less a b
  first_test = go (less a b) refl
    where
      go : (u : Bool) → less a b ≡ u → eqb (smaller a b) 1 ≡ u
      go true p = eq-eqb (smaller a b) 1 (smaller_first.0 (less_true a b p))
      go false p = ne_eqb (smaller a b) 1 (λ e. less_false a b p (smaller_first.1 e))

  pub neither_test : eqb (smaller a b) 0 ≡ same a b
  neither_test = go (same a b) refl
    where
      go : (u : Bool) → same a b ≡ u → eqb (smaller a b) 0 ≡ u
      go true p = eq-eqb (smaller a b) 0 (smaller_neither.0 (same_true a b p))
      go false p = ne_eqb (smaller a b) 0 (λ e. same_false a b p (smaller_neither.1 e))
