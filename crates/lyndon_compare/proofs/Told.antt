-- The cases of the answer, by the first refusal that holds; and in the request's words, over every answer that is the contract's: 13 alone exactly
-- where the ranks are no order, 1 alone exactly where they are one and either string is too long, otherwise the shared length, which is of the
-- bytes, and which is smaller under the order.
use mathlib.Core.Bool.{Bool, true, false, cond}
use mathlib.Core.List.{List, [], ◌∷◌}
use mathlib.Core.Logic.{◌⊎◌, inl, inr, ◌↔◌}
use mathlib.Core.Path.{◌≡◌, refl, sym, ap, ◌∙◌}
use Prim.Native.Nat.{ℕ, ◌≤◌, ◌<◌}
use native.Mathlib.Omega.{arith}
use lib.ListN.{length}
use Rattle.ranks.specs.Ranks.{Bytes, is_order, ranked, LessBy}
use Rattle.ranks.proofs.Marks.{order_true}
use Rattle.ranks.proofs.Ranked.{order_ranks}
use Rattle.ranks.proofs.Smaller.{smaller_by}
use Rattle.refusals.specs.Refusals.{unless_refused, max_pattern, not_order, pattern_too_long}
use Rattle.refusals.proofs.First.{First, first_is, none, holds, passes, too_long, not_long}
use Rattle.words.specs.Order.{Less, less, smaller, shared}
use Rattle.words.proofs.Bounded.{le_or_lt}
use Rattle.words.proofs.Order.{less_le, less_true, true_less, false_less}
use Rattle.comparing.specs.Compared.{compared, smaller_of}
use Rattle.comparing.specs.declared.Compared.{Compared}
use Rattle.comparing.proofs.Decided.{compared_shared, compared_smaller}
use Rattle.lyndon_compare.specs.Calls.{Comparison, Done, Refused, comparison}

-- ranks that rank both strings as the order does compare them as it does
pub compared_same : (o order a b : List ℕ) → ranked o a ≡ ranked order a → ranked o b ≡ ranked order b → compared o a b ≡ compared order a b
unfolding compared
compared_same o order a b p q = rw (p, q)

-- what `smaller` tells of two strings
module _ (x y : List ℕ) where
  tells_first : (smaller x y ≡ 1) ↔ Less x y
  unfolding smaller
  tells_first = ((λ h. less_true x y (go (less x y) (less y x) h)), λ h. rw (true_less x y h))
    where
      go : (t u : Bool) → ◌≡◌ {A = ℕ} (cond t 1 (cond u 2 0)) 1 → t ≡ true
      go true u h = refl
      go false true h = absurd (omega arith)
      go false false h = absurd (omega arith)

  tells_second : (smaller x y ≡ 2) ↔ Less y x
  unfolding smaller
  tells_second = ((λ h. less_true y x (go (less x y) (less y x) h)), λ h. rw (false_less x y (less_le y x h), true_less y x h))
    where
      go : (t u : Bool) → ◌≡◌ {A = ℕ} (cond t 1 (cond u 2 0)) 2 → u ≡ true
      go true u h = absurd (omega arith)
      go false true h = refl
      go false false h = absurd (omega arith)

abbrev number : Comparison → ℕ
number (Done c) = 0
number (Refused k) = k

module _ (a b order : List ℕ) where
  answered : {k : ℕ} → First (not_order order ∷ pattern_too_long a ∷ pattern_too_long b ∷ []) k → (c : Compared) → c ≡ compared order a b
      → unless_refused k (Done c) (Refused k) ≡ comparison a b order
  answered {k} f c e =
      ap (λ d. unless_refused k (Done d) (Refused k)) e ∙ ap (λ n. unless_refused n (Done (compared order a b)) (Refused n)) (sym (first_is f))

  pub no_order : is_order order ≡ false → Refused 13 ≡ comparison a b order
  no_order o = answered (holds {r = not_order order} (rw o)) (compared order a b) refl

  pub first_long : is_order order ≡ true → max_pattern < length a → Refused 1 ≡ comparison a b order
  first_long o h = answered (passes {r = not_order order} (rw o) (too_long a h)) (compared order a b) refl

  pub second_long : is_order order ≡ true → length a ≤ max_pattern → max_pattern < length b → Refused 1 ≡ comparison a b order
  second_long o h l = answered (passes {r = not_order order} (rw o) (not_long a h (too_long b l))) (compared order a b) refl

  pub both_fit : is_order order ≡ true → length a ≤ max_pattern → length b ≤ max_pattern → (c : Compared) → c ≡ compared order a b → Done c ≡ comparison a b order
  both_fit o h l c e = answered (passes {r = not_order order} (rw o) (not_long a h (not_long b l none))) c e

  -- which case it is
  data Case : Type 0 where
    unordered : is_order order ≡ false → Refused 13 ≡ comparison a b order → Case
    long : is_order order ≡ true → (max_pattern < length a) ⊎ (max_pattern < length b) → Refused 1 ≡ comparison a b order → Case
    fit : is_order order ≡ true → length a ≤ max_pattern → length b ≤ max_pattern → Done (compared order a b) ≡ comparison a b order → Case

  the_case : Case
  the_case = go (is_order order) refl (le_or_lt (length a) max_pattern) (le_or_lt (length b) max_pattern)
    where
      go : (t : Bool) → is_order order ≡ t → (length a ≤ max_pattern) ⊎ (max_pattern < length a) → (length b ≤ max_pattern) ⊎ (max_pattern < length b) → Case
      go false o h l = unordered o (no_order o)
      go true o (inr h) l = long o (inl h) (first_long o h)
      go true o (inl h) (inr l) = long o (inr l) (second_long o h l)
      go true o (inl h) (inl l) = fit o h l (both_fit o h l (compared order a b) refl)

  -- 13 alone exactly where the ranks are no order
  pub thirteen_exactly : (r : Comparison) → r ≡ comparison a b order → (r ≡ Refused 13) ↔ (is_order order ≡ false)
  thirteen_exactly r e = ((λ q. go the_case (sym q ∙ e)), λ o. e ∙ sym (no_order o))
    where
      go : Case → Refused 13 ≡ comparison a b order → is_order order ≡ false
      go (unordered o p) q = o
      go (long o h p) q = absurd (omega (arith, ap number (q ∙ sym p)))
      go (fit o h l p) q = absurd (omega (arith, ap number (q ∙ sym p)))

  -- 1 alone exactly where they are one and either string is too long
  pub one_exactly : (r : Comparison) → r ≡ comparison a b order
      → (r ≡ Refused 1) ↔ ((is_order order ≡ true) × ((max_pattern < length a) ⊎ (max_pattern < length b)))
  one_exactly r e = ((λ q. go the_case (sym q ∙ e)), λ h. e ∙ sym (refuses h.0 (le_or_lt (length a) max_pattern) h.1))
    where
      go : Case → Refused 1 ≡ comparison a b order → (is_order order ≡ true) × ((max_pattern < length a) ⊎ (max_pattern < length b))
      go (unordered o p) q = absurd (omega (arith, ap number (q ∙ sym p)))
      go (long o h p) q = (o, h)
      go (fit o h l p) q = absurd (omega (arith, ap number (q ∙ sym p)))

      refuses : is_order order ≡ true → (length a ≤ max_pattern) ⊎ (max_pattern < length a) → (max_pattern < length a) ⊎ (max_pattern < length b)
          → Refused 1 ≡ comparison a b order
      refuses o (inr h) l = first_long o h
      refuses o (inl h) (inl l) = first_long o l
      refuses o (inl h) (inr l) = second_long o h l

  -- otherwise the two numbers
  module _ (c : Compared) (e : Done c ≡ comparison a b order) where
    accepted : (is_order order ≡ true) × (c ≡ compared order a b)
    accepted = go the_case
      where
        contents : Comparison → Compared
        contents (Done d) = d
        contents (Refused k) = c

        go : Case → (is_order order ≡ true) × (c ≡ compared order a b)
        go (unordered o p) = absurd (omega (arith, ap number (e ∙ sym p)))
        go (long o h p) = absurd (omega (arith, ap number (e ∙ sym p)))
        go (fit o h l p) = (o, ap contents (e ∙ sym p))

    pub numbers : (c.shared ≡ shared a b) × (smaller_of c.ordering ≡ smaller (ranked order a) (ranked order b))
    numbers = (compared_shared order a b accepted.1, compared_smaller order a b accepted.1)

    -- 1 is told exactly where the first is smaller under the order, 2 where the second is
    module _ (p : Bytes a) (q : Bytes b) where
      pub first_smaller : (smaller_of c.ordering ≡ 1) ↔ LessBy order a b
      first_smaller =
          let by = smaller_by (order_ranks (order_true order accepted.0)) a b p q in
          let is = tells_first (ranked order a) (ranked order b) in
          ((λ h. by.1 (is.0 (sym numbers.1 ∙ h))), λ h. numbers.1 ∙ is.1 (by.0 h))

      pub second_smaller : (smaller_of c.ordering ≡ 2) ↔ LessBy order b a
      second_smaller =
          let by = smaller_by (order_ranks (order_true order accepted.0)) b a q p in
          let is = tells_second (ranked order a) (ranked order b) in
          ((λ h. by.1 (is.0 (sym numbers.1 ∙ h))), λ h. numbers.1 ∙ is.1 (by.0 h))
