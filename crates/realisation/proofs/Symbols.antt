-- The symbols given to a table that nests: each is less than those behind it in its stretch and greater than the one at its end, so the table is
-- their reach table; and each is less than the number of places.
use mathlib.Core.Bool.{Bool, true, false, cond, true≢false}
use mathlib.Core.List.{List}
use mathlib.Core.Logic.{◌⊎◌, inl, inr}
use mathlib.Core.Path.{◌≡◌, refl, sym, ap, ◌∙◌}
use Prim.Native.Nat.{ℕ, zero, suc, ◌+◌, ◌≤◌, ◌<◌}
use native.Mathlib.Omega.{arith}
use lib.Dec.{ltb, leb, eqb}
use lib.ListN.{length, take, drop, get_or}
use lib.Seq.{drop-cons, ext_get_or}
use borrow.Author.Tests.{ltb-true, lt-ltb, le-ltb, leb-true, le-leb, lt-leb, eqb-true, eq-eqb}
use Rattle.words.proofs.Below.{below_lyndon}
use Rattle.words.proofs.Bounded.{le_cases, length_table, get_or_table}
use Rattle.words.proofs.Order.{less_irrefl, less_trans}
use Rattle.words.proofs.Tables.{longest_at_some, longest_at_stop, longest_at_stop_end, lyndon_array_entry, lyndon_array_length}
use Rattle.words.specs.Order.{Less, Lyndon}
use Rattle.words.specs.Tables.{longest_at, lyndon_array}
use Rattle.realisation.specs.Nested.{Nests, end_of}
use Rattle.realisation.specs.Symbols.{count, children_before, symbol_to, symbol_at, symbols}
use Rattle.realisation.proofs.Count.{count_le, count_more, count_both}

pub symbols_length : (t : List ℕ) → length (symbols t) ≡ length t
unfolding symbols
symbols_length t = length_table (symbol_at t) (length t)

pub symbols_entry : (t : List ℕ) (i : ℕ) → i < length t → get_or (symbols t) i 0 ≡ symbol_at t i
unfolding symbols
symbols_entry t i h = get_or_table (symbol_at t) (length t) i 0 h

module _ {t : List ℕ} (nests : Nests t) where
  -- any depth from the distance to the end on gives the same symbol
  deep : (d e i : ℕ) → i < length t → length t ≤ i + d → length t ≤ i + e → symbol_to d t i ≡ symbol_to e t i
  deep zero e i h p q = absurd (omega arith)
  deep (suc d) zero i h p q = absurd (omega arith)
  deep (suc d) (suc e) i h p q =
      let l = nests.some i h in
      go (ltb (end_of t i) (length t)) refl (λ k. deep d e (end_of t i) k (omega arith) (omega arith))
    where
      go : (b : Bool) → ltb (end_of t i) (length t) ≡ b → (end_of t i < length t → symbol_to d t (end_of t i) ≡ symbol_to e t (end_of t i))
          → children_before t (end_of t i) i + cond b (suc (symbol_to d t (end_of t i))) 0 ≡ children_before t (end_of t i) i + cond b (suc (symbol_to e t (end_of t i))) 0
      go true x ih = ap (λ k. children_before t (end_of t i) i + suc k) (ih (ltb-true _ _ x))
      go false x ih = refl

  -- the rule without the depth: where the parent is the root, and where it is a place
  pub symbol_last : (i : ℕ) → i < length t → end_of t i ≡ length t → symbol_at t i ≡ children_before t (end_of t i) i
  unfolding symbol_at
  symbol_last i h e = go (length t) refl
    where
      go : (n : ℕ) → length t ≡ n → symbol_to n t i ≡ children_before t (end_of t i) i
      go zero q = absurd (omega arith)
      go (suc n) q = rw (le-ltb (end_of t i) (length t) (omega arith)) (omega arith)

  pub symbol_below : (i : ℕ) → i < length t → end_of t i < length t → symbol_at t i ≡ children_before t (end_of t i) i + suc (symbol_at t (end_of t i))
  unfolding symbol_at
  symbol_below i h l = go (length t) refl
    where
      go : (n : ℕ) → length t ≡ n → symbol_to n t i ≡ children_before t (end_of t i) i + suc (symbol_to (length t) t (end_of t i))
      go zero q = absurd (omega arith)
      go (suc n) q =
          let s = nests.some i h in
          rw (lt-ltb (end_of t i) (length t) l) (ap (λ k. children_before t (end_of t i) i + suc k) (deep n (length t) (end_of t i) l (omega arith) (omega arith)))

  -- of two siblings the later one has the greater symbol
  sibling : (i k : ℕ) → i < k → k < length t → end_of t k ≡ end_of t i → symbol_at t i < symbol_at t k
  sibling i k l h e = go (le_cases (nests.within i (omega arith)))
    where
      more : children_before t (end_of t i) i < children_before t (end_of t k) k
      more = rw e (count_more (λ j. eqb (end_of t j) (end_of t i)) i k l (eq-eqb (end_of t i) (end_of t i) refl))

      go : (end_of t i ≡ length t) ⊎ (end_of t i < length t) → symbol_at t i < symbol_at t k
      go (inl q) = omega (arith, more, symbol_last i (omega arith) q, symbol_last k h (e ∙ q))
      go (inr q) =
          omega (arith, more, symbol_below i (omega arith) q, symbol_below k h (omega arith), ap (symbol_at t) e)

  -- a symbol is less than those behind it in its stretch
  symbol_rises : (d i k : ℕ) → length t ≤ k + d → i < k → k < length t → k < end_of t i → symbol_at t i < symbol_at t k
  symbol_rises zero i k p l h r = absurd (omega arith)
  symbol_rises (suc d) i k p l h r =
      let on = nests.some k h in
      go (le_cases (nests.inside i k (omega arith) l r)) (λ q s. symbol_rises d i (end_of t k) (omega arith) (omega arith) q s)
    where
      go : (end_of t k ≡ end_of t i) ⊎ (end_of t k < end_of t i)
          → (end_of t k < length t → end_of t k < end_of t i → symbol_at t i < symbol_at t (end_of t k)) → symbol_at t i < symbol_at t k
      go (inl e) ih = sibling i k l h e
      go (inr q) ih =
          let f : end_of t k < length t = omega (arith, nests.within i (omega arith)) in
          omega (arith, ih f q, symbol_below k h f)

  -- the places whose parent is that of i or behind it are more than its symbol
  symbol_few : (d i : ℕ) → length t ≤ i + d → i < length t → symbol_at t i < count (λ j. leb (end_of t i) (end_of t j)) (length t)
  symbol_few zero i p h = absurd (omega arith)
  symbol_few (suc d) i p h = go (le_cases (nests.within i h)) (λ l. symbol_few d (end_of t i) (omega (arith, nests.some i h)) l)
    where
      m : ℕ
      m = end_of t i

      here : children_before t m i < count (λ j. eqb (end_of t j) m) (length t)
      here = count_more (λ j. eqb (end_of t j) m) i (length t) h (eq-eqb m m refl)

      go : (m ≡ length t) ⊎ (m < length t) → (m < length t → symbol_at t m < count (λ j. leb (end_of t m) (end_of t j)) (length t))
          → symbol_at t i < count (λ j. leb m (end_of t j)) (length t)
      go (inl e) ih =
          omega (
            arith,
            here,
            symbol_last i h e,
            count_both (λ j. eqb (end_of t j) m) (λ j. false) (λ j. leb m (end_of t j)) (λ k x. refl)
                (λ k x. le-leb m (end_of t k) (omega (arith, eqb-true (end_of t k) m x))) (λ k x. absurd (true≢false (sym x))) (length t),
          )
      go (inr l) ih =
          omega (
            arith,
            here,
            ih l,
            symbol_below i h l,
            count_both (λ j. eqb (end_of t j) m) (λ j. leb (end_of t m) (end_of t j)) (λ j. leb m (end_of t j))
                (λ k x. lt-leb (end_of t m) (end_of t k) (omega (arith, eqb-true (end_of t k) m x, nests.some m l)))
                (λ k x. le-leb m (end_of t k) (omega (arith, eqb-true (end_of t k) m x)))
                (λ k x. le-leb m (end_of t k) (omega (arith, leb-true (end_of t m) (end_of t k) x, nests.some m l))) (length t),
          )

  pub symbol_bound : (i : ℕ) → i < length t → symbol_at t i < length t
  symbol_bound i h = omega (arith, symbol_few (length t) i (omega arith) h, count_le (λ j. leb (end_of t i) (end_of t j)) (length t))

-- the reach table by the symbols: a word whose first symbol is its least, and no longer one where a smaller symbol follows
module _ (s : List ℕ) where
  begins_less : (i j l m : ℕ) → 0 < l → 0 < m → i < length s → j < length s → get_or s i 0 < get_or s j 0 → Less (take l (drop i s)) (take m (drop j s))
  begins_less i j zero m a b h k r = absurd (omega arith)
  begins_less i j (suc l) zero a b h k r = absurd (omega arith)
  begins_less i j (suc l) (suc m) a b h k r = rw (drop-cons s i 0 h, drop-cons s j 0 k) (inl r)

  module _ (i l : ℕ) (some : 0 < l) (fits : i + l ≤ length s) (least : (k : ℕ) → i < k → k < i + l → get_or s i 0 < get_or s k 0) where
    least_first : Lyndon (take l (drop i s))
    least_first =
        below_lyndon s i l fits some
        (λ c a b. record { left = i; right = c; apart = omega arith; after = omega arith; inside = b; less = least c a b; before = λ x y p q r. absurd (omega arith) })

    longest_at_least : (i + l < length s → get_or s (i + l) 0 < get_or s i 0) → longest_at s i ≡ l
    longest_at_least falls = go (le_cases fits)
      where
        go : (i + l ≡ length s) ⊎ (i + l < length s) → longest_at s i ≡ l
        go (inl e) = longest_at_stop_end s i l least_first e
        go (inr h) =
            let next = longest_at s (i + l) in
            let less = begins_less (i + l) i next l (longest_at_some s (i + l) h) some h (omega arith) (falls h) in
            longest_at_stop s i l least_first h
            (λ up. less_irrefl (take l (drop i s)) (less_trans (take l (drop i s)) (take next (drop (i + l) s)) (take l (drop i s)) up less))

pub symbols_array : {t : List ℕ} → Nests t → lyndon_array (symbols t) ≡ t
symbols_array {t} nests =
    ext_get_or 0 (lyndon_array s) t (lyndon_array_length s ∙ symbols_length t)
    (λ i h. entry i (omega (arith, lyndon_array_length s, symbols_length t)))
  where
    s : List ℕ
    s = symbols t

    at : (i : ℕ) → i < length t → get_or s i 0 ≡ symbol_at t i
    at i h = symbols_entry t i h

    entry : (i : ℕ) → i < length t → get_or (lyndon_array s) i 0 ≡ get_or t i 0
    entry i h =
        let n = symbols_length t in
        let end = nests.within i h in
        lyndon_array_entry s i (omega arith)
        ∙ longest_at_least s i (get_or t i 0) (omega (arith, nests.some i h)) (omega arith)
        (λ k a b. omega (arith, at i h, at k (omega arith), symbol_rises nests (length t) i k (omega arith) a (omega arith) b))
        (λ l. omega (arith, at i h, at (end_of t i) (omega arith), symbol_below nests i h (omega arith)))
