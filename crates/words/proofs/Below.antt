-- L1 by places: a substring is a Lyndon word exactly when each of its proper suffixes differs from it, first at a greater symbol.
-- A difference is given by the two places in the pattern that show it, so that what follows is arithmetic of places.
use mathlib.Core.List.{List, [], ◌∷◌}
use mathlib.Core.Logic.{inl, inr}
use mathlib.Core.Path.{◌≡◌, refl, sym, ap, ◌∙◌}
use Prim.Native.Nat.{ℕ, zero, suc, ◌+◌, ◌-◌, ◌≤◌, ◌<◌}
use native.Mathlib.Omega.{arith}
use lib.ListN.{length, take, drop, get_or, length-take, length-drop}
use lib.Seq.{get_or-take, get_or-drop, take-add, drop_at, length-take-le}
use Rattle.words.specs.Order.{Less, Lyndon}
use Rattle.words.proofs.Order.{Differ, less_differ, differ_less}

-- the first difference of two strings
pub record First (x y : List ℕ) : Type 0 where
  pub place : ℕ
  pub in_left : place < length x
  pub in_right : place < length y
  pub less : get_or x place 0 < get_or y place 0
  pub before : (t : ℕ) → t < place → get_or x t 0 ≡ get_or y t 0

pub differ_first : (x y : List ℕ) → Differ x y → First x y
differ_first [] y h = absurd h
differ_first (x ∷ xs) [] h = absurd h
differ_first (x ∷ xs) (y ∷ ys) (inl h) =
    record { place = 0; in_left = omega arith; in_right = omega arith; less = h; before = λ t l. absurd (omega arith) }
differ_first (x ∷ xs) (y ∷ ys) (inr h) = go (differ_first xs ys h.1)
  where
    go : First xs ys → First (x ∷ xs) (y ∷ ys)
    go d = record { place = suc d.place; in_left = omega arith; in_right = omega arith; less = d.less; before = early }
      where
        early : (t : ℕ) → t < suc d.place → get_or (x ∷ xs) t 0 ≡ get_or (y ∷ ys) t 0
        early zero l = h.0
        early (suc t) l = d.before t (omega arith)

pub first_differ : (x y : List ℕ) (m : ℕ) → m < length x → m < length y → get_or x m 0 < get_or y m 0
    → ((t : ℕ) → t < m → get_or x t 0 ≡ get_or y t 0) → Differ x y
first_differ [] y m a b l e = absurd (omega arith)
first_differ (x ∷ xs) [] m a b l e = absurd (omega arith)
first_differ (x ∷ xs) (y ∷ ys) zero a b l e = inl l
first_differ (x ∷ xs) (y ∷ ys) (suc m) a b l e =
    inr (e 0 (omega arith), first_differ xs ys m (omega arith) (omega arith) l (λ t k. e (suc t) (omega arith)))

-- s[i..n) is smaller than s[c..n) by a difference, at the places `left` and `right`
pub record Below (s : List ℕ) (i c n : ℕ) : Type 0 where
  pub left : ℕ
  pub right : ℕ
  pub apart : left + c ≡ right + i
  pub after : c ≤ right
  pub inside : right < n
  pub less : get_or s left 0 < get_or s right 0
  pub before : (a b : ℕ) → a + c ≡ b + i → i ≤ a → a < left → get_or s a 0 ≡ get_or s b 0

-- the same before a later end
pub below_wider : {s : List ℕ} {i c n m : ℕ} → Below s i c n → n ≤ m → Below s i c m
below_wider d l =
    record {
      left = d.left;
      right = d.right;
      apart = d.apart;
      after = d.after;
      inside = omega (arith, d.inside);
      less = d.less;
      before = d.before;
    }

-- there is none where s shows again what it showed d places earlier, and c is d places after i
pub below_period : {s : List ℕ} {i c n : ℕ} (d : ℕ) → i + d ≡ c → ((k : ℕ) → i ≤ k → k + d < n → get_or s (k + d) 0 ≡ get_or s k 0) → Below s i c n → ⊥
below_period {s} d e same b =
    let f : b.left + d ≡ b.right = omega arith in
    omega (arith, b.less, same b.left (omega arith) (omega arith), ap (λ u. get_or s u 0) f)

pub word_length : (s : List ℕ) (i p : ℕ) → i + p ≤ length s → length (take p (drop i s)) ≡ p
word_length s i p fits = omega (arith, length-take p (drop i s), length-drop i s)

pub drop_take : (s : List ℕ) (i n j : ℕ) → i + n ≡ j → i ≤ length s → drop i (take j s) ≡ take n (drop i s)
drop_take s i n j e h =
    ap (λ u. drop i (take u s)) (sym e) ∙ ap (drop i) (take-add i n s) ∙ drop_at (take i s) (take n (drop i s)) i (length-take-le i s h)

pub word_at : (s : List ℕ) (i p t a : ℕ) → i + t ≡ a → t < p → get_or (take p (drop i s)) t 0 ≡ get_or s a 0
word_at s i p t a e l = get_or-take p (drop i s) t 0 l ∙ get_or-drop i s t 0 ∙ ap (λ u. get_or s u 0) e

module _ (s : List ℕ) (i p : ℕ) (fits : i + p ≤ length s) where
  rest_at : (k t b : ℕ) → i + k + t ≡ b → k + t < p → get_or (drop k (take p (drop i s))) t 0 ≡ get_or s b 0
  rest_at k t b e l = get_or-drop k (take p (drop i s)) t 0 ∙ word_at s i p (k + t) b (omega arith) l

  -- the first difference of the word and its suffix from k on, by the two places
  differ_below : (k c m : ℕ) → i + k ≡ c → k + m < p → get_or (take p (drop i s)) m 0 < get_or (drop k (take p (drop i s))) m 0
      → ((t : ℕ) → t < m → get_or (take p (drop i s)) t 0 ≡ get_or (drop k (take p (drop i s))) t 0) → Below s i c (i + p)
  differ_below k c m f l less before =
      record {
        left = i + m;
        right = c + m;
        apart = omega arith;
        after = omega arith;
        inside = omega arith;
        less = omega (arith, word_at s i p m (i + m) refl (omega arith), rest_at k m (c + m) (omega arith) l);
        before = λ u v g a o.
            sym (word_at s i p (u - i) u (omega arith) (omega arith)) ∙ before (u - i) (omega arith)
            ∙ rest_at k (u - i) v (omega arith) (omega arith);
      }

  pub lyndon_below : Lyndon (take p (drop i s)) → (c : ℕ) → i < c → c < i + p → Below s i c (i + p)
  lyndon_below h c l r = go (c - i) (omega arith) (omega arith) (omega arith)
    where
      go : (k : ℕ) → i + k ≡ c → 0 < k → k < p → Below s i c (i + p)
      go k f some short =
          let x : List ℕ = take p (drop i s) in
          let n = word_length s i p fits in
          let z = length-drop k x in
          let d = differ_first x (drop k x) (less_differ x (drop k x) (omega (arith, n, z)) (h.least k some (omega (arith, n)))) in
          differ_below k c d.place f (omega (arith, n, z, d.in_right)) d.less d.before

  pub below_lyndon : 0 < p → ((c : ℕ) → i < c → c < i + p → Below s i c (i + p)) → Lyndon (take p (drop i s))
  below_lyndon some h =
      record {
        some = omega (arith, word_length s i p fits);
        least = λ k n l. go k n (h (i + k) (omega arith) (omega (arith, word_length s i p fits)));
      }
    where
      go : (k : ℕ) → 0 < k → Below s i (i + k) (i + p) → Less (take p (drop i s)) (drop k (take p (drop i s)))
      go k n d =
          let x : List ℕ = take p (drop i s) in
          let m : ℕ = d.left - i in
          let w = word_length s i p fits in
          let a = word_at s i p m d.left (omega arith) (omega arith) in
          let b = rest_at k m d.right (omega arith) (omega arith) in
          let early : (t : ℕ) → t < m → get_or x t 0 ≡ get_or (drop k x) t 0 = λ t l.
          word_at s i p t (i + t) refl (omega arith) ∙ d.before (i + t) (i + k + t) (omega arith) (omega arith) (omega arith)
          ∙ sym (rest_at k t (i + k + t) refl (omega arith)) in
          differ_less x (drop k x) (first_differ x (drop k x) m (omega arith) (omega (arith, length-drop k x)) (omega (arith, d.less, a, b)) early)
