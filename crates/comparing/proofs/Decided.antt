-- What stands at place k decides the order of two strings that agree before it: an end of one, or different symbols.
use mathlib.Core.Bool.{Bool, cond, true, false}
use mathlib.Core.List.{List, []}
use mathlib.Core.Logic.{◌⊎◌, inl, inr}
use mathlib.Core.Path.{◌≡◌, refl, ap, sym, ◌∙◌}
use Prim.Native.Nat.{ℕ, ◌+◌, ◌≤◌, ◌<◌, min}
use native.Mathlib.Omega.{arith}
use lib.ListN.{length, take, drop, get_or, drop_of_length-le}
use lib.Seq.{drop-cons, take_all}
use lib.Dec.{ltb, eqb}
use borrow.Author.Tests.{lt-ltb, le-ltb, eq-eqb, ne_eqb}
use Rattle.words.specs.Order.{less, same, smaller, shared}
use Rattle.words.proofs.Bounded.{le_or_lt, le_cases}
use Rattle.words.proofs.Order.{ThreeN, smaller_n, equal_n, greater_n, three_n, true_same, false_same}
use Rattle.ranks.specs.Inner.{Ranks}
use Rattle.ranks.specs.Ranks.{rank, ranked}
use Rattle.ranks.proofs.Ranked.{length_ranked, get_or_ranked, ranked_take}
use Rattle.agreeing.specs.Agrees.{Agreed}
use Rattle.agreeing.proofs.Alike.{agrees_take}
use Rattle.words.proofs.Shared.{shared_is, less_behind}
use Rattle.std.specs.Cmp.{nat_cmp_is}
use Rattle.std.specs.Ordering.{nat_cmp}
use Rattle.std.specs.declared.cmp.Ordering.TheVariants.{Less, Equal, Greater}
use Rattle.comparing.specs.Compared.{compared, smaller_of, ordering_of, SharedTold}
use Rattle.comparing.specs.declared.Compared.{Compared}

-- how two numbers are ordered, as `smaller` numbers it
numbers_ordered : (m n : ℕ) → nat_cmp m n ≡ ordering_of (cond (ltb m n) 1 (cond (ltb n m) 2 0))
numbers_ordered m n = go (three_n m n)
  where
    go : ThreeN m n → nat_cmp m n ≡ ordering_of (cond (ltb m n) 1 (cond (ltb n m) 2 0))
    go (smaller_n h) = sym (nat_cmp_is m n Less h) ∙ rw (lt-ltb m n h)
    go (equal_n e) = sym (nat_cmp_is m n Equal e) ∙ rw (le-ltb m n (omega arith), le-ltb n m (omega arith))
    go (greater_n h) = sym (nat_cmp_is m n Greater h) ∙ rw (le-ltb m n (omega arith), lt-ltb n m h)

module _ (a b : List ℕ) (k : ℕ) where
  less_ends_second : k < length a → length b ≤ k → less (drop k a) (drop k b) ≡ false
  less_ends_second h l = rw (drop-cons a k 0 h, drop_of_length-le b l)

  less_ends_first : length a ≤ k → less (drop k a) (drop k b) ≡ ltb k (length b)
  less_ends_first l = rw (drop_of_length-le a l) (go (le_or_lt (length b) k))
    where
      go : (length b ≤ k) ⊎ (k < length b) → less [] (drop k b) ≡ ltb k (length b)
      go (inl h) = rw (drop_of_length-le b h, le-ltb k (length b) h)
      go (inr h) = rw (drop-cons b k 0 h, lt-ltb k (length b) h)

  pub less_ends : k ≤ length a → k ≤ length b → min (length a) (length b) ≤ k → less (drop k a) (drop k b) ≡ ltb (length a) (length b)
  less_ends h l e = go (le_or_lt (length a) k)
    where
      go : (length a ≤ k) ⊎ (k < length a) → less (drop k a) (drop k b) ≡ ltb (length a) (length b)
      go (inl d) =
          let q : k ≡ length a = omega arith in
          less_ends_first d ∙ ap (λ n. ltb n (length b)) q
      go (inr d) =
          less_ends_second d (omega arith) ∙ sym (le-ltb (length a) (length b) (omega arith))

  pub less_differ : k < length a → k < length b → (get_or a k 0 ≡ get_or b k 0 → ⊥) → less (drop k a) (drop k b) ≡ ltb (get_or a k 0) (get_or b k 0)
  less_differ h l q = go (le_or_lt (get_or b k 0) (get_or a k 0))
    where
      go : (get_or b k 0 ≤ get_or a k 0) ⊎ (get_or a k 0 < get_or b k 0) → less (drop k a) (drop k b) ≡ ltb (get_or a k 0) (get_or b k 0)
      go (inl d) =
          rw (drop-cons a k 0 h, drop-cons b k 0 l) (rw (le-ltb (get_or a k 0) (get_or b k 0) d, ne_eqb (get_or a k 0) (get_or b k 0) q))
      go (inr d) = rw (drop-cons a k 0 h, drop-cons b k 0 l) (rw (lt-ltb (get_or a k 0) (get_or b k 0) d))

-- the shared length
pub told_shared : {a b : List ℕ} {k : ℕ} → SharedTold a b k → k ≡ shared a b
told_shared {a} {b} {k} t = sym (shared_is a b k t.first t.second t.agree t.differ)

-- how far the bytes of both agree one by one
pub shared_told : {a b : List ℕ} {k m : ℕ} → Agreed a 0 b 0 m (min (length a) (length b)) k → SharedTold a b k
shared_told {a} {b} {k} {m} g =
    let zero_plus : 0 + k ≡ k = omega arith in
    record {
      first = omega (arith, g.most);
      second = omega (arith, g.most);
      agree = agrees_take g.agree (omega (arith, g.most)) (omega (arith, g.most));
      differ = λ p q. rw zero_plus at (g.differ (omega arith));
    }

-- the order of two strings is that of two numbers, their lengths or the ranks at k
module _ (o a b : List ℕ) (k : ℕ) (t : SharedTold a b k) where
  agree : take k (ranked o a) ≡ take k (ranked o b)
  agree = sym (ranked_take o k a) ∙ ap (ranked o) t.agree ∙ ranked_take o k b

  decided : (m n : ℕ) → less (drop k (ranked o a)) (drop k (ranked o b)) ≡ ltb m n → less (drop k (ranked o b)) (drop k (ranked o a)) ≡ ltb n m
      → ◌≡◌ {A = Compared} (record { shared = k; ordering = nat_cmp m n }) (compared o a b)
  unfolding smaller compared
  decided m n p q =
      let e = told_shared t in
      let f = less_behind (ranked o a) (ranked o b) k agree ∙ p in
      let g = less_behind (ranked o b) (ranked o a) k (sym agree) ∙ q in
      rw (numbers_ordered m n, f, g, ← e)

  pub compared_ends : min (length a) (length b) ≤ k → ◌≡◌ {A = Compared} (record { shared = k; ordering = nat_cmp (length a) (length b) }) (compared o a b)
  compared_ends e =
      let p = length_ranked o a in
      let q = length_ranked o b in
      rw (← p, ← q)
      (decided (length (ranked o a)) (length (ranked o b))
      (less_ends (ranked o a) (ranked o b) k (omega (arith, t.first, p)) (omega (arith, t.second, q)) (omega (arith, e, p, q)))
      (less_ends (ranked o b) (ranked o a) k (omega (arith, t.second, q)) (omega (arith, t.first, p)) (omega (arith, e, p, q))))

  pub compared_differ : Ranks o → (h : k < length a) → (l : k < length b) → (x y : ℕ) → x ≡ rank o (get_or a k 0) → y ≡ rank o (get_or b k 0)
      → get_or a k 0 < 256 → get_or b k 0 < 256 → ◌≡◌ {A = Compared} (record { shared = k; ordering = nat_cmp x y }) (compared o a b)
  compared_differ v h l x y p q m n =
      let e : x ≡ get_or (ranked o a) k 0 = p ∙ sym (get_or_ranked o a k h) in
      let f : y ≡ get_or (ranked o b) k 0 = q ∙ sym (get_or_ranked o b k l) in
      let d : get_or (ranked o a) k 0 ≡ get_or (ranked o b) k 0 → ⊥ =
      λ u. t.differ h l (v.apart (get_or a k 0) (get_or b k 0) m n (sym p ∙ e ∙ u ∙ sym f ∙ q)) in
      let i : k < length (ranked o a) = omega (arith, length_ranked o a) in
      let j : k < length (ranked o b) = omega (arith, length_ranked o b) in
      rw (e, f)
      (decided (get_or (ranked o a) k 0) (get_or (ranked o b) k 0) (less_differ (ranked o a) (ranked o b) k i j d)
      (less_differ (ranked o b) (ranked o a) k j i (λ u. d (sym u))))

-- the ordering's number is `smaller`
smaller_ordering : (x y : List ℕ) → smaller_of (ordering_of (smaller x y)) ≡ smaller x y
unfolding smaller
smaller_ordering x y = go (less x y) (less y x)
  where
    go : (t u : Bool) → smaller_of (ordering_of (cond t 1 (cond u 2 0))) ≡ cond t 1 (cond u 2 0)
    go true u = refl
    go false true = refl
    go false false = refl

-- two strings of one length are the same where they share all of it
pub same_lengths : (a b : List ℕ) → (length a ≡ length b → ⊥) → same a b ≡ false
same_lengths a b h = false_same a b (λ e. h (ap length e))

pub same_shared : {a b : List ℕ} {k : ℕ} → SharedTold a b k → length a ≡ length b → eqb k (length a) ≡ same a b
same_shared {a} {b} {k} t e = go (le_cases t.first)
  where
    go : (k ≡ length a) ⊎ (k < length a) → eqb k (length a) ≡ same a b
    go (inl q) =
        let r : a ≡ b = sym (take_all k a (omega arith)) ∙ t.agree ∙ take_all k b (omega arith) in
        eq-eqb k (length a) q ∙ sym (true_same a b r)
    go (inr l) =
        ne_eqb k (length a) (λ q. omega arith)
        ∙ sym (false_same a b (λ r. t.differ l (omega arith) (ap (λ u. get_or u k 0) r)))

pub compared_smaller : (o a b : List ℕ) {r : Compared} → r ≡ compared o a b → smaller_of r.ordering ≡ smaller (ranked o a) (ranked o b)
unfolding compared
compared_smaller o a b e = ap (λ c. smaller_of c.ordering) e ∙ smaller_ordering (ranked o a) (ranked o b)

pub compared_shared : (o a b : List ℕ) {r : Compared} → r ≡ compared o a b → r.shared ≡ shared a b
unfolding compared
compared_shared o a b e = ap (λ c. c.shared) e
