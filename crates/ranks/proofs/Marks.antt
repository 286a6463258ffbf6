-- The test of an order by marks: entry r of the marks tells whether r stands among the first k ranks, where none stands twice.
use mathlib.Core.Bool.{Bool, true, false}
use mathlib.Core.List.{List, [], ◌∷◌}
use mathlib.Core.Logic.{◌⊎◌, inl, inr, ◌↔◌}
use mathlib.Core.Path.{◌≡◌, refl, sym, ap, ◌∙◌}
use Prim.Native.Nat.{ℕ, zero, suc, ◌+◌, ◌≤◌, ◌<◌}
use native.Mathlib.Numerals.{add-one}
use native.Mathlib.Omega.{arith}
use lib.Dec.{eqb}
use lib.ListN.{length, take, get_or, set, replicate, length-set, length-replicate, get_or-replicate}
use lib.Seq.{take-suc, take_all}
use borrow.Author.Tests.{eqb-true, eq-eqb}
use Rattle.words.specs.Bounded.{every}
use Rattle.words.proofs.Bounded.{le_cases, and_true, true_false, every_true, true_every, length_table}
use Rattle.rows.proofs.Fill.{set_entry}
use Rattle.ranks.specs.Ranks.{Order, is_order, byte_order, times}
use Rattle.ranks.specs.Inner.{Handed}
use Rattle.ranks.proofs.Ranked.{ranked_none, byte_ranked, order_ranks, no_ranks}
use Rattle.ranks.proofs.Times.{Counts, here, other, counts, times_append, times_once, times_front, total_all, all_ones}

-- the test agrees with the proposition
pub order_true : (o : List ℕ) → is_order o ≡ true → Order o
unfolding is_order
order_true o e =
    let p = and_true (eqb (length o) 256) (every (λ r. eqb (times r o) 1) 256) e in
    record {
      size = eqb-true (length o) 256 p.0;
      once = λ r h. eqb-true (times r o) 1 (every_true (λ r. eqb (times r o) 1) 256 p.1 r h);
    }

pub true_order : (o : List ℕ) → Order o → is_order o ≡ true
unfolding is_order
true_order o v =
    rw (eq-eqb (length o) 256 v.size) (true_every (λ r. eqb (times r o) 1) 256 (λ r h. eq-eqb (times r o) 1 (v.once r h)))

pub false_order : (o : List ℕ) → (Order o → ⊥) → is_order o ≡ false
false_order o h = go (is_order o) refl
  where
    go : (b : Bool) → is_order o ≡ b → is_order o ≡ false
    go true e = absurd (h (order_true o e))
    go false e = e

pub order_told : (o : List ℕ) → (is_order o ≡ true) ↔ Order o
order_told o = (order_true o, true_order o)

-- the loop
pub record Marked (o marks : List ℕ) (k : ℕ) : Type 0 where
  pub upto : k ≤ length o
  pub size : length marks ≡ 256
  pub mark : (r : ℕ) → r < 256 → get_or marks r 0 ≡ times r (take k o)
  pub most : (r : ℕ) → r < 256 → times r (take k o) ≤ 1
  pub below : (i : ℕ) → i < k → get_or o i 0 < 256

pub marked_none : (o : List ℕ) → Marked o (replicate 256 0) 0
marked_none o =
    record {
      upto = omega arith;
      size = length-replicate {A = ℕ} 256 0;
      mark = λ r h. get_or-replicate {A = ℕ} 256 r 0 0 h;
      most = λ r h. omega arith;
      below = λ i h. absurd (omega arith);
    }

-- one rank more
times_next : (o : List ℕ) (k r : ℕ) → k < length o → times r (take (k + 1) o) ≡ times r (take k o) + times r (get_or o k 0 ∷ [])
times_next o k r h = rw (add-one, take-suc o k 0 h) (times_append r (take k o) (get_or o k 0 ∷ []))

module _ {o marks : List ℕ} {k : ℕ} (m : Marked o marks k) (h : k < length o) (x : ℕ) (is : x ≡ get_or o k 0) (byte : x < 256) where
  pub marked_one : get_or marks x 0 ≡ 0 → Marked o (set marks x 1) (k + 1)
  marked_one e =
      record {
        upto = omega arith;
        size = length-set marks x 1 ∙ m.size;
        mark =
            λ r l.
            set_entry marks x 1 r (times r (take (k + 1) o)) (omega (arith, m.size))
            (λ q. at r l (counts r x []) q) (λ q. past r l (counts r x []) q);
        most = λ r l. fits r l (counts r x []);
        below = λ i l. low i (le_cases {a = i} {b = k} (omega arith));
      }
    where
      low : (i : ℕ) → (i ≡ k) ⊎ (i < k) → get_or o i 0 < 256
      low i (inl q) = rw (q, ← is) byte
      low i (inr l) = m.below i l

      next : (r : ℕ) → times r (take (k + 1) o) ≡ times r (take k o) + times r (x ∷ [])
      next r = rw is (times_next o k r h)

      at : (r : ℕ) → r < 256 → Counts r x [] → r ≡ x → 1 ≡ times r (take (k + 1) o)
      at r l (here q p) f = omega (arith, next r, e, rw f at (m.mark r l), ap (λ y. get_or marks y 0) f, m.mark r l)
      at r l (other q p) f = absurd (q f)

      past : (r : ℕ) → r < 256 → Counts r x [] → (r ≡ x → ⊥) → get_or marks r 0 ≡ times r (take (k + 1) o)
      past r l (here q p) f = absurd (f q)
      past r l (other q p) f = omega (arith, next r, m.mark r l)

      fits : (r : ℕ) → r < 256 → Counts r x [] → times r (take (k + 1) o) ≤ 1
      fits r l (here q p) = omega (arith, next r, e, ap (λ y. get_or marks y 0) q, m.mark r l)
      fits r l (other q p) = omega (arith, next r, m.most r l)

  pub marked_twice : (get_or marks x 0 ≡ 0 → ⊥) → false ≡ is_order o
  marked_twice n = sym (false_order o (λ v. over v (counts x x [])))
    where
      next : times x (take (k + 1) o) ≡ times x (take k o) + times x (x ∷ [])
      next = rw is (times_next o k (get_or o k 0) h)

      some : 0 < times x (take k o)
      some = go (times x (take k o)) refl
        where
          go : (t : ℕ) → times x (take k o) ≡ t → 0 < t
          go zero q = absurd (n (m.mark x byte ∙ q))
          go (suc t) q = omega arith

      over : Order o → Counts x x [] → ⊥
      over v (here q p) = omega (arith, next, some, times_front x (k + 1) o, v.once x byte)
      over v (other q p) = q refl

pub marked_all : {o marks : List ℕ} {k : ℕ} → Marked o marks k → length o ≡ 256 → length o ≤ k → true ≡ is_order o
marked_all {o} {marks} {k} m size h =
    let whole : take k o ≡ o = take_all k o h in
    sym (true_order o (record { size = size; once = all_ones 256 o (λ r l. rw whole at (m.most r l)) (total_all 256 o (λ i l. m.below i (omega arith)) ∙ size) }))

pub wrong_size : (o : List ℕ) → (length o ≡ 256 → ⊥) → false ≡ is_order o
wrong_size o h = sym (false_order o (λ v. h v.size))

-- byte order is an order
pub byte_order_lem : is_order byte_order ≡ true
unfolding byte_order
byte_order_lem =
    true_order byte_order
    (record { size = length_table (λ b. b) 256; once = λ r h. times_once (λ b. b) 256 r r h refl (λ k l q. sym q) })

-- what is told of the ranks
pub handed_none : (o : List ℕ) → o ≡ byte_order → Handed o []
handed_none o e =
    record {
      is = ap is_order e ∙ byte_order_lem;
      front = none o;
      known = no_ranks;
      same = λ s h. rw e (ranked_none s ∙ sym (byte_ranked s h));
    }
  where
    none : (o : List ℕ) → [] ≡ take 0 o
    none [] = refl
    none (x ∷ o) = refl

pub handed_all : (o : List ℕ) → length o ≡ 256 → true ≡ is_order o → Handed o o
handed_all o size e =
    record {
      is = sym e;
      front = sym (take_all (length o) o (omega arith));
      known = order_ranks (order_true o (sym e));
      same = λ s h. refl;
    }
