-- Bytes that agree: one more, a block more, and what that says of prefixes and of ranks.
use mathlib.Core.Bool.{Bool, true, ◌&&◌}
use mathlib.Core.List.{List}
use mathlib.Core.Logic.{◌⊎◌, inl, inr}
use mathlib.Core.Path.{◌≡◌, sym, ap, ◌∙◌}
use Prim.Native.Nat.{ℕ, ◌+◌, ◌-◌, ◌≤◌, ◌<◌}
use native.Mathlib.Omega.{arith}
use lib.ListN.{length, take, get_or, length-take}
use lib.Dec.{eqb}
use lib.Seq.{get_or-take, ext_get_or}
use borrow.Author.Tests.{eqb-true}
use Rattle.words.proofs.Bounded.{le_or_lt, le_cases, and_true}
use Rattle.ranks.specs.Ranks.{rank, ranked}
use Rattle.ranks.proofs.Ranked.{get_or_ranked}
use Rattle.agreeing.specs.Agrees.{Agrees}

module _ {a b : List ℕ} {i j : ℕ} where
  pub agrees_none : Agrees a i b j 0
  agrees_none = record { at = λ k h. absurd (omega arith) }

  pub agrees_one : {n : ℕ} → Agrees a i b j n → get_or a (i + n) 0 ≡ get_or b (j + n) 0 → Agrees a i b j (n + 1)
  agrees_one {n} g e = record { at = λ k h. go k (le_cases {a = k} {b = n} (omega arith)) }
    where
      go : (k : ℕ) → (k ≡ n) ⊎ (k < n) → get_or a (i + k) 0 ≡ get_or b (j + k) 0
      go k (inl q) = rw q e
      go k (inr l) = g.at k l

  pub agrees_more : {n m : ℕ} → Agrees a i b j n → Agrees a (i + n) b (j + n) m → Agrees a i b j (n + m)
  agrees_more {n} {m} g f = record { at = λ k h. go k h (le_or_lt n k) }
    where
      go : (k : ℕ) → k < n + m → (n ≤ k) ⊎ (k < n) → get_or a (i + k) 0 ≡ get_or b (j + k) 0
      go k h (inl l) =
          let p : i + n + (k - n) ≡ i + k = omega arith in
          let q : j + n + (k - n) ≡ j + k = omega arith in
          rw (p, q) at (f.at (k - n) (omega arith))
      go k h (inr l) = g.at k l

  pub agrees_less : {n : ℕ} → Agrees a i b j n → (m : ℕ) → m ≤ n → Agrees a i b j m
  agrees_less g m h = record { at = λ k l. g.at k (omega arith) }

  -- one more pair compared; `same` says whether all before it agree
  pub agrees_test : {n : ℕ} (same : Bool) → (same ≡ true → Agrees a i b j n) → (same && eqb (get_or a (i + n) 0) (get_or b (j + n) 0)) ≡ true
      → Agrees a i b j (n + 1)
  agrees_test {n} same g e =
      let (p, q) = and_true same (eqb (get_or a (i + n) 0) (get_or b (j + n) 0)) e in
      agrees_one (g p) (eqb-true (get_or a (i + n) 0) (get_or b (j + n) 0) q)

-- two strings agree where their first bytes do
pub agrees_front : {a b : List ℕ} {n m : ℕ} → Agrees (take m a) 0 (take m b) 0 n → n ≤ m → Agrees a 0 b 0 n
agrees_front {a} {b} {n} {m} g h =
    record { at = λ k l. sym (get_or-take m a (0 + k) 0 (omega arith)) ∙ g.at k l ∙ get_or-take m b (0 + k) 0 (omega arith) }

-- two strings that agree from their first places on have the same prefix
pub agrees_take : {a b : List ℕ} {n : ℕ} → Agrees a 0 b 0 n → n ≤ length a → n ≤ length b → take n a ≡ take n b
agrees_take {a} {b} {n} g h l = ext_get_or 0 _ _ (omega (arith, length-take n a, length-take n b)) (λ k m. go k (omega (arith, length-take n a)))
  where
    go : (k : ℕ) → k < n → get_or (take n a) k 0 ≡ get_or (take n b) k 0
    go k m =
        let p : 0 + k ≡ k = omega arith in
        get_or-take n a k 0 m ∙ rw p at (g.at k m) ∙ sym (get_or-take n b k 0 m)

-- bytes that agree have ranks that do
pub agrees_ranked : (o : List ℕ) {a b : List ℕ} {i j n : ℕ} → i + n ≤ length a → j + n ≤ length b → Agrees a i b j n → Agrees (ranked o a) i (ranked o b) j n
agrees_ranked o {a} {b} {i} {j} h l g =
    record { at = λ k m. get_or_ranked o a (i + k) (omega arith) ∙ ap (rank o) (g.at k m) ∙ sym (get_or_ranked o b (j + k) (omega arith)) }
