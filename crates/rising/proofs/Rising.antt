-- Bytes from which on a pattern is greater than a word that begins with c: one more, a block more, and what they give Duval's scan.
use mathlib.Core.List.{List}
use mathlib.Core.Logic.{◌⊎◌, inl, inr}
use mathlib.Core.Path.{◌≡◌, refl, sym, ap, ◌∙◌}
use Prim.Native.Nat.{ℕ, zero, suc, ◌+◌, ◌-◌, ◌≤◌, ◌<◌}
use native.Mathlib.Omega.{arith}
use lib.ListN.{length, get_or}
use Rattle.words.proofs.Bounded.{le_or_lt, le_cases}
use Rattle.words.proofs.Below.{Below}
use Rattle.words.proofs.Scan.{Scan, scan_grow}
use Rattle.rising.specs.Risen.{Run, Breaks, Exceeds, Risen}

-- what is so of the places where a test is met
pub risen_met : {s : List ℕ} {c : ℕ} {P Q : ℕ → Type 0} {j k : ℕ} → Risen s c P j k → ((t : ℕ) → P t → Q t) → Risen s c Q j k
risen_met {s} {c} {P} {Q} r f = record { at = λ t h l. go t (r.at t h l) }
  where
    go : (t : ℕ) → (c < get_or s t 0) ⊎ ((get_or s t 0 ≡ c) × P t) → (c < get_or s t 0) ⊎ ((get_or s t 0 ≡ c) × Q t)
    go t (inl q) = inl q
    go t (inr q) = inr (q.0, f t q.1)

-- the suffix from t is greater than the word by its first byte
pub above_below : {s : List ℕ} {i t e : ℕ} → t < e → get_or s i 0 < get_or s t 0 → Below s i t e
above_below {s} {i} {t} {e} l h =
    record {
      left = i;
      right = t;
      apart = omega arith;
      after = omega arith;
      inside = l;
      less = h;
      before = λ a b f m n. absurd (omega arith);
    }

-- the same by its first two bytes
pair_below : {s : List ℕ} {i j k e : ℕ} → Risen s (get_or s i 0) (Exceeds s (get_or s (i + 1) 0)) j k → e ≤ k → get_or s i 0 < get_or s (e - 1) 0
    → (t : ℕ) → j ≤ t → t < e → Below s i t e
pair_below {s} {i} {j} {k} {e} r l h t a b = go (r.at t a (omega arith)) (le_cases {a = t} {b = e - 1} (omega arith))
  where
    go : (get_or s i 0 < get_or s t 0) ⊎ ((get_or s t 0 ≡ get_or s i 0) × Exceeds s (get_or s (i + 1) 0) t) → (t ≡ e - 1) ⊎ (t < e - 1) → Below s i t e
    go (inl o) q = above_below b o
    go (inr o) (inl q) = absurd (omega (arith, o.0, ap (λ u. get_or s u 0) q))
    go (inr o) (inr q) =
        record {
          left = i + 1;
          right = t + 1;
          apart = omega arith;
          after = omega arith;
          inside = omega arith;
          less = o.1;
          before = λ x y f m n. ap (λ u. get_or s u 0) {x = x} {y = i} (omega arith) ∙ sym o.0 ∙ ap (λ u. get_or s u 0) {x = t} {y = y} (omega arith);
        }

-- the same by fewer bytes c, of which the word has eight
module _ {s : List ℕ} {i j k e : ℕ} (w : Run s (get_or s i 0) i 8) (r : Risen s (get_or s i 0) (Breaks s (get_or s i 0)) j k) (l : e ≤ k)
    (h : get_or s i 0 < get_or s (e - 1) 0) where
  word_run : (x u : ℕ) → i + u ≡ x → u < 8 → get_or s x 0 ≡ get_or s i 0
  word_run x zero f m = ap (λ v. get_or s v 0) {x = x} {y = i} (omega arith)
  word_run x (suc u) f m = ap (λ v. get_or s v 0) (sym f) ∙ w.at (suc u) (omega arith) m

  -- the bytes from t on, before t + u, are c
  run_from_lem : (n t u : ℕ) → u + n ≡ 8 → 0 < u → j ≤ t → t < e → Breaks s (get_or s i 0) t → ((x : ℕ) → x < u → get_or s (t + x) 0 ≡ get_or s i 0) → Below s i t e
  run_from_lem zero t u f o a b v same = absurd (v (record { at = λ x m n. same x (omega arith) }))
  run_from_lem (suc n) t u f o a b v same = go (le_or_lt e (t + u)) (λ x. run_from_lem n t (u + 1) (omega arith) (omega arith) a b v x)
    where
      before : (x y : ℕ) → x + t ≡ y + i → i ≤ x → x < i + u → get_or s x 0 ≡ get_or s y 0
      before x y g m q =
          word_run x (x - i) (omega arith) (omega arith) ∙ sym (same (x - i) (omega arith))
          ∙ ap (λ v. get_or s v 0) {x = t + (x - i)} {y = y} (omega arith)

      next : (x : ℕ) → x < u + 1 → get_or s (t + u) 0 ≡ get_or s i 0 → (x ≡ u) ⊎ (x < u) → get_or s (t + x) 0 ≡ get_or s i 0
      next x m q (inl g) = rw g q
      next x m q (inr g) = same x g

      here : (get_or s i 0 < get_or s (t + u) 0) ⊎ ((get_or s (t + u) 0 ≡ get_or s i 0) × Breaks s (get_or s i 0) (t + u)) → t + u < e
          → (((x : ℕ) → x < u + 1 → get_or s (t + x) 0 ≡ get_or s i 0) → Below s i t e) → Below s i t e
      here (inl q) m on =
          record {
            left = i + u;
            right = t + u;
            apart = omega arith;
            after = omega arith;
            inside = m;
            less = omega (arith, q, word_run (i + u) u refl (omega arith));
            before = before;
          }
      here (inr q) m on = on (λ x g. next x g q.0 (le_cases {a = x} {b = u} (omega arith)))

      go : (e ≤ t + u) ⊎ (t + u < e) → (((x : ℕ) → x < u + 1 → get_or s (t + x) 0 ≡ get_or s i 0) → Below s i t e) → Below s i t e
      go (inl m) on = absurd (omega (arith, h, same (e - 1 - t) (omega arith), ap (λ v. get_or s v 0) {x = t + (e - 1 - t)} {y = e - 1} (omega arith)))
      go (inr m) on = here (r.at (t + u) (omega arith) (omega arith)) m on

  run_below : (t : ℕ) → j ≤ t → t < e → Below s i t e
  run_below t a b = go (r.at t a (omega arith))
    where
      go : (get_or s i 0 < get_or s t 0) ⊎ ((get_or s t 0 ≡ get_or s i 0) × Breaks s (get_or s i 0) t) → Below s i t e
      go (inl o) = above_below b o
      go (inr o) = run_from_lem 7 t 1 refl (omega arith) a b o.1 (λ x m. ap (λ v. get_or s v 0) {x = t + x} {y = t} (omega arith) ∙ o.0)

-- of bytes that are above c or c, one that is not c is above
other_above : {s : List ℕ} {c j k e : ℕ} {P : ℕ → Type 0} → Risen s c P j k → j ≤ e → e ≤ k → (e ≡ j) ⊎ (get_or s (e - 1) 0 ≡ c → ⊥)
    → (e ≡ j) ⊎ (c < get_or s (e - 1) 0)
other_above r l m (inl q) = inl q
other_above {s} {c} {j} {k} {e} {P} r l m (inr n) = go (le_cases l)
  where
    here : (c < get_or s (e - 1) 0) ⊎ ((get_or s (e - 1) 0 ≡ c) × P (e - 1)) → (e ≡ j) ⊎ (c < get_or s (e - 1) 0)
    here (inl q) = inr q
    here (inr q) = absurd (n q.0)

    go : (j ≡ e) ⊎ (j < e) → (e ≡ j) ⊎ (c < get_or s (e - 1) 0)
    go (inl q) = inl (sym q)
    go (inr q) = here (r.at (e - 1) (omega arith) (omega arith))

-- where the word ends after it has grown over them
pub grow_pairs : {s : List ℕ} {i j k e : ℕ} → Scan s i j (j - i) → Risen s (get_or s i 0) (Exceeds s (get_or s (i + 1) 0)) j k → k ≤ length s → j ≤ e → e ≤ k
    → (e ≡ j) ⊎ (get_or s (e - 1) 0 ≡ get_or s i 0 → ⊥) → Scan s i e (e - i)
grow_pairs {s} {i} {j} {k} {e} c r f l m o = go (other_above r l m o)
  where
    go : (e ≡ j) ⊎ (get_or s i 0 < get_or s (e - 1) 0) → Scan s i e (e - i)
    go (inl q) = rw q c
    go (inr q) = scan_grow c l (omega arith) (pair_below r m q)

pub grow_runs : {s : List ℕ} {i j k e : ℕ} → Scan s i j (j - i) → Run s (get_or s i 0) i 8 → Risen s (get_or s i 0) (Breaks s (get_or s i 0)) j k → k ≤ length s
    → j ≤ e → e ≤ k → (e ≡ j) ⊎ (get_or s (e - 1) 0 ≡ get_or s i 0 → ⊥) → Scan s i e (e - i)
grow_runs {s} {i} {j} {k} {e} c w r f l m o = go (other_above r l m o)
  where
    go : (e ≡ j) ⊎ (get_or s i 0 < get_or s (e - 1) 0) → Scan s i e (e - i)
    go (inl q) = rw q c
    go (inr q) = scan_grow c l (omega arith) (run_below w r m q)
