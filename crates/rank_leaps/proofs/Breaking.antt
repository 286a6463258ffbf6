-- Blocks in which no eight bytes c begin and no rank is below that of c: one more rank, and what they give Duval's scan of the ranks.
use mathlib.Core.Bool.{Bool, true, ◌&&◌}
use mathlib.Core.List.{List}
use mathlib.Core.Logic.{◌⊎◌, inl, inr}
use mathlib.Core.Path.{◌≡◌, sym, ap, ◌∙◌}
use Prim.Native.Nat.{ℕ, ◌+◌, ◌-◌, ◌≤◌, ◌<◌}
use native.Mathlib.Omega.{arith}
use lib.ListN.{length, get_or}
use lib.Dec.{leb}
use borrow.Author.Tests.{leb-true}
use Rattle.words.proofs.Bounded.{le_cases, and_true}
use Rattle.words.proofs.Scan.{Scan, scan_grow}
use Rattle.ranks.specs.Inner.{Ranks}
use Rattle.ranks.specs.Ranks.{Bytes, rank, ranked}
use Rattle.ranks.proofs.Ranked.{length_ranked, get_or_ranked}
use Rattle.above.specs.Above.{Above}
use Rattle.rising.specs.Risen.{Run, Breaks, Risen}
use Rattle.rising.proofs.Rising.{above_below, grow_runs}
use Rattle.rank_leaps.specs.Broken.{Broken, AtLeast}

-- one more number tested; `all` says whether all before it passed
pub least_test : {s : List ℕ} {d j k : ℕ} (all : Bool) → (all ≡ true → AtLeast s d j k) → (all && leb d (get_or s k 0)) ≡ true → AtLeast s d j (k + 1)
least_test {s} {d} {j} {k} all g e =
    let (p, q) = and_true all (leb d (get_or s k 0)) e in
    record { at = λ t h l. go t h (le_cases {a = t} {b = k} (omega arith)) (g p) (leb-true d (get_or s k 0) q) }
  where
    go : (t : ℕ) → j ≤ t → (t ≡ k) ⊎ (t < k) → AtLeast s d j k → d ≤ get_or s k 0 → d ≤ get_or s t 0
    go t h (inl q) r l = rw q l
    go t h (inr q) r l = r.at t h q

-- bytes that are c have the rank of c, and no others
module _ (o s : List ℕ) (c : ℕ) (v : Ranks o) (bytes : Bytes s) (byte : c < 256) where
  ranked_is : (t : ℕ) → t < length s → get_or (ranked o s) t 0 ≡ rank o c → get_or s t 0 ≡ c
  ranked_is t h e = v.apart (get_or s t 0) c (bytes t h) byte (sym (get_or_ranked o s t h) ∙ e)

  ranked_run : (i : ℕ) → i + 8 ≤ length s → Run s c i 8 → Run (ranked o s) (rank o c) i 8
  ranked_run i h r = record { at = λ u a b. get_or_ranked o s (i + u) (omega arith) ∙ ap (rank o) (r.at u a b) }

  run_ranked : (t : ℕ) → t + 8 ≤ length s → Run (ranked o s) (rank o c) t 8 → Run s c t 8
  run_ranked t h r = record { at = λ u a b. ranked_is (t + u) (omega arith) (r.at u a b) }

  risen_ranked : {j k : ℕ} → Broken s c j k → AtLeast (ranked o s) (rank o c) j k → Risen (ranked o s) (rank o c) (Breaks (ranked o s) (rank o c)) j k
  risen_ranked {j} {k} b a = record { at = λ t h l. go t (b.at t h l) (le_cases (a.at t h l)) }
    where
      go : (t : ℕ) → (t + 8 ≤ length s) × (get_or s t 0 ≡ c → Breaks s c t) → (rank o c ≡ get_or (ranked o s) t 0) ⊎ (rank o c < get_or (ranked o s) t 0)
          → (rank o c < get_or (ranked o s) t 0) ⊎ ((get_or (ranked o s) t 0 ≡ rank o c) × Breaks (ranked o s) (rank o c) t)
      go t p (inl q) = inr (sym q, λ r. p.1 (ranked_is t (omega (arith, p.0)) (sym q)) (run_ranked t p.0 r))
      go t p (inr q) = inl q

  -- where the word ends after it has grown over such blocks
  pub grow_broken : {i j k e : ℕ} → i + 8 ≤ length s → get_or (ranked o s) i 0 ≡ rank o c → Scan (ranked o s) i j (j - i) → Run s c i 8
      → Broken s c j k → AtLeast (ranked o s) (rank o c) j k → k ≤ length s → j ≤ e → e ≤ k → (e ≡ j) ⊎ (get_or s (e - 1) 0 ≡ c → ⊥) → Scan (ranked o s) i e (e - i)
  grow_broken {i} {j} {k} {e} h f w r b a l m n z =
      grow_runs w (rw f (ranked_run i h r)) (rw f (risen_ranked b a)) (omega (arith, length_ranked o s)) m n (go z)
    where
      go : (e ≡ j) ⊎ (get_or s (e - 1) 0 ≡ c → ⊥) → (e ≡ j) ⊎ (get_or (ranked o s) (e - 1) 0 ≡ get_or (ranked o s) i 0 → ⊥)
      go (inl q) = inl q
      go (inr q) = inr (λ x. q (ranked_is (e - 1) (omega (arith, w.some)) (x ∙ f)))

-- the word grows over bytes above its first
pub grow_above : {s : List ℕ} {i j k : ℕ} → Scan s i j (j - i) → Above s (get_or s i 0) j k → j ≤ k → k ≤ length s → Scan s i k (k - i)
grow_above {s} {i} {j} {k} c a l h = scan_grow c l h (λ t m n. above_below n (a.at t m n))
