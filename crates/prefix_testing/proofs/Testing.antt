-- The prefix table as it is tested along one scan: an entry that is wrong, and one more that is right.
use mathlib.Core.List.{List}
use mathlib.Core.Path.{◌≡◌, refl, sym, ◌∙◌}
use Prim.Native.Nat.{ℕ, ◌+◌, ◌-◌, ◌%◌, ◌<◌}
use native.Mathlib.Omega.{arith}
use lib.ListN.{length, get_or}
use Rattle.words.specs.Demand.{FactorStart}
use Rattle.words.proofs.Scan.{Stops, scan_start}
use Rattle.rows.proofs.Fill.{right_one}
use Rattle.scan.proofs.Next.{turn_same}
use Rattle.prefix_table.specs.State.{last_to, Testing}
use Rattle.prefix_table.proofs.Start.{start_below}
use Rattle.prefix_table.proofs.Last.{scan_next, first_entry, up_entry, same_entry, one_more}
use Rattle.prefix_testing.specs.Tested.{TestedFrom}

wrong_at : (s row : List ℕ) (i k : ℕ) → k < length s → (get_or row k 0 ≡ last_to s k → ⊥) → TestedFrom s row i i
wrong_at s row i k l h =
    record { wrong = λ e. record { place = k; within = l; differs = h }; right = λ h. absurd (h refl) }

module _ {s : List ℕ} {i : ℕ} (q : FactorStart s i) (row : List ℕ) where
  pub testing_first : (get_or row i 0 ≡ 1 → ⊥) → TestedFrom s row i i
  testing_first h = wrong_at s row i i (start_below q) (λ e. h (e ∙ sym (first_entry q)))

  pub testing_start : get_or row i 0 ≡ 1 → Testing s row i (i + 1) 1
  testing_start h =
      record { scan = scan_start s i (start_below q); right = right_one (last_to s) row i (i + 1) refl (h ∙ first_entry q) }

  module _ {j p : ℕ} (t : Testing s row i j p) (l : j < length s) where
    pub testing_up_wrong : get_or s (j - p) 0 < get_or s j 0 → (get_or row j 0 ≡ j + 1 - i → ⊥) → TestedFrom s row i i
    testing_up_wrong h w = wrong_at s row i j l (λ e. w (e ∙ sym (up_entry q t.scan l h)))

    module _ (h : get_or s (j - p) 0 ≡ get_or s j 0) where
      pub testing_same : get_or row j 0 ≡ get_or row (j - p) 0 → Testing s row i (j + 1) p
      testing_same e = record { scan = turn_same t.scan l h; right = one_more q row t l (e ∙ same_entry q t.scan l row t.right h) }

      pub testing_same_wrong : (get_or row j 0 ≡ get_or row (j - p) 0 → ⊥) → TestedFrom s row i i
      testing_same_wrong w = wrong_at s row i j l (λ e. w (e ∙ sym (same_entry q t.scan l row t.right h)))

  pub tested_from : {j p : ℕ} → Testing s row i j p → Stops s j p
      → (i < j - (j - i) % p) × TestedFrom s row i (j - (j - i) % p)
  tested_from t h =
      let n = scan_next q t.scan h in
      (n.later, record { wrong = λ e. absurd (omega (arith, n.later)); right = λ w. (n, λ k a b. t.right k a (omega arith)) })
