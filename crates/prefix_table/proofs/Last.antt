-- The table of last factors along one scan from the start of a factor: each turn gives one entry, and where the scan stops the next one starts.
use mathlib.Core.List.{List}
use mathlib.Core.Logic.{◌⊎◌, inl, inr}
use mathlib.Core.Path.{◌≡◌, refl, sym, ◌∙◌}
use Prim.Native.Nat.{ℕ, ◌+◌, ◌-◌, ◌*◌, ◌/◌, ◌%◌, ◌<◌}
use native.Mathlib.Nat.{div-add-mod', mod-lt}
use native.Mathlib.Omega.{arith}
use lib.ListN.{length, get_or}
use Rattle.words.specs.Demand.{FactorStart}
use Rattle.words.specs.Tables.{last_factors}
use Rattle.words.proofs.Bounded.{le_cases}
use Rattle.words.proofs.Scan.{Scan, Stops}
use Rattle.words.proofs.Tables.{Front, last_first, last_up, last_same, front_words, last_factors_entry, last_factors_length}
use Rattle.scan.proofs.Next.{turn_up}
use Rattle.rows.proofs.Fill.{Right, right_one, right_join, Lists}
use Rattle.prefix_table.specs.State.{last_to, Next, Testing}
use Rattle.prefix_table.proofs.Start.{start_front, start_below, front_factor}

pub last_table : (s : List ℕ) → Lists (last_factors s) (last_to s) (length s)
last_table s = record { size = last_factors_length s; entry = last_factors_entry s }

-- the scan stops at j: the next one starts after the last whole word before j
pub scan_next : {s : List ℕ} {i j p : ℕ} → FactorStart s i → Scan s i j p → Stops s j p → Next s i (j - (j - i) % p)
scan_next {s} {i} {j} {p} q c h =
    let e : (j - i) / p * p + (j - i) % p ≡ j - i = div-add-mod' (j - i) p in
    let l : (j - i) % p < p = mod-lt (j - i) c.some in
    let at : j - (j - i) % p ≡ i + (j - i) / p * p = omega arith in
    let d = rw (← at) at (front_words (start_front q) c h ((j - i) / p) (omega arith)) in
    record { later = omega arith; within = omega arith; start = go d (le_cases {a = j - (j - i) % p} {b = length s} (omega arith)) }
  where
    go : {r : ℕ} → Front s r → (r ≡ length s) ⊎ (r < length s) → (r ≡ length s) ⊎ FactorStart s r
    go d (inl e) = inl e
    go d (inr l) = inr (front_factor d l)

module _ {s : List ℕ} {i : ℕ} (q : FactorStart s i) where
  pub first_entry : 1 ≡ last_to s i
  first_entry = sym (last_first (start_front q) (start_below q))

  module _ {j p : ℕ} (c : Scan s i j p) (l : j < length s) where
    pub up_entry : get_or s (j - p) 0 < get_or s j 0 → j + 1 - i ≡ last_to s j
    up_entry h = sym (last_up (start_front q) c (j - p) (j + 1 - i) (omega arith) (omega arith) l h)

    pub same_entry : (row : List ℕ) → Right (last_to s) row i j → get_or s (j - p) 0 ≡ get_or s j 0 → get_or row (j - p) 0 ≡ last_to s j
    same_entry row g h =
        g (j - p) (omega arith) (omega arith) ∙ sym (last_same (start_front q) c (j - p) (omega arith) l (sym h))

  -- one more entry is right
  module _ (row : List ℕ) {j p : ℕ} (t : Testing s row i j p) (l : j < length s) where
    pub one_more : get_or row j 0 ≡ last_to s j → Right (last_to s) row i (j + 1)
    one_more e = right_join (last_to s) row i j (j + 1) t.right (right_one (last_to s) row j (j + 1) refl e)

    pub testing_up : get_or s (j - p) 0 < get_or s j 0 → get_or row j 0 ≡ j + 1 - i → Testing s row i (j + 1) (j + 1 - i)
    testing_up h e = record { scan = turn_up t.scan l h; right = one_more (e ∙ up_entry t.scan l h) }
