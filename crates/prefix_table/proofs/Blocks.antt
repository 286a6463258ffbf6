-- The table of last factors by blocks: sixteen bytes that are above the word's first, or that stand some words earlier too, give sixteen entries.
use mathlib.Core.List.{List}
use mathlib.Core.Path.{◌≡◌, sym, ap, ◌∙◌}
use Prim.Native.Nat.{ℕ, zero, suc, ◌+◌, ◌-◌, ◌*◌, ◌≤◌, ◌<◌}
use native.Mathlib.Omega.{arith}
use lib.ListN.{length, get_or}
use Rattle.words.specs.Demand.{FactorStart}
use Rattle.words.proofs.Scan.{Scan, scan_times}
use Rattle.words.proofs.Tables.{last_same}
use Rattle.ranks.specs.Ranks.{rank, ranked}
use Rattle.ranks.proofs.Ranked.{length_ranked, get_or_ranked}
use Rattle.rows.proofs.Fill.{Right}
use Rattle.agreeing.specs.Agrees.{Agrees}
use Rattle.above.specs.Above.{Above}
use Rattle.scan.proofs.Next.{turn_same}
use Rattle.prefix_table.specs.State.{last_to, Testing, Back}
use Rattle.prefix_table.proofs.Start.{start_front}
use Rattle.prefix_table.proofs.Last.{testing_up, one_more}

-- the word's first rank is that of its first byte
pub above_first : (o s : List ℕ) {i j k : ℕ} → i < length (ranked o s) → Above (ranked o s) (rank o (get_or s i 0)) j k
    → Above (ranked o s) (get_or (ranked o s) i 0) j k
above_first o s {i} h f = rw (get_or_ranked o s i (omega (arith, length_ranked o s))) f

scan_cut : {s : List ℕ} {i j p : ℕ} → Scan s i j p → (x : ℕ) → i + p ≤ x → x ≤ j → Scan s i x p
scan_cut c x h l =
    record { some = c.some; fits = h; ends = omega (arith, c.ends); word = c.word; period = λ k a b. c.period k a (omega arith) }

module _ {s : List ℕ} {i : ℕ} (q : FactorStart s i) where
  -- an entry is that of some words earlier
  entry_times : {j p : ℕ} → Scan s i j p → (e x : ℕ) → i + e * p ≤ x → x < j → last_to s x ≡ last_to s (x - e * p)
  entry_times {j} {p} c zero x h l = ap (last_to s) {x = x} {y = x - 0 * p} (omega arith)
  entry_times {j} {p} c (suc e) x h l =
      let a : x - p + p ≡ x = omega arith in
      let b : x - p - e * p ≡ x - suc e * p = omega arith in
      last_same (start_front q) (scan_cut c x (omega arith) (omega arith)) (x - p) a (omega (arith, c.ends))
      (ap (λ u. get_or s u 0) (sym a) ∙ c.period (x - p) (omega arith) (omega arith))
      ∙ entry_times c e (x - p) (omega arith) (omega arith) ∙ ap (last_to s) b

  module _ (row : List ℕ) where
    testing_again : {x p : ℕ} → Testing s row i x p → (e : ℕ) → i + suc e * p ≤ x → x < length s → get_or s (x - suc e * p) 0 ≡ get_or s x 0
        → get_or row (x - suc e * p) 0 ≡ get_or row x 0 → Testing s row i (x + 1) p
    testing_again {x} {p} t e h l f g =
        let a : x - suc e * p + e * p ≡ x - p = omega arith in
        let b = scan_times t.scan e (x - suc e * p) (omega arith) (omega (arith, t.scan.some)) in
        let c = turn_same t.scan l (ap (λ u. get_or s u 0) (sym a) ∙ b ∙ f) in
        record {
          scan = c;
          right =
              one_more q row t l (sym g ∙ t.right (x - suc e * p) (omega arith) (omega (arith, t.scan.some)) ∙ sym (entry_times c (suc e) x h (omega arith)));
        }

    pub again_block : {j p back : ℕ} → Testing s row i j p → Back i j p back → j + 16 ≤ length s → Agrees s (j - back) s j 16
        → Agrees row (j - back) row j 16 → (t : ℕ) → t ≤ 16 → Testing s row i (j + t) p
    again_block {j} {p} {back} w b l f g zero h = let z : j + 0 ≡ j = omega arith in rw z w
    again_block {j} {p} {back} w b l f g (suc t) h =
        let z : j + suc t ≡ j + t + 1 = omega arith in
        let y : j - back + t ≡ j + t - suc b.others * p = omega (arith, b.words, b.inside) in
        rw z (testing_again (again_block w b l f g t (omega arith)) b.others (omega (arith, b.words, b.inside)) (omega arith)
        (rw y at (f.at t (omega arith))) (rw y at (g.at t (omega arith))))

    pub above_block : {j : ℕ} → Testing s row i j (j - i) → j + 16 ≤ length s → Above s (get_or s i 0) j (j + 16) → Right (λ k. k + 1 - i) row j (j + 16)
        → (t : ℕ) → t ≤ 16 → Testing s row i (j + t) (j + t - i)
    above_block {j} w l f g zero h = let z : j + 0 ≡ j = omega arith in rw z w
    above_block {j} w l f g (suc t) h =
        let z : j + suc t ≡ j + t + 1 = omega arith in
        let y : i ≡ j + t - (j + t - i) = omega (arith, w.scan.fits) in
        rw z (testing_up q row (above_block w l f g t (omega arith)) (omega arith) (rw y at (f.at (j + t) (omega arith) (omega arith)))
        (g (j + t) (omega arith) (omega arith)))
