-- Section 8 with s alone: what follows the group of s at i, round the end of s, is told by the places of s ++ s. Where it is below the group's
-- word the least start is at the group's end or after it (`round_next`); where it is not, it is i (`round_start`).
use mathlib.Core.Bool.{false}
use mathlib.Core.List.{List, ◌++◌}
use mathlib.Core.Logic.{◌⊎◌, inl, inr}
use mathlib.Core.Path.{◌≡◌, refl, sym, ap, ◌∙◌}
use Prim.Native.Nat.{ℕ, zero, suc, ◌+◌, ◌*◌, ◌-◌, ◌≤◌, ◌<◌}
use native.Mathlib.Nat.{mul-le-mul_right}
use native.Mathlib.Omega.{arith}
use lib.Dec.{ltb}
use lib.ListN.{length, take, drop, get_or, length-append, length-drop, take-append-drop, get_or-append}
use lib.Seq.{drop-append-le, take-append-le}
use borrow.Author.Tests.{le-ltb}
use Rattle.words.specs.Rotation.{least_rotation, repeated}
use Rattle.words.proofs.Below.{word_length, below_period, lyndon_below}
use Rattle.words.proofs.Bounded.{le_or_lt, le_cases}
use Rattle.words.proofs.Factors.{longest_prefix_max}
use Rattle.words.proofs.Rotation.{least_start_low}
use Rattle.words.proofs.RotationGroups.{rotation_next, rotation_group}
use Rattle.words.proofs.Scan.{Scan, Stops, Stopped, scan_stops, scan_times, scan_up, scan_longest}
use Rattle.words.proofs.UniqueLeast.{factor_whole, factor_divides, factor_tells}

-- a scan that has come to j goes on to its stop: with the same word, or with one that ends after j
module _ {t : List ℕ} {i j p : ℕ} (c : Scan t i j p) (d : Stopped t i) where
  size_least : p ≤ d.size
  size_least =
      let l = longest_prefix_max (drop i t) (take p (drop i t)) (drop p (drop i t)) (sym (take-append-drop p (drop i t))) c.word in
      omega (arith, l, scan_longest d.scan d.stops, word_length t i p (omega (arith, c.fits, c.ends)))

  pub scan_grown : (d.size ≡ p) ⊎ (j < i + d.size)
  scan_grown = go (le_cases size_least) (le_or_lt (i + d.size) j)
    where
      go : (p ≡ d.size) ⊎ (p < d.size) → (i + d.size ≤ j) ⊎ (j < i + d.size) → (d.size ≡ p) ⊎ (j < i + d.size)
      go (inl e) m = inl (sym e)
      go (inr l) (inr m) = inr m
      go (inr l) (inl m) =
          absurd (below_period p refl (λ k a b. c.period k a (omega arith))
          (lyndon_below t i d.size (omega (arith, d.scan.fits, d.scan.ends)) d.scan.word (i + p) (omega (arith, c.some)) (omega arith)))

  pub scan_far : d.size ≡ p → j ≤ d.stop
  scan_far e = go (le_or_lt j d.stop)
    where
      go : (j ≤ d.stop) ⊎ (d.stop < j) → j ≤ d.stop
      go (inl l) = l
      go (inr l) =
          let k : ℕ = d.stop - p in
          let f : k + p ≡ d.stop = omega (arith, d.scan.fits) in
          let q = c.period k (omega (arith, d.scan.fits)) (omega arith) in
          absurd (omega (arith, q, d.stops k (omega arith) (omega (arith, c.ends)), ap (λ u. get_or t u 0) f))

-- a scan of s is one of s ++ s
pub scan_doubled : {s : List ℕ} {i j p : ℕ} → Scan s i j p → Scan (s ++ s) i j p
scan_doubled {s} {i} {j} {p} c =
    let l : p ≤ length (drop i s) = omega (arith, length-drop i s, c.fits, c.ends) in
    let a = drop-append-le i s s (omega (arith, c.fits, c.ends)) in
    let w : take p (drop i (s ++ s)) ≡ take p (drop i s) = ap (take p) a ∙ take-append-le p (drop i s) s l in
    record {
      some = c.some;
      fits = c.fits;
      ends = omega (arith, c.ends, length-append s s);
      word = rw w c.word;
      period = λ k a b.
          get_or-append s s 0 (k + p) (omega (arith, c.ends)) ∙ c.period k a b ∙ sym (get_or-append s s 0 k (omega (arith, c.ends)));
    }

-- the group of s at i has `suc e` words of p symbols; round the end, what follows agrees with the word for some places
module _ (s : List ℕ) {i j p : ℕ} (e : ℕ) (c : Scan s i j p) (whole : i + suc e * p ≤ j) where
  abbrev pub Agrees : ℕ → Type 0
  Agrees m = (d : ℕ) → d < m → get_or (s ++ s) (i + suc e * p + d) 0 ≡ get_or (s ++ s) (i + d) 0

  -- the word stands before it
  pub word_before : (d k : ℕ) → d < p → k + p ≡ i + suc e * p + d → get_or (s ++ s) k 0 ≡ get_or (s ++ s) (i + d) 0
  word_before d k l f =
      let a : k ≡ i + d + e * p = omega arith in
      ap (λ u. get_or (s ++ s) u 0) a ∙ scan_times (scan_doubled c) e (i + d) (omega arith) (omega arith)

  pub round_scan : (m : ℕ) → m ≤ p → Agrees m → Scan (s ++ s) i (i + suc e * p + m) p
  round_scan m l same =
      record {
        some = c.some;
        fits = omega arith;
        ends = omega (arith, length-append s s, c.fits, c.ends);
        word = (scan_doubled c).word;
        period = λ k a b. go k a b (le_or_lt (i + suc e * p) (k + p));
      }
    where
      go : (k : ℕ) → i ≤ k → k + p < i + suc e * p + m → (i + suc e * p ≤ k + p) ⊎ (k + p < i + suc e * p) → get_or (s ++ s) (k + p) 0 ≡ get_or (s ++ s) k 0
      go k a b (inl h) =
          let d : ℕ = k + p - (i + suc e * p) in
          let f : k + p ≡ i + suc e * p + d = omega arith in
          ap (λ u. get_or (s ++ s) u 0) f ∙ same d (omega arith) ∙ sym (word_before d k (omega arith) f)
      go k a b (inr h) = (scan_doubled c).period k a (omega arith)

  module _ (m : ℕ) (l : m < p) (same : Agrees m) where
    pub round_up : get_or (s ++ s) (i + m) 0 < get_or (s ++ s) (i + suc e * p + m) 0 → Scan (s ++ s) i (i + suc e * p + m + 1) (suc e * p + m + 1)
    round_up high =
        let k : ℕ = i + e * p + m in
        scan_up (round_scan m (omega arith) same) k (suc e * p + m + 1) (omega arith) (omega arith) (omega (arith, length-append s s, c.fits, c.ends))
        (rw (word_before m k l (omega arith)) high)

    pub round_next : i ≤ least_rotation s → get_or (s ++ s) (i + suc e * p + m) 0 < get_or (s ++ s) (i + m) 0 → i + suc e * p ≤ least_rotation s
    round_next h low = go (le_or_lt (length s) (i + suc e * p))
      where
        scan : Scan (s ++ s) i (i + suc e * p + m) p
        scan = round_scan m (omega arith) same

        stops : Stops (s ++ s) (i + suc e * p + m) p
        stops k f g = rw (word_before m k l f) low

        go : (length s ≤ i + suc e * p) ⊎ (i + suc e * p < length s) → i + suc e * p ≤ least_rotation s
        go (inl k) =
            let q = rotation_group s h scan stops (suc e) (omega arith) k in
            absurd (least_start_low s (i + suc e * p) m (omega (arith, c.fits, c.ends)) (omega (arith, c.fits, c.ends)) (rw q (same, low)))
        go (inr k) = rotation_next s h scan stops (suc e) (omega arith) (omega arith) k

-- a scan of s ++ s from i that has come over the end of s with whole words has the least start
pub round_start : (s : List ℕ) {i j p : ℕ} → i ≤ least_rotation s → Scan (s ++ s) i j p → (e : ℕ) → i + e * p ≤ j → length s ≤ i + e * p
    → least_rotation s ≡ i
round_start s {i} {j} {p} h c e a l = go (scan_stops (s ++ s) i (omega (arith, c.some, c.fits, c.ends)))
  where
    go : Stopped (s ++ s) i → least_rotation s ≡ i
    go d = at (scan_grown c d)
      where
        at : (d.size ≡ p) ⊎ (j < i + d.size) → least_rotation s ≡ i
        at (inl q) = rotation_group s h d.scan d.stops e (rw q (omega (arith, scan_far c d q))) (rw q l)
        at (inr k) = rotation_group s h d.scan d.stops 1 (omega (arith, d.scan.fits)) (omega arith)

-- a part that is shorter than the whole fits twice
part_twice : (k : ℕ) {n p : ℕ} → n ≡ k * p → p < n → p + p ≤ n
part_twice zero e h = absurd (omega arith)
part_twice (suc zero) e h = absurd (omega arith)
part_twice (suc (suc k)) e h = omega arith

-- whether s is a shorter word repeated, by a scan from the least start that has come over the end of s
module _ (s : List ℕ) {j p : ℕ} (c : Scan (s ++ s) (least_rotation s) j p) (over : length s < j) (n : 0 < length s) where
  abbrev r : ℕ
  r = least_rotation s

  stopped : Stopped (s ++ s) r
  stopped = scan_stops (s ++ s) r (omega (arith, c.some, c.fits, c.ends))

  tells : ltb stopped.size (length s) ≡ repeated s
  tells = factor_tells s stopped.scan stopped.stops n

  -- no shorter factor ends after length s
  not_short : j ≤ r + stopped.size → stopped.size < length s → ⊥
  not_short l short =
      let d = factor_divides s stopped.scan stopped.stops n short in
      omega (arith, d.0, part_twice d.1.0 d.1.1 short)

  none : (stopped.size < length s → ⊥) → repeated s ≡ false
  none never = go (le_or_lt (length s) stopped.size)
    where
      go : (length s ≤ stopped.size) ⊎ (stopped.size < length s) → repeated s ≡ false
      go (inl l) = sym tells ∙ le-ltb stopped.size (length s) l
      go (inr l) = absurd (never l)

  -- its last symbol made the word longer
  pub grown_tells : r + p ≡ j → repeated s ≡ false
  grown_tells e = none (not_short (go (scan_grown c stopped)))
    where
      go : (stopped.size ≡ p) ⊎ (j < r + stopped.size) → j ≤ r + stopped.size
      go (inl q) = omega (arith, q)
      go (inr l) = omega arith

  -- it has e words and one more
  module _ (e : ℕ) (last : r + e * p + p ≡ j) (inside : r + e * p ≤ length s) where
    pub again_tells : length s ≤ e * p + p → ltb p (length s) ≡ repeated s
    again_tells l = go (scan_grown c stopped)
      where
        go : (stopped.size ≡ p) ⊎ (j < r + stopped.size) → ltb p (length s) ≡ repeated s
        go (inl q) = ap (λ u. ltb u (length s)) (sym q) ∙ tells
        go (inr k) = absurd (omega (arith, factor_whole s stopped.scan stopped.stops n))

    pub again_not : e * p + p < length s → repeated s ≡ false
    again_not l = none (go (scan_grown c stopped))
      where
        between : (k : ℕ) → r < p → length s ≡ k * p → (k ≤ e + 1) ⊎ (e + 1 < k) → ⊥
        between k a b (inl f) = omega (arith, mul-le-mul_right p f)
        between k a b (inr f) = omega (arith, mul-le-mul_right {m = e + 2} {n = k} p (omega arith))

        go : (stopped.size ≡ p) ⊎ (j < r + stopped.size) → stopped.size < length s → ⊥
        go (inl q) short =
            let d = factor_divides s stopped.scan stopped.stops n short in
            between d.1.0 (omega (arith, d.0, q)) (d.1.1 ∙ ap (λ u. d.1.0 * u) q) (le_or_lt d.1.0 (e + 1))
        go (inr k) short = not_short (omega arith) short
