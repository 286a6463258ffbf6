-- A pattern s that is not empty is a shorter word repeated exactly when the first factor of s ++ s from the least start r on is shorter than
-- s; if it is not, that factor is the rotation at r, and r is the only start of a least rotation.
use mathlib.Core.Bool.{false}
use mathlib.Core.List.{List, ◌++◌}
use mathlib.Core.Logic.{◌⊎◌, inl, inr, ◌↔◌}
use mathlib.Core.Path.{◌≡◌, refl, sym, ap, ◌∙◌}
use Prim.Native.Nat.{ℕ, zero, suc, ◌+◌, ◌*◌, ◌-◌, ◌/◌, ◌%◌, ◌≤◌, ◌<◌}
use native.Mathlib.Nat.{div-add-mod', mod-lt, mul-le-mul_right}
use native.Mathlib.Omega.{arith}
use lib.Dec.{ltb}
use lib.ListN.{length, take, drop, get_or, length-append, get_or-append}
use borrow.Author.Tests.{ltb-false, lt-ltb, le-ltb}
use Rattle.words.specs.Order.{Less, Lyndon}
use Rattle.words.specs.Rotation.{rotation, least_rotation, UniqueLeast, Repeated, repeated}
use Rattle.words.proofs.Bounded.{le_or_lt}
use Rattle.words.proofs.Order.{ThreeN, smaller_n, equal_n, greater_n, three_n, less_irrefl}
use Rattle.words.proofs.Below.{Below, below_period, lyndon_below}
use Rattle.words.proofs.Scan.{Scan, Stops, scan_times, scan_stops}
use Rattle.words.proofs.Rotation.{least_rotation_within, least_rotation_least, least_rotation_first, again, rotation_again, rotation_below, least_start_low}
use Rattle.words.proofs.RotationGroups.{least_start_scan}
use Rattle.words.proofs.Repeated.{Period, period_repeat, repeated_front, repeated_length, repeated_some, repeated_period, true_repeated, false_repeated}

-- M1: a Lyndon substring is at most as long as a period
lyndon_period : (t : List ℕ) (i p d : ℕ) → 0 < d → Period t d → i + p ≤ length t → Lyndon (take p (drop i t)) → p ≤ d
lyndon_period t i p d some h fits word = go (le_or_lt p d)
  where
    go : (p ≤ d) ⊎ (d < p) → p ≤ d
    go (inl l) = l
    go (inr l) = absurd (below_period d refl (λ k a b. h k (omega arith)) (lyndon_below t i p fits word (i + d) (omega arith) (omega arith)))

-- what begins at q is below the word of length p at r, first at `place`
record Lower (t : List ℕ) (q r p : ℕ) : Type 0 where
  place : ℕ
  inside : place < p
  same : (d : ℕ) → d < place → get_or t (q + d) 0 ≡ get_or t (r + d) 0
  low : get_or t (q + place) 0 < get_or t (r + place) 0

-- where the word is below its suffix from m on, so is what begins with m of its symbols and then shows its first ones again
rest_low : {t : List ℕ} {r p : ℕ} (m q : ℕ) → ((d : ℕ) → d < m → get_or t (q + d) 0 ≡ get_or t (r + d) 0)
    → ((d : ℕ) → m ≤ d → d < p → get_or t (q + d) 0 ≡ get_or t (r + (d - m)) 0) → Below t r (r + m) (r + p) → Lower t q r p
rest_low {t} {r} {p} m q front back b =
    let k : ℕ = b.right - r in
    let x : r + (k - m) ≡ b.left = omega arith in
    let y : r + k ≡ b.right = omega arith in
    record {
      place = k;
      inside = omega arith;
      same = λ d l. go d l (le_or_lt m d);
      low = omega (arith, b.less, back k (omega arith) (omega arith), ap (λ u. get_or t u 0) x, ap (λ u. get_or t u 0) y);
    }
  where
    go : (d : ℕ) → d < b.right - r → (m ≤ d) ⊎ (d < m) → get_or t (q + d) 0 ≡ get_or t (r + d) 0
    go d l (inl h) = back d h (omega arith) ∙ b.before (r + (d - m)) (r + d) (omega arith) (omega arith) (omega arith)
    go d l (inr h) = front d h

-- the rotation at r is below the one at k where the doubled pattern shows a difference inside it
rotation_differs : (s : List ℕ) {r k n : ℕ} → r < k → k < length s → n ≤ r + length s → Below (s ++ s) r k n → Less (rotation s r) (rotation s k)
rotation_differs s {r} {k} {n} l h e b =
    let m : ℕ = b.left - r in
    let x : r + m ≡ b.left = omega arith in
    let y : k + m ≡ b.right = omega arith in
    rotation_below s r k m (omega arith) (omega arith) (omega arith) (
      λ d u. b.before (r + d) (k + d) (omega arith) (omega arith) (omega arith),
      omega (arith, b.less, ap (λ u. get_or (s ++ s) u 0) x, ap (λ u. get_or (s ++ s) u 0) y),
    )

-- the first factor from the least start on has the length p
module _ (s : List ℕ) {j p : ℕ} (c : Scan (s ++ s) (least_rotation s) j p) (stops : Stops (s ++ s) j p) (n : 0 < length s) where
  abbrev r : ℕ
  r = least_rotation s

  size : length (s ++ s) ≡ length s + length s
  size = length-append s s

  within : r < length s
  within = least_rotation_within s n

  end : j ≡ length s + length s
  end = least_start_scan s c stops

  pub factor_whole : p ≤ length s
  factor_whole =
      lyndon_period (s ++ s) r p (length s) n
      (λ i l. let e : i + length s ≡ length s + i = omega arith in ap (λ u. get_or (s ++ s) u 0) e ∙ again s i (omega (arith, l, size)))
      (omega (arith, c.fits, c.ends)) c.word

  factor_shorter : Repeated s → p < length s
  factor_shorter h =
      let l = lyndon_period (s ++ s) r p (length h.word) (repeated_some h) (repeated_period h) (omega (arith, c.fits, c.ends)) c.word in
      omega (arith, h.shorter)

  module _ (short : p < length s) where
    abbrev e : ℕ
    e = length s / p

    abbrev m : ℕ
    m = length s % p

    parts : e * p + m ≡ length s
    parts = div-add-mod' (length s) p

    -- a rest of m symbols would make the rotation that starts with it smaller than the least one
    rest_smaller : 0 < m → m < p → (q : ℕ) → q + p ≤ length s + length s
        → ((d : ℕ) → d < m → get_or (s ++ s) (q + d) 0 ≡ get_or (s ++ s) (r + d) 0)
        → ((d : ℕ) → m ≤ d → d < p → get_or (s ++ s) (q + d) 0 ≡ get_or (s ++ s) (r + (d - m)) 0) → ⊥
    rest_smaller some below q fits front back =
        at (rest_low m q front back (lyndon_below (s ++ s) r p (omega (arith, c.fits, c.ends)) c.word (r + m) (omega arith) (omega arith)))
      where
        at : Lower (s ++ s) q r p → ⊥
        at d = least_start_low s q d.place (omega (arith, d.inside)) (omega (arith, d.inside)) (d.same, d.low)

    divides : (m ≤ 0) ⊎ (0 < m) → length s ≡ e * p
    divides (inl z) = omega (arith, parts)
    divides (inr some) = absurd (at (le_or_lt m r))
      where
        below : m < p
        below = mod-lt (length s) c.some

        at : (m ≤ r) ⊎ (r < m) → ⊥
        at (inl h) =
            rest_smaller some below (r - m) (omega (arith, within))
            (λ d l.
            let a : length s + (r - m + d) ≡ r + d + e * p = omega (arith, parts) in
            sym (again s (r - m + d) (omega (arith, within))) ∙ ap (λ u. get_or (s ++ s) u 0) a
            ∙ scan_times c e (r + d) (omega arith) (omega (arith, parts, within, end)))
            (λ d l k. ap (λ u. get_or (s ++ s) u 0) {x = r - m + d} {y = r + (d - m)} (omega arith))
        at (inr h) =
            rest_smaller some below (r + e * p) (omega (arith, parts))
            (λ d l.
            let a : r + e * p + d ≡ r + d + e * p = omega arith in
            ap (λ u. get_or (s ++ s) u 0) a ∙ scan_times c e (r + d) (omega arith) (omega (arith, parts, within, end)))
            (λ d l k.
            let a : r + e * p + d ≡ length s + (r + (d - m)) = omega (arith, parts) in
            ap (λ u. get_or (s ++ s) u 0) a ∙ again s (r + (d - m)) (omega arith))

    -- the period p goes through the whole of s, since it goes through the second copy
    whole_period : Period s p
    whole_period i l =
        let a : length s + (i + p) ≡ length s + i + p = omega arith in
        sym (get_or-append s s 0 (i + p) l) ∙ sym (again s (i + p) l) ∙ ap (λ u. get_or (s ++ s) u 0) a
        ∙ c.period (length s + i) (omega (arith, within)) (omega (arith, end))
        ∙ again s i (omega arith) ∙ get_or-append s s 0 i (omega arith)

    shorter_repeats : Repeated s
    shorter_repeats =
        let d = divides (le_or_lt m 0) in
        repeated_front s e p short d (period_repeat e p s d whole_period)

    -- the rotation one factor earlier is the same, so the least start has no room for one before it
    start_early : (k : ℕ) → length s ≡ suc k * p → (p ≤ r) ⊎ (r < p) → r < p
    start_early k d (inr l) = l
    start_early k d (inl l) =
        let a : r - p + p ≡ r = omega arith in
        let earlier = rotation_again s (r - p) p (omega (arith, within)) (λ x u. at x u (le_or_lt p x)) in
        absurd (less_irrefl (rotation s r) (rw (rw a at earlier) at (least_rotation_first s (r - p) (omega (arith, c.some)))))
      where
        at : (x : ℕ) → x < length s → (p ≤ x) ⊎ (x < p) → get_or (s ++ s) (r - p + x + p) 0 ≡ get_or (s ++ s) (r - p + x) 0
        at x u (inl h) = c.period (r - p + x) (omega arith) (omega (arith, end, within))
        at x u (inr h) =
            let a : r - p + x + p ≡ r + x = omega arith in
            let b : r + x + k * p ≡ length s + (r - p + x) = omega arith in
            ap (λ u. get_or (s ++ s) u 0) a ∙ sym (scan_times c k (r + x) (omega arith) (omega (arith, end, within)))
            ∙ ap (λ u. get_or (s ++ s) u 0) b ∙ again s (r - p + x) (omega (arith, within))

    -- a shorter factor divides the pattern, and the least start is inside the first
    pub factor_divides : (r < p) × ((k : ℕ) × (length s ≡ k * p))
    factor_divides = go e (divides (le_or_lt m 0))
      where
        go : (k : ℕ) → length s ≡ k * p → (r < p) × ((k : ℕ) × (length s ≡ k * p))
        go zero d = absurd (omega arith)
        go (suc k) d = (start_early k d (le_or_lt p r), (suc k, d))

  pub factor_tells : ltb p (length s) ≡ repeated s
  factor_tells = go (le_or_lt (length s) p)
    where
      go : (length s ≤ p) ⊎ (p < length s) → ltb p (length s) ≡ repeated s
      go (inl l) = le-ltb p (length s) l ∙ sym (false_repeated s (λ h. let k = factor_shorter h in omega arith))
      go (inr l) = lt-ltb p (length s) l ∙ sym (true_repeated s (shorter_repeats l))

  -- where the factor is the whole rotation, each rotation that starts later is greater
  later_greater : p ≡ length s → (k : ℕ) → r < k → k < length s → Less (rotation s r) (rotation s k)
  later_greater f k l h =
      rotation_differs s l h (omega arith) (lyndon_below (s ++ s) r p (omega (arith, c.fits, c.ends)) c.word k l (omega arith))

  not_repeated_unique : repeated s ≡ false → UniqueLeast s (least_rotation s)
  not_repeated_unique q = record { within = within; others = λ k l d. go k l d (three_n k r) }
    where
      whole : p ≡ length s
      whole = omega (arith, factor_whole, ltb-false p (length s) (factor_tells ∙ q))

      go : (k : ℕ) → k < length s → ¬ (k ≡ r) → ThreeN k r → Less (rotation s r) (rotation s k)
      go k l d (smaller_n h) = least_rotation_first s k h
      go k l d (equal_n f) = absurd (d f)
      go k l d (greater_n h) = later_greater whole k h l

-- the rotations of a repeated word come again after its word's length
repeated_again : {s : List ℕ} (h : Repeated s) (k : ℕ) → k + length h.word < length s → rotation s k ≡ rotation s (k + length h.word)
repeated_again {s} h k l = rotation_again s k (length h.word) (omega arith) (λ m u. repeated_period h (k + m) (omega (arith, length-append s s)))

unique_not_repeated : {s : List ℕ} {r : ℕ} → UniqueLeast s r → Repeated s → ⊥
unique_not_repeated {s} {r} u h = go (le_or_lt d r)
  where
    d : ℕ
    d = length h.word

    go : (d ≤ r) ⊎ (r < d) → ⊥
    go (inl l) =
        let e : r - d + d ≡ r = omega arith in
        let same = repeated_again h (r - d) (omega (arith, u.within)) in
        less_irrefl (rotation s r) (rw (rw e at same) at (u.others (r - d) (omega (arith, u.within)) (λ q. omega (arith, repeated_some h))))
    go (inr l) =
        let fits : r + d < length s = omega (arith, repeated_length h, mul-le-mul_right d h.twice) in
        let same = repeated_again h r fits in
        less_irrefl (rotation s r) (rw (sym same) at (u.others (r + d) fits (λ q. omega (arith, repeated_some h))))

-- such a place is the smallest start of a least rotation
unique_start : {s : List ℕ} {r : ℕ} → UniqueLeast s r → r ≡ least_rotation s
unique_start {s} {r} u = go (three_n (least_rotation s) r)
  where
    other : ¬ (least_rotation s ≡ r) → ⊥
    other d = least_rotation_least s r u.within (u.others (least_rotation s) (least_rotation_within s (omega (arith, u.within))) d)

    go : ThreeN (least_rotation s) r → r ≡ least_rotation s
    go (smaller_n h) = absurd (other (λ e. omega arith))
    go (equal_n e) = sym e
    go (greater_n h) = absurd (other (λ e. omega arith))

-- the least rotation starts at one place alone exactly when the pattern is not empty and no shorter word repeated
pub unique_least : (s : List ℕ) (r : ℕ) → UniqueLeast s r ↔ ((0 < length s) × (repeated s ≡ false) × (r ≡ least_rotation s))
unique_least s r =
    (λ u. (omega (arith, u.within), false_repeated s (unique_not_repeated u), unique_start u), λ h. rw h.2 (unique h.0 h.1))
  where
    unique : 0 < length s → repeated s ≡ false → UniqueLeast s (least_rotation s)
    unique n q =
        let c = scan_stops (s ++ s) (least_rotation s) (omega (arith, least_rotation_within s n, length-append s s)) in
        not_repeated_unique s c.scan c.stops n q
