-- Section 8: the groups of s ++ s show the least start r = least_rotation s. A pass over them by Duval's scan keeps i ≤ r: a group that ends
-- before length s ends at r or before (`rotation_next`), and the first that does not starts at r (`rotation_group`).
use mathlib.Core.List.{List, [], ◌∷◌, ◌++◌}
use mathlib.Core.Logic.{◌⊎◌, inl, inr}
use mathlib.Core.Path.{◌≡◌, sym, ap, ◌∙◌}
use Prim.Native.Nat.{ℕ, zero, suc, ◌+◌, ◌*◌, ◌-◌, ◌/◌, ◌≤◌, ◌<◌}
use native.Mathlib.Nat.{div-mul-le_self, lt-div-mul-add}
use native.Mathlib.Omega.{arith}
use lib.ListN.{length, take, drop, get_or, length-append, length-take, length-drop, take-append-drop}
use lib.Seq.{drop-append-le, drop-drop}
use Rattle.words.specs.Order.{Less, Lyndon}
use Rattle.words.specs.Factors.{factors, Group, groups_from}
use Rattle.words.specs.Tables.{groups}
use Rattle.words.specs.Rotation.{rotation, least_rotation}
use Rattle.words.proofs.Bounded.{le_or_lt, le_cases}
use Rattle.words.proofs.Order.{less_irrefl, less_trans, less_differ, differ_less, differ_append}
use Rattle.words.proofs.Scan.{Scan, Stops, scan_again, scan_stops, scan_group}
use Rattle.words.proofs.Rotation.{least_rotation_within, least_start_within, least_rotation_first, again, rotation_again, least_start_before, least_start_low}

-- the least start is not inside a Lyndon substring
least_start_not_inside : (s : List ℕ) (i p : ℕ) → i + p ≤ length (s ++ s) → Lyndon (take p (drop i (s ++ s))) → i < least_rotation s
    → i + p ≤ least_rotation s
least_start_not_inside s i p fits word h = go (le_or_lt (i + p) (least_rotation s))
  where
    x : List ℕ
    x = take p (drop i (s ++ s))

    z : List ℕ
    z = drop p (drop i (s ++ s))

    size : length x ≡ p
    size = omega (arith, length-take p (drop i (s ++ s)), length-drop i (s ++ s), fits)

    inside : (k : ℕ) → i + k ≡ least_rotation s → k < p → ⊥
    inside k e l =
        let d = less_differ x (drop k x) (omega (arith, length-drop k x)) (word.least k (omega arith) (omega (arith, size))) in
        let a : x ++ z ≡ drop i (s ++ s) = take-append-drop p (drop i (s ++ s)) in
        let b : drop k x ++ z ≡ drop (least_rotation s) (s ++ s) =
        sym (drop-append-le k x z (omega (arith, size))) ∙ ap (λ u. drop k u) a ∙ drop-drop k i (s ++ s) ∙ ap (λ m. drop m (s ++ s)) e in
        let low : Less (drop i (s ++ s)) (drop (least_rotation s) (s ++ s)) =
        rw (a, b) at (differ_less (x ++ z) (drop k x ++ z) (differ_append x (drop k x) z z d)) in
        less_irrefl (drop i (s ++ s)) (less_trans (drop i (s ++ s)) (drop (least_rotation s) (s ++ s)) (drop i (s ++ s)) low (least_start_before s i h))

    go : (i + p ≤ least_rotation s) ⊎ (least_rotation s < i + p) → i + p ≤ least_rotation s
    go (inl l) = l
    go (inr l) = absurd (inside (least_rotation s - i) (omega (arith, h)) (omega (arith, h)))

-- M3: a scan from the least start stops at the end of s ++ s
pub least_start_scan : (s : List ℕ) {j p : ℕ} → Scan (s ++ s) (least_rotation s) j p → Stops (s ++ s) j p → j ≡ length s + length s
least_start_scan s {j} {p} c stops = go (le_or_lt (length s + length s) j)
  where
    r : ℕ
    r = least_rotation s

    size : length (s ++ s) ≡ length s + length s
    size = length-append s s

    early : (k : ℕ) → k + p ≡ j → j < length s + length s → get_or (s ++ s) j 0 < get_or (s ++ s) k 0 → (r + length s ≤ k) ⊎ (k < r + length s) → ⊥
    early k e l low (inl h) =
        let i = k - length s in
        let x : length s + (i + p) ≡ j = omega arith in
        let y : length s + i ≡ k = omega arith in
        let u : get_or (s ++ s) j 0 ≡ get_or (s ++ s) (i + p) 0 = sym (ap (λ v. get_or (s ++ s) v 0) x) ∙ again s (i + p) (omega arith) in
        let v : get_or (s ++ s) k 0 ≡ get_or (s ++ s) i 0 = sym (ap (λ v. get_or (s ++ s) v 0) y) ∙ again s i (omega arith) in
        omega (arith, u, v, low, c.period i (omega arith) (omega (arith, c.some)))
    early k e l low (inr h) =
        let m = k - r in
        let x : r + p + m ≡ j = omega (arith, c.fits) in
        let y : r + m ≡ k = omega (arith, c.fits) in
        let same : (d : ℕ) → d < m → get_or (s ++ s) (r + p + d) 0 ≡ get_or (s ++ s) (r + d) 0 =
        λ d u. let z : r + p + d ≡ r + d + p = omega arith in
        ap (λ v. get_or (s ++ s) v 0) z ∙ c.period (r + d) (omega arith) (omega arith) in
        let u = ap (λ v. get_or (s ++ s) v 0) x in
        let v = ap (λ v. get_or (s ++ s) v 0) y in
        least_start_low s (r + p) m (omega (arith, c.fits)) (omega arith) (same, omega (arith, u, v, low))

    go : (length s + length s ≤ j) ⊎ (j < length s + length s) → j ≡ length s + length s
    go (inl h) = omega (arith, c.ends, size)
    go (inr h) =
        let e : j - p + p ≡ j = omega (arith, c.fits) in
        absurd (early (j - p) e h (stops (j - p) e (omega (arith, size))) (le_or_lt (r + length s) (j - p)))

-- M4: a scan that starts one word before the least start does not come so far
least_start_not_second : (s : List ℕ) {i p : ℕ} → Scan (s ++ s) i (length s + length s) p → i + p ≡ least_rotation s → ⊥
least_start_not_second s {i} {p} c e = less_irrefl (rotation s r) (rw same at (least_rotation_first s i before))
  where
    r : ℕ
    r = least_rotation s

    before : i < r
    before = omega (arith, c.some)

    w : r < length s
    w = least_start_within s i before

    same : rotation s i ≡ rotation s r
    same = rw e at (rotation_again s i p (omega (arith, w)) (λ m h. c.period (i + m) (omega arith) (omega (arith, w))))

-- a group that starts before the least start ends at it or before
group_before : (s : List ℕ) (e i : ℕ) {j p : ℕ} → i < least_rotation s → Scan (s ++ s) i j p → Stops (s ++ s) j p → i + e * p ≤ j
    → i + e * p ≤ least_rotation s
group_before s zero i h c stops l = omega arith
group_before s (suc zero) i {j} {p} h c stops l =
    let m = least_start_not_inside s i p (omega (arith, c.fits, c.ends)) c.word h in
    omega arith
group_before s (suc (suc e)) i {j} {p} h c stops l =
    go (le_cases (least_start_not_inside s i p (omega (arith, c.fits, c.ends)) c.word h))
    (λ k. group_before s (suc e) (i + p) k next stops (omega arith))
  where
    next : Scan (s ++ s) (i + p) j p
    next = scan_again c (omega arith)

    go : (i + p ≡ least_rotation s) ⊎ (i + p < least_rotation s) → (i + p < least_rotation s → i + p + suc e * p ≤ least_rotation s)
        → i + suc (suc e) * p ≤ least_rotation s
    go (inl q) ih = absurd (least_start_not_second s (rw (least_start_scan s (rw q at next) stops) at c) q)
    go (inr k) ih = let m = ih k in omega arith

-- the one at the least start ends at length s or after
group_at_lem : (s : List ℕ) (e : ℕ) {j p : ℕ} → Scan (s ++ s) (least_rotation s) j p → Stops (s ++ s) j p → j < least_rotation s + e * p + p
    → length s ≤ least_rotation s + e * p
group_at_lem s zero c stops l = absurd (omega (arith, c.fits))
group_at_lem s (suc e) c stops l = let m = least_start_scan s c stops in omega arith

-- A pass over the groups of s ++ s, from the left: e words of length p from i on are the group at i. While it ends before length s the
-- least start is not passed, and the first that does not end there starts at the least start.
pub rotation_next : (s : List ℕ) {i j p : ℕ} → i ≤ least_rotation s → Scan (s ++ s) i j p → Stops (s ++ s) j p → (e : ℕ) → i + e * p ≤ j
    → j < i + e * p + p → i + e * p < length s → i + e * p ≤ least_rotation s
rotation_next s {i} {j} {p} h c stops e a b l = go (le_cases h)
  where
    go : (i ≡ least_rotation s) ⊎ (i < least_rotation s) → i + e * p ≤ least_rotation s
    go (inl q) = absurd (let m = group_at_lem s e (rw q at c) stops (omega arith) in omega arith)
    go (inr k) = group_before s e i k c stops a

pub rotation_group : (s : List ℕ) {i j p : ℕ} → i ≤ least_rotation s → Scan (s ++ s) i j p → Stops (s ++ s) j p → (e : ℕ) → i + e * p ≤ j
    → length s ≤ i + e * p → least_rotation s ≡ i
rotation_group s {i} {j} {p} h c stops e a l = go (le_cases h)
  where
    go : (i ≡ least_rotation s) ⊎ (i < least_rotation s) → least_rotation s ≡ i
    go (inl q) = sym q
    go (inr k) = absurd (let m = group_before s e i k c stops a in omega (arith, m, l, least_start_within s i k))

abbrev group_at : ℕ → ℕ → ℕ → Group
group_at i p e = record { start = i; size = p; power = e }

-- one scan, and the group that it gives
record GroupScan (s : List ℕ) (i : ℕ) : Type 0 where
  pub stop : ℕ
  pub size : ℕ
  pub power : ℕ
  pub scan : Scan s i stop size
  pub stops : Stops s stop size
  pub whole : i + power * size ≤ stop
  pub last : stop < i + power * size + size
  pub group : groups_from i (factors (drop i s)) ≡ group_at i size power ∷ groups_from (i + power * size) (factors (drop (i + power * size) s))

least_start_group : (s : List ℕ) (i : ℕ) → 0 < length s → i ≤ least_rotation s → GroupScan (s ++ s) i
least_start_group s i n h =
    let c = scan_stops (s ++ s) i (omega (arith, least_rotation_within s n, length-append s s)) in
    let e = (c.stop - i) / c.size in
    let a : i + e * c.size ≤ c.stop = omega (arith, div-mul-le_self (c.stop - i) c.size, c.scan.fits) in
    let b : c.stop < i + e * c.size + c.size = omega (arith, lt-div-mul-add {a = c.stop - i} c.scan.some, c.scan.fits) in
    record {
      stop = c.stop;
      size = c.size;
      power = e;
      scan = c.scan;
      stops = c.stops;
      whole = a;
      last = b;
      group = scan_group c.scan c.stops e a b;
    }

abbrev pub group_end : Group → ℕ
group_end g = g.start + g.power * g.size

abbrev pub EndBefore : ℕ → List Group → Type 0
EndBefore n [] = Unit {0}
EndBefore n (g ∷ gs) = (group_end g < n) × EndBefore n gs

-- g is the first of the groups that ends at n or after
pub record FirstOver (n : ℕ) (gs : List Group) (g : Group) : Type 0 where
  pub before : List Group
  pub after : List Group
  pub parts : gs ≡ before ++ g ∷ after
  pub early : EndBefore n before
  pub over : n ≤ group_end g

first_over : (s : List ℕ) → 0 < length s → (i : ℕ) (g : Group) (before after : List Group) → i ≤ least_rotation s
    → groups_from i (factors (drop i (s ++ s))) ≡ before ++ g ∷ after → EndBefore (length s) before → length s ≤ group_end g → least_rotation s ≡ g.start
first_over s n i g [] after h e early over =
    let c = least_start_group s i n h in
    let q = sym c.group ∙ e in
    let x : group_at i c.size c.power ≡ g = cc in
    rotation_group s h c.scan c.stops c.power c.whole (rw (← x) at over) ∙ ap (λ u. u.start) x
first_over s n i g (f ∷ before) after h e early over =
    let c = least_start_group s i n h in
    let q = sym c.group ∙ e in
    let x : group_at i c.size c.power ≡ f = cc in
    let k = rotation_next s h c.scan c.stops c.power c.whole c.last (rw (← x) at early.0) in
    first_over s n (i + c.power * c.size) g before after k (cc) early.1 over

pub least_rotation_group : (s : List ℕ) (g : Group) → 0 < length s → FirstOver (length s) (groups (s ++ s)) g → least_rotation s ≡ g.start
unfolding groups
least_rotation_group s g n f = first_over s n 0 g f.before f.after (omega arith) f.parts f.early f.over

-- and there is such a group
over_found : (s : List ℕ) → 0 < length s → (m i : ℕ) → length s ≤ i + m → i ≤ least_rotation s
    → (g : Group) × FirstOver (length s) (groups_from i (factors (drop i (s ++ s)))) g
over_found s n zero i l h = absurd (omega (arith, l, h, least_rotation_within s n))
over_found s n (suc m) i l h = go (least_start_group s i n h) (λ k a b. over_found s n m k a b)
  where
    go : GroupScan (s ++ s) i
        → ((k : ℕ) → length s ≤ k + m → k ≤ least_rotation s → (g : Group) × FirstOver (length s) (groups_from k (factors (drop k (s ++ s)))) g)
        → (g : Group) × FirstOver (length s) (groups_from i (factors (drop i (s ++ s)))) g
    go c ih = at (le_or_lt (length s) (i + c.power * c.size))
      where
        at : (length s ≤ i + c.power * c.size) ⊎ (i + c.power * c.size < length s)
            → (g : Group) × FirstOver (length s) (groups_from i (factors (drop i (s ++ s)))) g
        at (inl k) =
            (group_at i c.size c.power, record { before = []; after = _; parts = c.group; early = tt; over = k })
        at (inr k) =
            let (g, f) = ih (i + c.power * c.size) (omega (arith, l, c.scan.fits, c.last))
            (rotation_next s h c.scan c.stops c.power c.whole c.last k) in (
              g,
              record {
                before = group_at i c.size c.power ∷ f.before;
                after = f.after;
                parts = c.group ∙ ap {B = List Group} (λ r. group_at i c.size c.power ∷ r) f.parts;
                early = (k, f.early);
                over = f.over;
              },
            )

pub least_rotation_found : (s : List ℕ) → 0 < length s → (g : Group) × FirstOver (length s) (groups (s ++ s)) g
unfolding groups
least_rotation_found s n = over_found s n (length s) 0 (omega arith) (omega arith)
