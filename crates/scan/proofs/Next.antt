-- The group that a stopped scan gives: all whole words between its start and its stop.
use mathlib.Core.List.{List, [], ◌∷◌, ◌++◌}
use mathlib.Core.Path.{◌≡◌, refl, sym, ap, ◌∙◌}
use Prim.Native.Nat.{ℕ, zero, suc, ◌+◌, ◌-◌, ◌*◌, ◌/◌, ◌%◌, ◌≤◌, ◌<◌}
use native.Mathlib.Nat.{div-add-mod', mod-lt, le-div_iff_mul-le, div-mul-le_self, lt-div-mul-add, mul-pos}
use native.Mathlib.Omega.{arith}
use lib.ListN.{length, take, drop, get_or, replicate, drop_of_length-le, length-drop}
use Rattle.words.specs.Factors.{factors, Group}
use Rattle.words.specs.Tables.{groups, suffix_groups}
use Rattle.scan.specs.Group.{NextGroup}
use Rattle.words.proofs.Groups.{groups_few}
use Rattle.words.proofs.Scan.{Scan, Stops, scan_same, scan_up, scan_stops, scan_first, scan_again, scan_shift, scan_group}

pub groups_start : (s : List ℕ) → groups s ≡ suffix_groups s 0
unfolding groups suffix_groups
groups_start s = refl

pub suffix_end : (s : List ℕ) (i : ℕ) → length s ≤ i → suffix_groups s i ≡ []
unfolding suffix_groups factors
suffix_end s i h = rw (drop_of_length-le s h)

-- a suffix has no more groups than the pattern has symbols
pub suffix_few : (s : List ℕ) (i : ℕ) → length (suffix_groups s i) ≤ length s
unfolding suffix_groups
suffix_few s i = omega (arith, groups_few i (drop i s), length-drop i s)

pub next_group : {s : List ℕ} {i j p : ℕ} → Scan s i j p → Stops s j p → NextGroup s i p ((j - i) / p)
unfolding suffix_groups
next_group {s} {i} {j} {p} c h =
    let e : (j - i) / p * p + (j - i) % p ≡ j - i = div-add-mod' (j - i) p in
    let l : (j - i) % p < p = mod-lt (j - i) c.some in
    let a : i + (j - i) / p * p ≤ j = omega arith in
    let b : j < i + (j - i) / p * p + p = omega arith in
    record {
      factor = c.some;
      some = (le-div_iff_mul-le c.some).1 (omega arith);
      fits = omega arith;
      group = scan_group c h ((j - i) / p) a b;
    }

module _ {s : List ℕ} {i j p : ℕ} (c : Scan s i j p) where
  pub turn_same : j < length s → get_or s (j - p) 0 ≡ get_or s j 0 → Scan s i (j + 1) p
  turn_same l q = scan_same c (j - p) (omega arith) l (sym q)

  pub turn_up : j < length s → get_or s (j - p) 0 < get_or s j 0 → Scan s i (j + 1) (j + 1 - i)
  turn_up l q = scan_up c (j - p) (j + 1 - i) (omega arith) (omega arith) l q

  pub stop_smaller : get_or s j 0 < get_or s (j - p) 0 → Stops s j p
  stop_smaller q k e l =
      let f : k ≡ j - p = omega arith in
      rw f q

  pub stop_end : length s ≤ j → Stops s j p
  stop_end h k e l = absurd (omega arith)

pub group_long : {s : List ℕ} {i size power : ℕ} → NextGroup s i size power → i < i + power * size
group_long g = omega (arith, mul-pos g.some g.factor)

-- two symbols that differ, the other way round
pub turned : {x y : ℕ} → (x ≡ y → ⊥) → y ≡ x → ⊥
turned n e = n (sym e)

-- the scan that gives the group
pub record GroupScan (s : List ℕ) (i size power : ℕ) : Type 0 where
  pub stop : ℕ
  pub scan : Scan s i stop size
  pub stops : Stops s stop size
  pub whole : i + power * size ≤ stop
  pub last : stop < i + power * size + size

pub group_scan : {s : List ℕ} {i size power : ℕ} → NextGroup s i size power → GroupScan s i size power
unfolding suffix_groups
group_scan {s} {i} {size} {power} g =
    let c = scan_stops s i (omega (arith, group_long g)) in
    let e = (c.stop - i) / c.size in
    let a : i + e * c.size ≤ c.stop = omega (arith, div-mul-le_self (c.stop - i) c.size, c.scan.fits) in
    let b : c.stop < i + e * c.size + c.size = omega (arith, lt-div-mul-add {a = c.stop - i} c.scan.some, c.scan.fits) in
    let q = sym (scan_group c.scan c.stops e a b) ∙ g.group in
    let x : ◌≡◌ {A = Group} (record { start = i; size = c.size; power = e }) (record { start = i; size = size; power = power }) = cc in
    let y : c.size ≡ size = ap (λ u. u.size) x in
    let z : e ≡ power = ap (λ u. u.power) x in
    record {
      stop = c.stop;
      scan = rw y at c.scan;
      stops = rw y at c.stops;
      whole = rw (z, y) at a;
      last = rw (z, y) at b;
    }

-- the factors that the group packs
words_of : {s : List ℕ} {j p : ℕ} (i e : ℕ) → Scan s i j p → Stops s j p → i + suc e * p ≤ j
    → factors (drop i s) ≡ replicate (suc e) (take p (drop i s)) ++ factors (drop (i + suc e * p) s)
words_of {s} {j} {p} i zero c h l =
    let q : i + 1 * p ≡ i + p = omega arith in
    rw q (scan_first c h)
words_of {s} {j} {p} i (suc e) c h l =
    let q : i + suc (suc e) * p ≡ i + p + suc e * p = omega arith in
    let r = words_of (i + p) e (scan_again c (omega arith)) h (omega arith) in
    let w : take p (drop (i + p) s) ≡ take p (drop i s) = scan_shift c i p (omega arith) (omega arith) in
    scan_first c h ∙ ap (λ fs. take p (drop i s) ∷ fs) (rw (w, ← q) at r)

pub next_words : {s : List ℕ} {i size power : ℕ} → NextGroup s i size power
    → factors (drop i s) ≡ replicate power (take size (drop i s)) ++ factors (drop (i + power * size) s)
next_words {s} {i} {size} {power} g = go power g.some (group_scan g)
  where
    go : (e : ℕ) → 0 < e → GroupScan s i size e → factors (drop i s) ≡ replicate e (take size (drop i s)) ++ factors (drop (i + e * size) s)
    go zero n c = absurd (omega arith)
    go (suc e) n c = words_of i e c.scan c.stops c.whole
