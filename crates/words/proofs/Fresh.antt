-- Section 6: the binary digits of a number, and how many groups a prefix of a Lyndon word has. B1 is `prefix_whole` with `prefix_rest`,
-- B2 is `fresh_groups`; `front_fresh` is B2 as an edit needs it.
use mathlib.Core.List.{List, [], ◌∷◌, ◌++◌, append_assoc}
use mathlib.Core.Logic.{◌⊎◌, inl, inr}
use mathlib.Core.Path.{◌≡◌, refl, sym, ap, ◌∙◌}
use Prim.Native.Nat.{ℕ, zero, suc, ◌+◌, ◌-◌, ◌*◌, ◌/◌, ◌^◌, ◌≤◌, ◌<◌}
use native.Mathlib.Nat.{zero-add, div-add-mod', mod-lt}
use native.Mathlib.Omega.{arith}
use lib.Dec.{ltb}
use lib.ListN.{length, take, drop, get_or, length-append, take-append-drop, length-take, length-drop, get_or-append}
use lib.Seq.{ext_get_or, get_or-take, get_or-drop}
use borrow.Author.Tests.{ltb-true, lt-ltb}
use Rattle.words.specs.Order.{Lyndon}
use Rattle.words.specs.Factors.{join, factors, groups_from, start_at}
use Rattle.words.specs.Edit.{bits}
use Rattle.words.proofs.Bounded.{le_cases, smallest_le, smallest_passes, smallest_most}
use Rattle.words.proofs.Order.{differ_less, less_irrefl, less_trans}
use Rattle.words.proofs.Lyndon.{Cut, long, short, cut}
use Rattle.words.proofs.Factors.{Falling, falling_right, factors_falling}
use Rattle.words.proofs.Groups.{groups_place, groups_few}
use Rattle.words.proofs.Below.{first_differ}
use Rattle.words.proofs.Scan.{Scan, Stops, Stopped, scan_stops, scan_group, scan_times}
use Rattle.words.proofs.EditParts.{ending_by, ending_before, ending_over, rest_cut}

below_power : (m : ℕ) → m < 2 ^ m
below_power zero = omega arith
below_power (suc m) = omega (arith, below_power m)

pub bits_below : (m : ℕ) → m < 2 ^ bits m
unfolding bits
bits_below m = go (le_cases (smallest_le (λ d. ltb m (2 ^ d)) m))
  where
    go : (bits m ≡ m) ⊎ (bits m < m) → m < 2 ^ bits m
    go (inl e) = rw e (below_power m)
    go (inr l) = ltb-true m _ (smallest_passes (λ d. ltb m (2 ^ d)) m l)

pub bits_least : (m d : ℕ) → m < 2 ^ d → bits m ≤ d
unfolding bits
bits_least m d h = smallest_most (λ d. ltb m (2 ^ d)) m d (lt-ltb m (2 ^ d) h)

pub bits_grows : (m n : ℕ) → m ≤ n → bits m ≤ bits n
bits_grows m n h = bits_least m (bits n) (omega (arith, bits_below n))

pub bits_double : (m k : ℕ) → 2 * m < k → bits m + 1 ≤ bits k
bits_double m k h = go (bits k) (bits_below k)
  where
    go : (d : ℕ) → k < 2 ^ d → bits m + 1 ≤ d
    go zero l = absurd (omega arith)
    go (suc d) l = omega (arith, bits_least m d (omega arith))

-- B1: in a prefix of a Lyndon word the scan stops at its end
pub prefix_whole : (f z y : List ℕ) → Lyndon f → f ≡ z ++ y → {j p : ℕ} → Scan z 0 j p → Stops z j p → j ≡ length z
prefix_whole f z y h e {j} {p} c st = go (le_cases c.ends)
  where
    size : length f ≡ length z + length y
    size = ap length e ∙ length-append z y

    at : (i : ℕ) → i < length z → get_or f i 0 ≡ get_or z i 0
    at i l = ap (λ w. get_or w i 0) e ∙ get_or-append z y 0 i l

    go : (j ≡ length z) ⊎ (j < length z) → j ≡ length z
    go (inl q) = q
    go (inr l) =
        let k = j - p in
        let q : p + k ≡ j = omega (arith, c.fits) in
        let r = ap (λ i. get_or f i 0) q in
        let less : get_or (drop p f) k 0 < get_or f k 0 = omega (arith, get_or-drop p f k 0, r, at j l, st k (omega arith) l, at k (omega arith)) in
        let same : (i : ℕ) → i < k → get_or (drop p f) i 0 ≡ get_or f i 0 = λ i u.
        let v : p + i ≡ i + p = omega arith in
        get_or-drop p f i 0 ∙ at (p + i) (omega arith) ∙ ap (λ n. get_or z n 0) v ∙ c.period i (omega arith) (omega arith)
        ∙ sym (at i (omega arith)) in
        let low = differ_less (drop p f) f (first_differ (drop p f) f k (omega (arith, length-drop p f, size, l)) (omega (arith, size, l)) less same) in
        absurd (less_irrefl f (less_trans f (drop p f) f (h.least p c.some (omega (arith, c.fits, size, l))) low))

-- and what follows the whole words is a prefix again
pub prefix_rest : (z : List ℕ) (p e : ℕ) → Scan z 0 (length z) p → e * p ≤ length z → drop (e * p) z ++ drop (length z - e * p) z ≡ z
prefix_rest z p e c h = ap (λ r. r ++ drop n z) same ∙ take-append-drop n z
  where
    n : ℕ
    n = length z - e * p

    same : drop (e * p) z ≡ take n z
    same = ext_get_or 0 (drop (e * p) z) (take n z) (omega (arith, length-drop (e * p) z, length-take n z))
        (λ i l.
        let u = length-drop (e * p) z in
        let q : e * p + i ≡ i + e * p = omega arith in
        get_or-drop (e * p) z i 0 ∙ ap (λ k. get_or z k 0) q ∙ scan_times c e i (omega arith) (omega arith) ∙ sym (get_or-take n z i 0 (omega arith)))

-- B2
fresh_step : (f z y : List ℕ) → Lyndon f → f ≡ z ++ y → 0 < length z
    → ((x w : List ℕ) → f ≡ x ++ w → length x < length z → length (groups_from 0 (factors x)) ≤ bits (length x))
    → length (groups_from 0 (factors z)) ≤ bits (length z)
fresh_step f z y h e n ih = go (scan_stops z 0 n)
  where
    go : Stopped z 0 → length (groups_from 0 (factors z)) ≤ bits (length z)
    go st = at (length z / p) (omega (arith, div-add-mod' (length z) p)) (omega (arith, div-add-mod' (length z) p, mod-lt (length z) c.some))
      where
        p : ℕ
        p = st.size

        whole : st.stop ≡ length z
        whole = prefix_whole f z y h e st.scan st.stops

        c : Scan z 0 (length z) p
        c = rw whole at st.scan

        at : (q : ℕ) → q * p ≤ length z → length z < q * p + p → length (groups_from 0 (factors z)) ≤ bits (length z)
        at zero a b = absurd (omega (arith, c.fits))
        at (suc q) a b =
            let m = suc q * p in
            let x = drop m z in
            let w = drop (length z - m) z in
            let g = rw (zero-add m) at (scan_group c (rw whole at st.stops) (suc q) (omega arith) (omega arith)) in
            let u = length-drop m z in
            let v = ih x (w ++ y) (e ∙ ap (λ r. r ++ y) (sym (prefix_rest z p (suc q) c a)) ∙ append_assoc x w y) (omega (arith, c.some)) in
            omega (arith, ap length g, groups_place 0 m (factors x), v, bits_double (length x) (length z) (omega arith))

fresh : (n : ℕ) (f z y : List ℕ) → Lyndon f → f ≡ z ++ y → length z ≤ n → length (groups_from 0 (factors z)) ≤ bits (length z)
unfolding factors
fresh zero f [] y h e l = omega arith
fresh zero f (a ∷ z) y h e l = absurd (omega arith)
fresh (suc n) f [] y h e l = omega arith
fresh (suc n) f (a ∷ z) y h e l = fresh_step f (a ∷ z) y h e (omega arith) (λ x w q m. fresh n f x w h q (omega arith))

pub fresh_groups : (i : ℕ) (f z y : List ℕ) → Lyndon f → f ≡ z ++ y → length (groups_from i (factors z)) ≤ bits (length z)
fresh_groups i f z y h e = omega (arith, groups_place i 0 (factors z), fresh (length z) f z y h e (omega arith))

-- what stands between the factors that end at or before q and place q is a prefix of the next one
pub front_fresh : (s : List ℕ) (q i : ℕ) → length (groups_from i (factors (drop (start_at (factors s) (ending_by q (factors s))) (take q s)))) ≤ bits q
front_fresh s q i = go (drop c (factors s)) refl (rest_cut s q c (ending_before q (factors s)))
  where
    c : ℕ
    c = ending_by q (factors s)

    z : List ℕ
    z = drop (start_at (factors s) c) (take q s)

    size : length z ≤ q - start_at (factors s) c
    size = omega (arith, length-drop (start_at (factors s) c) (take q s), length-take q s)

    go : (gs : List (List ℕ)) → drop c (factors s) ≡ gs → join gs ≡ z ++ drop q s → length (groups_from i (factors z)) ≤ bits q
    go [] e p = omega (arith, ap length p, length-append z (drop q s), groups_few i z)
    go (f ∷ gs) e p = at (cut f (join gs) z (drop q s) p)
      where
        next : Falling (f ∷ gs)
        next = rw e at (falling_right (take c (factors s)) (drop c (factors s)) (rw (take-append-drop c (factors s)) (factors_falling s)))

        at : Cut f (join gs) z (drop q s) → length (groups_from i (factors z)) ≤ bits q
        at (long y n u v) = omega (arith, fresh_groups i f z y next.0 u, bits_grows (length z) q (omega (arith, size)))
        at (short y u v) = absurd (omega (arith, ending_over q (factors s) e, ending_before q (factors s), size, ap length u, length-append f y))
