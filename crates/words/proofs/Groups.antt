-- G1 and the laws of groups: what a stretch of equal factors packs to, that powers are maximal, how the number of groups grows, and that there are no
-- more than symbols.
use mathlib.Core.Bool.{Bool, true, false, cond}
use mathlib.Core.List.{List, [], ◌∷◌, ◌++◌}
use mathlib.Core.Path.{◌≡◌, refl, sym, ap, ◌∙◌}
use Prim.Native.Nat.{ℕ, zero, suc, ◌+◌, ◌*◌, ◌≤◌, ◌<◌, max}
use native.Mathlib.Omega.{arith}
use lib.ListN.{length, replicate}
use Rattle.words.specs.Factors.{factors, starts_with, Group, with_factor, groups_from}
use Rattle.words.proofs.Bounded.{true_false}
use Rattle.words.proofs.Factors.{factors_few}
use Rattle.words.proofs.Order.{same_true, same_refl}

-- a group by its numbers
abbrev pub group : ℕ → ℕ → ℕ → Group
group i l e = record { start = i; size = l; power = e }

-- e equal factors, followed by none more, are one group of power e
pub groups_repeat : (f : List ℕ) (fs : List (List ℕ)) (i e : ℕ) → starts_with f fs ≡ false → 0 < e
    → groups_from i (replicate e f ++ fs) ≡ group i (length f) e ∷ groups_from (i + e * length f) fs
groups_repeat f fs i zero h n = absurd (omega arith)
groups_repeat f fs i (suc zero) h n =
    let p : i + length f ≡ i + 1 * length f = omega arith in
    rw (h, p) refl
groups_repeat f fs i (suc (suc e)) h n =
    let p : i + length f + suc e * length f ≡ i + suc (suc e) * length f = omega arith in
    rw (same_refl f, groups_repeat f fs (i + length f) (suc e) h (omega arith), p) refl

-- Equal neighbours packed as far as they go: after the e words of a group stands another word, or none.
pub data Packed : ℕ → List (List ℕ) → List Group → Type 0 where
  none : {i : ℕ} → Packed i [] []
  more : {i : ℕ} (e : ℕ) (f : List ℕ) (fs : List (List ℕ)) {gs : List Group} → 0 < e → starts_with f fs ≡ false → Packed (i + e * length f) fs gs
      → Packed i (replicate e f ++ fs) (group i (length f) e ∷ gs)

packed_same : {i j : ℕ} (f : List ℕ) {fs : List (List ℕ)} {gs : List Group} → j ≡ i + length f → starts_with f fs ≡ true → Packed j fs gs
    → Packed i (f ∷ fs) (with_factor true i (length f) gs)
packed_same f e q none = absurd (true_false q refl)
packed_same f e q (more zero g fs n h p) = absurd (omega arith)
packed_same {i} {j} f e q (more (suc k) g fs {gs} n h p) =
    let r = same_true f g q in
    let w : j + suc k * length f ≡ i + suc (suc k) * length f = omega arith in
    rw (← r) (more (suc (suc k)) f fs (omega arith) (rw (← r) at h) (rw (← r, w) at p))

packed_other : {i : ℕ} (f : List ℕ) {fs : List (List ℕ)} {gs : List Group} → starts_with f fs ≡ false → Packed (i + length f) fs gs
    → Packed i (f ∷ fs) (with_factor false i (length f) gs)
packed_other {i} f {fs} {gs} q p =
    let e : i + length f ≡ i + 1 * length f = omega arith in
    more 1 f fs (omega arith) q (rw e at p)

pub packed : (i : ℕ) (fs : List (List ℕ)) → Packed i fs (groups_from i fs)
packed i [] = none
packed i (f ∷ fs) = go (starts_with f fs) refl (packed (i + length f) fs)
  where
    go : (b : Bool) → starts_with f fs ≡ b → Packed (i + length f) fs (groups_from (i + length f) fs)
        → Packed i (f ∷ fs) (with_factor b i (length f) (groups_from (i + length f) fs))
    go true q p = packed_same f refl q p
    go false q p = packed_other f q p

pub packed_only : {i : ℕ} {fs : List (List ℕ)} {gs : List Group} → Packed i fs gs → gs ≡ groups_from i fs
packed_only none = refl
packed_only {i} (more e f fs {gs} n h p) = rw (groups_repeat f fs i e h n, packed_only p) refl

-- how many groups one more factor makes
pub length_with : (b : Bool) (i l : ℕ) (gs : List Group) → length (with_factor b i l gs) ≡ cond b (max 1 (length gs)) (suc (length gs))
length_with false i l gs = refl
length_with true i l [] = refl
length_with true i l (g ∷ gs) = omega arith

-- the number of groups does not depend on the place
pub groups_place : (i j : ℕ) (fs : List (List ℕ)) → length (groups_from i fs) ≡ length (groups_from j fs)
groups_place i j [] = refl
groups_place i j (f ∷ fs) =
    length_with (starts_with f fs) i (length f) (groups_from (i + length f) fs)
    ∙ ap (λ n. cond (starts_with f fs) (max 1 n) (suc n)) (groups_place (i + length f) (j + length f) fs)
    ∙ sym (length_with (starts_with f fs) j (length f) (groups_from (j + length f) fs))

-- one more factor before two lists of groups
with_grows : (b : Bool) (i j l m n : ℕ) (gs hs : List Group) → length gs ≤ length hs + n
    → length (with_factor b i l gs) ≤ length (with_factor b j m hs) + n
with_grows true i j l m n gs hs h = omega (arith, length_with true i l gs, length_with true j m hs)
with_grows false i j l m n gs hs h = omega arith

with_most : (b : Bool) (i l : ℕ) (gs : List Group) → length (with_factor b i l gs) ≤ suc (length gs)
with_most true i l gs = omega (arith, length_with true i l gs)
with_most false i l gs = omega arith

with_least : (b : Bool) (i l : ℕ) (gs : List Group) → max 1 (length gs) ≤ length (with_factor b i l gs)
with_least true i l gs = omega (arith, length_with true i l gs)
with_least false i l gs = omega arith

-- G1
pub groups_append : (i j : ℕ) (fs gs : List (List ℕ)) → length (groups_from i (fs ++ gs)) ≤ length (groups_from i fs) + length (groups_from j gs)
groups_append i j [] gs = omega (arith, groups_place i j gs)
groups_append i j (f ∷ []) gs =
    omega (arith, with_most (starts_with f gs) i (length f) (groups_from (i + length f) gs), groups_place (i + length f) j gs)
groups_append i j (f ∷ g ∷ fs) gs =
    with_grows (starts_with f (g ∷ fs)) i i (length f) (length f) (length (groups_from j gs)) _ _ (groups_append (i + length f) j (g ∷ fs) gs)

pub groups_most : (i : ℕ) (fs : List (List ℕ)) → length (groups_from i fs) ≤ length fs
groups_most i [] = omega arith
groups_most i (f ∷ fs) = omega (arith, with_most (starts_with f fs) i (length f) (groups_from (i + length f) fs), groups_most (i + length f) fs)

-- a pattern has no more groups than symbols
pub groups_few : (i : ℕ) (s : List ℕ) → length (groups_from i (factors s)) ≤ length s
groups_few i s = omega (arith, groups_most i (factors s), factors_few s)

pub groups_left : (i j : ℕ) (fs gs : List (List ℕ)) → length (groups_from i fs) ≤ length (groups_from j (fs ++ gs))
groups_left i j [] gs = omega arith
groups_left i j (f ∷ []) gs = omega (arith, with_least (starts_with f gs) j (length f) (groups_from (j + length f) gs))
groups_left i j (f ∷ g ∷ fs) gs =
    let h = groups_left (i + length f) (j + length f) (g ∷ fs) gs in
    let old = groups_from (i + length f) (g ∷ fs) in
    let new = groups_from (j + length f) (g ∷ fs ++ gs) in
    omega (arith, with_grows (starts_with f (g ∷ fs)) i j (length f) (length f) 0 old new (omega arith))

pub groups_right : (i j : ℕ) (fs gs : List (List ℕ)) → length (groups_from i gs) ≤ length (groups_from j (fs ++ gs))
groups_right i j [] gs = omega (arith, groups_place i j gs)
groups_right i j (f ∷ fs) gs =
    omega (arith, with_least (starts_with f (fs ++ gs)) j (length f) (groups_from (j + length f) (fs ++ gs)), groups_right i (j + length f) fs gs)
