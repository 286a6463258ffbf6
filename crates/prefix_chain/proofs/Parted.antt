-- Where two neighbouring factors differ, the groups part: those of the factors up to there, then those of the others.
use mathlib.Core.Bool.{Bool, true, false}
use mathlib.Core.List.{List, [], ◌∷◌, ◌++◌}
use mathlib.Core.Path.{◌≡◌, refl, ap, ◌∙◌}
use Prim.Native.Nat.{ℕ, zero, suc, ◌+◌, ◌<◌}
use native.Mathlib.Omega.{arith}
use lib.ListN.{length, replicate, length-append}
use Rattle.words.specs.Order.{same}
use Rattle.words.specs.Factors.{join, Group, starts_with, with_factor, groups_from}

-- one more factor before groups that are followed by others
with_append : (b : Bool) (i l : ℕ) (gs hs : List Group) → 0 < length gs → with_factor b i l (gs ++ hs) ≡ with_factor b i l gs ++ hs
with_append b i l [] hs h = absurd (omega arith)
with_append false i l (g ∷ gs) hs h = refl
with_append true i l (g ∷ gs) hs h = refl

with_some : (b : Bool) (i l : ℕ) (gs : List Group) → 0 < length (with_factor b i l gs)
with_some false i l gs = omega arith
with_some true i l [] = omega arith
with_some true i l (g ∷ gs) = omega arith

-- the groups of fs and gs part where fs ends
abbrev pub Parted : ℕ → List (List ℕ) → List (List ℕ) → Type 0
Parted i fs gs = groups_from i (fs ++ gs) ≡ groups_from i fs ++ groups_from (i + length (join fs)) gs

parted_more : (f g : List ℕ) (fs gs : List (List ℕ)) (i : ℕ) → Parted (i + length f) (g ∷ fs) gs → Parted i (f ∷ g ∷ fs) gs
parted_more f g fs gs i h =
    let e : i + length f + length (join (g ∷ fs)) ≡ i + length (join (f ∷ g ∷ fs)) = omega (arith, length-append f (join (g ∷ fs))) in
    let hs = groups_from (i + length f) (g ∷ fs) in
    let some : 0 < length hs = with_some (starts_with g fs) (i + length f) (length g) (groups_from (i + length f + length g) fs) in
    ap (with_factor (same f g) i (length f)) h
    ∙ rw e (with_append (same f g) i (length f) hs (groups_from (i + length (join (f ∷ g ∷ fs))) gs) some)

pub parted : (fs : List (List ℕ)) (f : List ℕ) (gs : List (List ℕ)) (i : ℕ) → starts_with f gs ≡ false → Parted i (fs ++ (f ∷ [])) gs
parted [] f gs i h =
    let e : length (f ++ []) ≡ length f = omega (arith, length-append f []) in
    rw (h, e) refl
parted (g ∷ []) f gs i h = parted_more g f [] gs i (parted [] f gs (i + length g) h)
parted (g ∷ k ∷ fs) f gs i h = parted_more g k (fs ++ (f ∷ [])) gs i (parted (k ∷ fs) f gs (i + length g) h)

pub starts_repeat : (f g : List ℕ) (e : ℕ) → same f g ≡ false → starts_with f (replicate e g) ≡ false
starts_repeat f g zero h = refl
starts_repeat f g (suc e) h = h
