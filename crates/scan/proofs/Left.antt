-- What a pass over groups knows of those that are left: they are the groups from some place on, and the first of them is the one that starts there.
use mathlib.Core.List.{List, [], ◌∷◌}
use mathlib.Core.Logic.{◌⊎◌, inl, inr}
use mathlib.Core.Path.{◌≡◌, refl, sym, ap, ◌∙◌}
use Prim.Native.Nat.{ℕ, ◌+◌, ◌-◌, ◌*◌, ◌/◌, ◌≤◌, ◌<◌}
use native.Mathlib.Omega.{arith}
use lib.ListN.{length}
use Rattle.words.specs.Factors.{Group}
use Rattle.words.specs.Tables.{suffix_groups}
use Rattle.words.proofs.Bounded.{le_or_lt}
use Rattle.words.proofs.Scan.{scan_stops}
use Rattle.scan.specs.Group.{NextGroup, group_of}
use Rattle.scan.proofs.Next.{next_group, suffix_end}

-- the groups gs are those of s from a place on
pub record Left (s : List ℕ) (gs : List Group) : Type 0 where
  pub at : ℕ
  pub fits : at ≤ length s
  pub is : gs ≡ suffix_groups s at

-- of the groups gs, which are those from place i on, the first is this one, and hs are the others
pub record Turn (s : List ℕ) (i : ℕ) (gs hs : List Group) (start size power : ℕ) : Type 0 where
  pub place : i ≡ start
  pub group : NextGroup s start size power
  pub before : gs ≡ suffix_groups s start
  pub after : hs ≡ suffix_groups s (start + power * size)

abbrev pub left_next : {s : List ℕ} {i : ℕ} {gs hs : List Group} {start size power : ℕ} → Turn s i gs hs start size power → Left s hs
left_next {start = start} {size = size} {power = power} t = record { at = start + power * size; fits = t.group.fits; is = t.after }

abbrev pub left_from : (s : List ℕ) (i : ℕ) → i ≤ length s → Left s (suffix_groups s i)
left_from s i h = record { at = i; fits = h; is = refl }

pub left_turn : {s : List ℕ} {gs hs : List Group} {start size power : ℕ} (l : Left s gs) → gs ≡ group_of start size power ∷ hs → Turn s l.at gs hs start size power
left_turn {s} {gs} {hs} {start} {size} {power} l e = go (le_or_lt (length s) l.at)
  where
    go : (length s ≤ l.at) ⊎ (l.at < length s) → Turn s l.at gs hs start size power
    go (inl h) = absurd (omega (arith, ap length (suffix_end s l.at h), ap length l.is, ap length e))
    go (inr h) =
        let c = scan_stops s l.at h in
        let g = next_group c.scan c.stops in
        let q : group_of l.at c.size ((c.stop - l.at) / c.size) ∷ suffix_groups s (l.at + (c.stop - l.at) / c.size * c.size) ≡ group_of start size power ∷ hs =
        sym g.group ∙ sym l.is ∙ e in
        let x : ◌≡◌ {A = Group} (group_of l.at c.size ((c.stop - l.at) / c.size)) (group_of start size power) = cc in
        let o : suffix_groups s (l.at + (c.stop - l.at) / c.size * c.size) ≡ hs = cc in
        let i : l.at ≡ start = ap (λ u. u.start) x in
        let y : c.size ≡ size = ap (λ u. u.size) x in
        let z : (c.stop - l.at) / c.size ≡ power = ap (λ u. u.power) x in
        let n : NextGroup s start size power = rw (z, y, i) at g in
        let a : hs ≡ suffix_groups s (start + power * size) = rw (z, y, i) at (sym o) in
        record { place = i; group = n; before = rw i at l.is; after = a }

pub left_end : {s : List ℕ} {gs : List Group} (l : Left s gs) → gs ≡ [] → length s ≤ l.at
left_end {s} {gs} l e = go (le_or_lt (length s) l.at)
  where
    go : (length s ≤ l.at) ⊎ (l.at < length s) → length s ≤ l.at
    go (inl h) = h
    go (inr h) =
        let c = scan_stops s l.at h in
        let g = next_group c.scan c.stops in
        absurd (omega (arith, ap length g.group, ap length l.is, ap length e))
