-- One turn of a pass back over the groups of a prefix: what is counted or written, what fits, and where the pass begins and ends.
use mathlib.Core.List.{List, [], ◌∷◌, ◌++◌}
use mathlib.Core.Logic.{◌⊎◌, inl, inr}
use mathlib.Core.Path.{◌≡◌, refl, sym, ap, ◌∙◌}
use Prim.Native.Nat.{ℕ, ◌+◌, ◌-◌, ◌*◌, ◌≤◌, ◌<◌}
use native.Mathlib.Omega.{arith}
use lib.ListN.{length, set, take, length-append, length-take}
use Rattle.std.specs.Prelude.{reverse}
use Rattle.std.proofs.lemmas.List.{length-reverse, reverse-append}
use Rattle.words.specs.Factors.{Group, factors, group_numbers}
use Rattle.words.specs.Tables.{prefix_groups}
use Rattle.rows.specs.Row.{written}
use Rattle.words.proofs.Bounded.{le_or_lt}
use Rattle.words.proofs.Groups.{groups_few}
use Rattle.scan.specs.Group.{group_of}
use Rattle.scan.proofs.Pass.{length_numbers}
use Rattle.prefix_chain.specs.Last.{LastGroup}
use Rattle.prefix_chain.proofs.Before.{last_of}
use Rattle.rows.proofs.Back.{Back, back_none, back_part, back_all, back_length, three_written}

pub prefix_none : (s : List ℕ) (q : ℕ) → q ≤ 0 → prefix_groups s q ≡ []
unfolding prefix_groups factors
prefix_none s q h =
    let e : q ≡ 0 = omega arith in
    rw e refl

numbers_append : (gs hs : List Group) → group_numbers (gs ++ hs) ≡ group_numbers gs ++ group_numbers hs
numbers_append [] hs = refl
numbers_append (g ∷ gs) hs = rw (numbers_append gs hs) refl

-- three more numbers fit before place `at`
pub record Room (d row : List ℕ) (at : ℕ) : Type 0 where
  pub long : length row ≡ length d
  pub some : 3 ≤ at
  pub fits : at ≤ length row

module _ {s : List ℕ} {q l e : ℕ} (g : LastGroup s q l e) where
  prefix_length : length (prefix_groups s q) ≡ length (prefix_groups s (q - e * l)) + 1
  prefix_length = ap length g.group ∙ length-append (prefix_groups s (q - e * l)) (record { start = q - e * l; size = l; power = e } ∷ [])

  pub back_first : reverse (prefix_groups s q) ≡ group_of (q - e * l) l e ∷ reverse (prefix_groups s (q - e * l))
  back_first = ap reverse g.group ∙ reverse-append (prefix_groups s (q - e * l)) (group_of (q - e * l) l e ∷ [])

  pub write_room : {out d row : List ℕ} {at : ℕ} → Back out d row at (group_numbers (prefix_groups s q)) → Room d row at
  write_room {out} w =
      record {
        long = back_length w;
        some = omega (arith, w.size, length_numbers (prefix_groups s q), prefix_length);
        fits = omega (arith, back_length w, w.size, w.room, ap length w.parts, length-append (group_numbers (prefix_groups s q)) w.done);
      }

  pub write_turn : {start : ℕ} {out d row : List ℕ} {at : ℕ} → start ≡ q - e * l → Back out d row at (group_numbers (prefix_groups s q))
      → Back out d (set (set (set row (at - 3) start) (at - 3 + 1) l) (at - 3 + 2) e) (at - 3) (group_numbers (prefix_groups s start))
  write_turn {row = row} {at = at} p w =
      let n : group_numbers (prefix_groups s q) ≡ group_numbers (prefix_groups s (q - e * l)) ++ ((q - e * l) ∷ l ∷ e ∷ []) =
      ap group_numbers g.group ∙ numbers_append (prefix_groups s (q - e * l)) (record { start = q - e * l; size = l; power = e } ∷ []) in
      let r = write_room w in
      rw (p, three_written row (at - 3) (q - e * l) l e (omega arith)) (back_part ((q - e * l) ∷ l ∷ e ∷ []) (at - 3) (omega arith) (rw n at w))

pub write_start : (s d : List ℕ) (q count : ℕ) → count ≡ length (prefix_groups s q) → 3 * count ≤ length d
    → Back (group_numbers (prefix_groups s q)) d d (3 * count) (group_numbers (prefix_groups s q))
write_start s d q count e h =
    let n : length (group_numbers (prefix_groups s q)) ≡ 3 * count = length_numbers (prefix_groups s q) ∙ omega arith in
    rw n at (back_none (group_numbers (prefix_groups s q)) d (omega arith))

pub write_end : (s : List ℕ) (q : ℕ) {out d row : List ℕ} {at : ℕ} → q ≤ 0
    → Back out d row at (group_numbers (prefix_groups s q)) → row ≡ written out d
write_end s q h w = back_all (rw (prefix_none s q h) at w)

-- the groups gs are those of a prefix of s from last to first
pub record LeftBack (s : List ℕ) (gs : List Group) : Type 0 where
  pub end : ℕ
  pub fits : end ≤ length s
  pub is : gs ≡ reverse (prefix_groups s end)

-- of these groups the first is this one, the last of the first `end` symbols, and hs are the others
pub record TurnBack (s : List ℕ) (end : ℕ) (hs : List Group) (start size power : ℕ) : Type 0 where
  pub group : LastGroup s end size power
  pub place : start ≡ end - power * size
  pub after : hs ≡ reverse (prefix_groups s start)

pub left_turn : {s : List ℕ} {gs hs : List Group} {start size power : ℕ} (l : LeftBack s gs) → gs ≡ group_of start size power ∷ hs
    → TurnBack s l.end hs start size power
left_turn {s} {gs} {hs} {start} {size} {power} l e = go (le_or_lt l.end 0)
  where
    go : (l.end ≤ 0) ⊎ (0 < l.end) → TurnBack s l.end hs start size power
    go (inl h) = absurd (omega (arith, ap length l.is, ap length e, ap (λ t. length (reverse t)) (prefix_none s l.end h)))
    go (inr h) =
        let c = last_of s l.end h l.fits in
        let q : group_of (l.end - c.power * c.size) c.size c.power ∷ reverse (prefix_groups s (l.end - c.power * c.size)) ≡ group_of start size power ∷ hs =
        sym (back_first c.group) ∙ sym l.is ∙ e in
        let x : ◌≡◌ {A = Group} (group_of (l.end - c.power * c.size) c.size c.power) (group_of start size power) = cc in
        let o : reverse (prefix_groups s (l.end - c.power * c.size)) ≡ hs = cc in
        let i : l.end - c.power * c.size ≡ start = ap (λ u. u.start) x in
        let y : c.size ≡ size = ap (λ u. u.size) x in
        let z : c.power ≡ power = ap (λ u. u.power) x in
        record { group = rw (z, y) at c.group; place = sym (rw (z, y) at i); after = rw i at (sym o) }

abbrev pub left_next : {s : List ℕ} {end : ℕ} {hs : List Group} {start size power : ℕ} → end ≤ length s → TurnBack s end hs start size power → LeftBack s hs
left_next {start = start} h t = record { end = start; fits = omega (arith, t.place); is = t.after }

pub left_end : {s : List ℕ} {gs : List Group} (l : LeftBack s gs) → gs ≡ [] → l.end ≤ 0
left_end {s} {gs} l e = go (le_or_lt l.end 0)
  where
    go : (l.end ≤ 0) ⊎ (0 < l.end) → l.end ≤ 0
    go (inl h) = h
    go (inr h) =
        let c = last_of s l.end h l.fits in
        absurd (omega (arith, ap length (back_first c.group), ap length l.is, ap length e))

pub back_count : (s : List ℕ) (q : ℕ) → length (reverse (prefix_groups s q)) ≡ length (prefix_groups s q)
back_count s q = length-reverse (prefix_groups s q)

-- a prefix has no more groups than symbols
pub prefix_few : (s : List ℕ) (q : ℕ) → length (prefix_groups s q) ≤ length s
unfolding prefix_groups
prefix_few s q = omega (arith, groups_few 0 (take q s), length-take q s)
