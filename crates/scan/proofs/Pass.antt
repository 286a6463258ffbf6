-- One turn of a pass over the groups of a pattern: what is counted or written, and what is left.
use mathlib.Core.List.{List, [], ◌∷◌}
use mathlib.Core.Logic.{◌⊎◌, inl, inr}
use mathlib.Core.Path.{◌≡◌, refl, ap}
use Prim.Native.Nat.{ℕ, ◌+◌, ◌*◌, ◌≤◌, ◌<◌}
use native.Mathlib.Nat.{mul-le-mul_right, le-mul_of_pos_right}
use native.Mathlib.Omega.{arith}
use lib.ListN.{length, set}
use Rattle.words.specs.Factors.{Group, group_numbers}
use Rattle.words.specs.Tables.{suffix_groups}
use Rattle.words.proofs.Bounded.{le_or_lt}
use Rattle.rows.proofs.Wrote.{Wrote, wrote_one, wrote_room}
use Rattle.scan.specs.Group.{NextGroup, GroupFrom}

-- the stretch of a group is at least its factor and its power
pub record Stretches (l e : ℕ) : Type 0 where
  pub size : l ≤ e * l
  pub power : e ≤ e * l

pub stretches : {l e : ℕ} → 0 < l → 0 < e → Stretches l e
stretches {l} {e} h k = record { size = omega (arith, mul-le-mul_right {m = 1} {n = e} l k); power = le-mul_of_pos_right e h }

module _ {s : List ℕ} {i l e : ℕ} (g : NextGroup s i l e) where
  pub write_turn : {out d row : List ℕ} {at : ℕ} → Wrote out d row at (group_numbers (suffix_groups s i))
      → Wrote out d (set (set (set row at i) (at + 1) l) (at + 2) e) (at + 3) (group_numbers (suffix_groups s (i + e * l)))
  write_turn {out} {d} {row} {at} w =
      let n : group_numbers (suffix_groups s i) ≡ i ∷ l ∷ e ∷ group_numbers (suffix_groups s (i + e * l)) = ap group_numbers g.group in
      let p : at + 1 + 1 ≡ at + 2 = omega arith in
      let q : at + 2 + 1 ≡ at + 3 = omega arith in
      rw q at (wrote_one (rw p at (wrote_one (wrote_one (rw n at w)))))

  -- the numbers of a group are small, and the row has room for them
  pub length_fits : l ≤ e * l
  length_fits = (stretches g.factor g.some).size

  pub power_fits : e ≤ e * l
  power_fits = (stretches g.factor g.some).power

  pub group_room : {out d row : List ℕ} {at : ℕ} → Wrote out d row at (group_numbers (suffix_groups s i)) → at + 3 ≤ length row
  group_room w = omega (arith, wrote_room w, ap length (ap group_numbers g.group))

-- a group, or none, ends within the pattern
pub from_fits : {s : List ℕ} {i l e : ℕ} → GroupFrom s i l e → i ≤ length s → i + l ≤ length s
from_fits {s} {i} {l} {e} g h = go (le_or_lt (length s) i)
  where
    go : (length s ≤ i) ⊎ (i < length s) → i + l ≤ length s
    go (inl k) = omega (arith, (g.none k).0)
    go (inr k) = omega (arith, length_fits (g.group k), (g.group k).fits)

pub length_numbers : (gs : List Group) → length (group_numbers gs) ≡ 3 * length gs
length_numbers [] = refl
length_numbers (g ∷ gs) = omega (arith, length_numbers gs)
