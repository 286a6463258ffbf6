-- The starts of one group's factors are written to a row one by one, and those of all groups with the longest factors group by group.
use mathlib.Core.List.{List, ◌++◌}
use mathlib.Core.Path.{◌≡◌, refl, sym, ap, ◌∙◌}
use Prim.Native.Nat.{ℕ, suc, ◌+◌, ◌*◌, ◌-◌, ◌≤◌, ◌<◌}
use native.Mathlib.Omega.{arith}
use lib.ListN.{length, take, set, length-append}
use lib.Seq.{take_all}
use borrow.Author.Tests.{eq-eqb, ne_eqb}
use Rattle.words.specs.Tables.{suffix_groups, longest, longest_starts}
use Rattle.rows.specs.Row.{written, written_at}
use Rattle.rows.proofs.Wrote.{Wrote, wrote_one, wrote_part, wrote_from, wrote_to, wrote_room}
use Rattle.scan.specs.Group.{NextGroup}
use Rattle.scan.proofs.Next.{groups_start, suffix_end}
use Rattle.longest.specs.declared.Longest.{Longest}
use Rattle.longest.specs.Best.{longest_of, run_from, starts_of, Measures}
use Rattle.longest.proofs.Starts.{longest_starts_lem}
use Rattle.longest.proofs.Seen.{length_run}

-- k of a group's starts stand in the row from place `at` on; i is the next
pub record Run (d row : List ℕ) (at start size power k i : ℕ) : Type 0 where
  pub upto : k ≤ power
  pub place : i + (power - k) * size ≡ start + power * size
  pub wrote : Wrote (take at d ++ run_from start size power) d row (at + k) (run_from i size (power - k))

pub run_none : (d : List ℕ) (at start size power : ℕ) → at + power ≤ length d → Run d d at start size power 0 start
run_none d at start size power h =
    let z : power - 0 ≡ power = omega arith in
    let e : at + 0 ≡ at = omega arith in
    record {
      upto = omega arith;
      place = rw z refl;
      wrote = rw (z, e) (wrote_from at (run_from start size power) d (omega (arith, length_run start size power)));
    }

module _ {d row : List ℕ} {at start size power k i : ℕ} (w : Run d row at start size power k i) (h : k < power) where
  left : power - k ≡ suc (power - (k + 1))
  left = omega arith

  pub run_next : i + size ≤ start + power * size
  run_next = omega (arith, rw left at w.place)

  pub run_one : Run d (set row (at + k) i) at start size power (k + 1) (i + size)
  run_one =
      let f : at + k + 1 ≡ at + (k + 1) = omega arith in
      record { upto = omega arith; place = omega (arith, rw left at w.place); wrote = rw f at (wrote_one (rw left at w.wrote)) }

-- the starts of the groups before place i stand in the row, and the others are left
module _ {s : List ℕ} {size i l e : ℕ} (g : NextGroup s i l e) where
  starts_same : l ≡ size → starts_of size (suffix_groups s i) ≡ run_from i l e ++ starts_of size (suffix_groups s (i + e * l))
  starts_same q = ap (starts_of size) g.group ∙ rw (eq-eqb l size q)

  starts_other : (l ≡ size → ⊥) → starts_of size (suffix_groups s i) ≡ starts_of size (suffix_groups s (i + e * l))
  starts_other q = ap (starts_of size) g.group ∙ rw (ne_eqb l size q)

  module _ {out d row : List ℕ} {at : ℕ} (w : Wrote out d row at (starts_of size (suffix_groups s i))) where
    pub list_room : l ≡ size → at + e ≤ length row
    list_room q =
        let rest = starts_of size (suffix_groups s (i + e * l)) in
        omega (arith, wrote_room w, ap length (starts_same q), length-append (run_from i l e) rest, length_run i l e)

    pub list_run : l ≡ size → Wrote out d (written_at at (run_from i l e) row) (at + e) (starts_of size (suffix_groups s (i + e * l)))
    list_run q =
        let n : at + length (run_from i l e) ≡ at + e = ap (λ m. at + m) (length_run i l e) in
        rw n at (wrote_part (run_from i l e) (rw (starts_same q) at w))

    pub list_over : (l ≡ size → ⊥) → Wrote out d row at (starts_of size (suffix_groups s (i + e * l)))
    list_over q = rw (starts_other q) at w

-- all of them from a place on
abbrev pub Listed : List ℕ → ℕ → ℕ → ℕ → List ℕ → List ℕ → ℕ → ℕ → Type 0
Listed s from size at d row next i =
    Wrote (take at d ++ starts_of size (suffix_groups s from)) d row next (starts_of size (suffix_groups s i))

module _ (s : List ℕ) (from size at : ℕ) (d : List ℕ) (room : at + length (starts_of size (suffix_groups s from)) ≤ length d) where
  pub list_none : Listed s from size at d d at from
  list_none = wrote_from at (starts_of size (suffix_groups s from)) d room

  pub list_all : {row : List ℕ} {next i : ℕ} → Listed s from size at d row next i → length s ≤ i
      → (next ≡ at + length (starts_of size (suffix_groups s from))) × (row ≡ written_at at (starts_of size (suffix_groups s from)) d)
  list_all {row} {next} {i} w h = wrote_to at (starts_of size (suffix_groups s from)) d room (rw (suffix_end s i h) at w)

pub longest_count : (s : List ℕ) {found : Longest} → found ≡ longest_of s → found.count ≡ length (longest_starts s)
unfolding longest_of
longest_count s e = ap (λ u. u.count) e

-- the starts of the longest words are those of all factors of their length
pub starts_longest : (s : List ℕ) {found : Longest} → found ≡ longest_of s → starts_of found.length (suffix_groups s 0) ≡ longest_starts s
unfolding longest_of
starts_longest s e = ap (λ u. starts_of u.length (suffix_groups s 0)) e ∙ ap (starts_of (longest s)) (sym (groups_start s)) ∙ longest_starts_lem s

module _ (s : List ℕ) {found : Longest} {run : ℕ} (m : Measures s found run) (d : List ℕ) {row : List ℕ} where
  pub listed_written : row ≡ written_at 0 (starts_of found.length (suffix_groups s 0)) d → row ≡ written (longest_starts s) d
  listed_written w = w ∙ ap (λ u. written u d) (starts_longest s m.best)

  -- one run holds them all
  pub run_written : run ≡ found.count → row ≡ written_at 0 (run_from found.start found.length run) d → row ≡ written (longest_starts s) d
  run_written h w =
      let all = take_all run (longest_starts s) (omega (arith, h, longest_count s m.best)) in
      w ∙ ap (λ u. written u d) (sym m.first ∙ all)
