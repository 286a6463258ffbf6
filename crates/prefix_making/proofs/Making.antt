-- The prefix table as it is made: one entry by one turn of the scan, and scan after scan.
use mathlib.Core.List.{List}
use mathlib.Core.Path.{◌≡◌, refl, ◌∙◌}
use Prim.Native.Nat.{ℕ, ◌+◌, ◌-◌, ◌%◌, ◌≤◌, ◌<◌}
use native.Mathlib.Omega.{arith}
use lib.ListN.{length, set, get_or, length-set}
use Rattle.words.specs.Demand.{FactorStart}
use Rattle.words.proofs.Scan.{Stops, scan_start}
use Rattle.rows.proofs.Fill.{Filled, filled_start, filled_none, filled_up}
use Rattle.scan.proofs.Next.{turn_same, turn_up}
use Rattle.prefix_table.specs.State.{last_to}
use Rattle.prefix_table.proofs.Start.{start_below}
use Rattle.prefix_table.proofs.Last.{scan_next, first_entry, up_entry, same_entry}
use Rattle.prefix_making_leaps.specs.Making.{Making}
use Rattle.prefix_making.specs.Made.{MadeFrom}

module _ {s : List ℕ} {i : ℕ} (q : FactorStart s i) where
  first_filled : (d : List ℕ) → length s ≤ length d → Filled (last_to s) (length s) d (set d i 1) i (i + 1)
  first_filled d room = filled_up (filled_none (last_to s) (length s) d i) room i 1 (first_entry q) (start_below q) (omega arith) refl

  pub making_start : (d : List ℕ) → length s ≤ length d → Making s (set d i 1) (set d i 1) i (i + 1) 1
  making_start d room =
      record {
        scan = scan_start s i (start_below q);
        filled = filled_start (last_to s) (length s) (first_filled d room).inside;
        room = omega (arith, length-set d i 1);
      }

  module _ {d row : List ℕ} {j p : ℕ} (m : Making s d row i j p) (l : j < length s) where
    pub making_up : get_or s (j - p) 0 < get_or s j 0 → Making s d (set row j (j + 1 - i)) i (j + 1) (j + 1 - i)
    making_up h =
        record {
          scan = turn_up m.scan l h;
          filled = filled_up m.filled m.room j (j + 1 - i) (up_entry q m.scan l h) l (omega arith) refl;
          room = m.room;
        }

    pub making_same : get_or s (j - p) 0 ≡ get_or s j 0 → Making s d (set row j (get_or row (j - p) 0)) i (j + 1) p
    making_same h =
        record {
          scan = turn_same m.scan l h;
          filled = filled_up m.filled m.room j (get_or row (j - p) 0) (same_entry q m.scan l row m.filled.inside h) l (omega arith) refl;
          room = m.room;
        }

  pub made_from : {d row : List ℕ} {j p : ℕ} → Making s (set d i 1) row i j p → Stops s j p
      → MadeFrom s d row i (j - (j - i) % p)
  made_from {d} {row} {j} {p} m h =
      let f = first_filled d (omega (arith, m.room, length-set d i 1)) in
      record {
        next = scan_next q m.scan h;
        size = m.filled.size ∙ f.size;
        made = λ k a b. m.filled.inside k a (omega arith);
        before = λ k a. m.filled.before k a ∙ f.before k a;
        past = λ k a. m.filled.past k a ∙ f.past k a;
      }

-- the row after another state
pub making_on : {s d row row' : List ℕ} {i j j' p p' : ℕ} → Making s d row i j p → Making s row row' i j' p' → Making s d row' i j' p'
making_on m o =
    record {
      scan = o.scan;
      filled =
          record {
            size = o.filled.size ∙ m.filled.size;
            inside = o.filled.inside;
            before = λ k a. o.filled.before k a ∙ m.filled.before k a;
            past = λ k a. o.filled.past k a ∙ m.filled.past k a;
          };
      room = m.room;
    }
