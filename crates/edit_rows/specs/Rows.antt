-- What the functions that write both rows are stated by.
use Rattle.std.specs.Prelude.{List, ◌≡◌, ℕ, ◌+◌, ◌≤◌, length}
use Rattle.cuts.specs.Bounds.{Boundary}
use Rattle.longest.specs.Best.{starts_of}
use Rattle.rows.specs.Row.{written, written_at}
use Rattle.words.specs.Factors.{factors, group_numbers}
use Rattle.words.specs.Tables.{suffix_groups}

-- Two boundaries of the factors of t, in this order: the index of the first is not past that of the second.
pub record Between (t : List ℕ) (end place : ℕ) : Type 0 where
  pub first : Boundary (factors t) end
  pub second : Boundary (factors t) place
  pub order : first.index ≤ second.index

-- The groups of t from `end` on are written, and the starts of their factors of one length from place `at` of their row on.
pub record WritesMiddle (t : List ℕ) (end size : ℕ) (numbers numbers' starts starts' : List ℕ) (at r : ℕ) : Type 0 where
  pub next : r ≡ at + length (starts_of size (suffix_groups t end))
  pub groups : numbers' ≡ written (group_numbers (suffix_groups t end)) numbers
  pub places : starts' ≡ written_at at (starts_of size (suffix_groups t end)) starts
