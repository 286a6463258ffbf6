-- Entries of a row that follow a rule, for what makes or tests a table entry by entry.
use Rattle.std.specs.Prelude.{List, ◌≡◌, ℕ, ◌≤◌, ◌<◌, length, get_or}

-- Entries `from` up to `to` of the row are those of f.
abbrev pub Right : (ℕ → ℕ) → List ℕ → ℕ → ℕ → Type 0
Right f row from to = (k : ℕ) → from ≤ k → k < to → get_or row k 0 ≡ f k

-- The same, where the row was d: entries before them, and those from n on, are as they were.
pub record Filled (f : ℕ → ℕ) (n : ℕ) (d row : List ℕ) (from to : ℕ) : Type 0 where
  pub size : length row ≡ length d
  pub inside : Right f row from to
  pub before : (k : ℕ) → k < from → get_or row k 0 ≡ get_or d k 0
  pub past : (k : ℕ) → n ≤ k → get_or row k 0 ≡ get_or d k 0
