-- The prefix table as it is made: where its scan stands, and what the row holds there.
use Rattle.std.specs.Prelude.{List, ℕ, ◌≤◌, length}
use Rattle.rows.specs.Filled.{Filled}
use Rattle.words.specs.Scan.{Scan}
use Rattle.prefix_table.specs.State.{last_to}

-- The scan from i stands at j, and the entries from i up to there are made, where the row was d.
pub record Making (s d row : List ℕ) (i j p : ℕ) : Type 0 where
  pub scan : Scan s i j p
  pub filled : Filled (last_to s) (length s) d row i j
  pub room : length s ≤ length d
