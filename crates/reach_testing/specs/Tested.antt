-- How far the entries of a row were tested against the reach table of a pattern.
use Rattle.std.specs.Prelude.{Bool, true, false, List, ◌≡◌, ℕ, ◌≤◌, ◌<◌, length, get_or}
use Rattle.words.specs.Tables.{longest_at}
use Rattle.reach_table.specs.Reached.{EntriesFrom}

-- The entries from a place on are right, or its own is wrong.
pub record TestedTo (s table : List ℕ) (left : ℕ) (wrong : Bool) : Type 0 where
  pub within : left ≤ length s
  pub right : wrong ≡ false → EntriesFrom s table left
  pub differs : wrong ≡ true → (left < length s) × (get_or table left 0 ≡ longest_at s left → ⊥)
