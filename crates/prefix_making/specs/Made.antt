-- What one scan from the start of a factor makes of a row that becomes the prefix table.
use Rattle.std.specs.Prelude.{List, ◌≡◌, ℕ, ◌≤◌, ◌<◌, length, get_or}
use Rattle.prefix_table.specs.State.{last_to, Next}

-- Entries from i up to r are those of the table; those before i and past the pattern are as they were.
pub record MadeFrom (s old new : List ℕ) (i r : ℕ) : Type 0 where
  pub next : Next s i r
  pub size : length new ≡ length old
  pub made : (k : ℕ) → i ≤ k → k < r → get_or new k 0 ≡ last_to s k
  pub before : (k : ℕ) → k < i → get_or new k 0 ≡ get_or old k 0
  pub past : (k : ℕ) → length s ≤ k → get_or new k 0 ≡ get_or old k 0
