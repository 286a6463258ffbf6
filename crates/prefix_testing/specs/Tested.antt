-- What one scan from the start of a factor tells of a row that may be the prefix table.
use Rattle.std.specs.Prelude.{List, ◌≡◌, ℕ, ◌≤◌, ◌<◌, length, get_or}
use Rattle.prefix_table.specs.State.{last_to, Next}

-- Some entry is not that of the table.
pub record Wrong (s row : List ℕ) : Type 0 where
  pub place : ℕ
  pub within : place < length s
  pub differs : get_or row place 0 ≡ last_to s place → ⊥

-- Where r is i, an entry is wrong; otherwise those from i up to r are right.
pub record TestedFrom (s row : List ℕ) (i r : ℕ) : Type 0 where
  pub wrong : r ≡ i → Wrong s row
  pub right : (r ≡ i → ⊥) → Next s i r × ((k : ℕ) → i ≤ k → k < r → get_or row k 0 ≡ last_to s k)
