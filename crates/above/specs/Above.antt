-- Bytes that are above a given one, by their ranks.
use Rattle.std.specs.Prelude.{Bool, true, List, ◌≡◌, ℕ, ◌+◌, ◌≤◌, ◌<◌, length, get_or}
use Rattle.ranks.specs.Ranks.{rank, ranked}

-- The bytes from j on, before k, are above c.
pub record Above (s : List ℕ) (c j k : ℕ) : Type 0 where
  pub at : (t : ℕ) → j ≤ t → t < k → c < get_or s t 0

-- Where blocks of bytes above c that begin at j may end: in another order than byte order, which no ranks stand for, the bytes before are above.
pub record AboveEnd (ranks s : List ℕ) (c j k : ℕ) : Type 0 where
  pub after : j ≤ k
  pub within : k ≤ length s
  pub looked : 0 < length ranks → Above (ranked ranks s) (rank ranks c) j k

-- What is told of sixteen bytes from j on: in byte order, yes only where they are above c.
pub record AboveBlock (ranks s : List ℕ) (c j : ℕ) (r : Bool) : Type 0 where
  pub yes : r ≡ true → length ranks ≡ 0 → Above (ranked ranks s) (rank ranks c) j (j + 16)
