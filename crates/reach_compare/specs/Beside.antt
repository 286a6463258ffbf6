-- Two words of a pattern, one right after the other: as they are to be compared, and as they were.
use Rattle.std.specs.Prelude.{Bool, List, ◌⊎◌, ◌≡◌, ℕ, ◌+◌, ◌-◌, ◌≤◌, ◌<◌, length, take, drop}
use Rattle.words.specs.Order.{less}
use Rattle.memo.specs.Memo.{Alike}

-- Two words to be compared, from i up to j and the y bytes from there on: both stand in the pattern, and the shorter has `len` bytes.
pub record Compares (s : List ℕ) (i j y len : ℕ) : Type 0 where
  pub follows : i < j
  pub fits : j + y ≤ length s
  pub first : len ≤ j - i
  pub second : len ≤ y
  pub shorter : (j - i ≤ len) ⊎ (y ≤ len)

-- The word from i up to j beside the next one, of y bytes: how far they agree, and whether it is smaller.
pub record Beside (s : List ℕ) (i j y e : ℕ) (up : Bool) : Type 0 where
  pub agree : Alike s i j e
  pub less : up ≡ less (take (j - i) (drop i s)) (take y (drop j s))
