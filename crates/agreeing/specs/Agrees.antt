-- Bytes of two strings that agree from two places on.
use Rattle.std.specs.Prelude.{List, ◌≡◌, ℕ, ◌+◌, ◌≤◌, ◌<◌, length, get_or}

-- The n bytes from i of a and from j of b.
pub record Agrees (a : List ℕ) (i : ℕ) (b : List ℕ) (j n : ℕ) : Type 0 where
  pub at : (k : ℕ) → k < n → get_or a (i + k) 0 ≡ get_or b (j + k) 0

-- Both strings have `len` bytes there, and the first `from` agree.
pub record Begun (a : List ℕ) (i : ℕ) (b : List ℕ) (j from len : ℕ) : Type 0 where
  pub within : from ≤ len
  pub first : i + len ≤ length a
  pub second : j + len ≤ length b
  pub agree : Agrees a i b j from

-- The first n agree, at least `from` and at most `len`, and the next do not, where there are more.
pub record Agreed (a : List ℕ) (i : ℕ) (b : List ℕ) (j from len n : ℕ) : Type 0 where
  pub least : from ≤ n
  pub most : n ≤ len
  pub agree : Agrees a i b j n
  pub differ : n < len → get_or a (i + n) 0 ≡ get_or b (j + n) 0 → ⊥
