-- Bytes from which on a pattern is greater than a word that begins with the byte c.
use Rattle.std.specs.Prelude.{List, ◌⊎◌, ◌≡◌, ℕ, ◌+◌, ◌≤◌, ◌<◌, get_or}

-- The bytes behind place t, before t + n, are c.
pub record Run (s : List ℕ) (c t n : ℕ) : Type 0 where
  pub at : (u : ℕ) → 0 < u → u < n → get_or s (t + u) 0 ≡ c

-- One of the seven bytes behind place t is not.
abbrev pub Breaks : List ℕ → ℕ → ℕ → Type 0
Breaks s c t = Run s c t 8 → ⊥

-- The byte behind place t is above d.
abbrev pub Exceeds : List ℕ → ℕ → ℕ → Type 0
Exceeds s d t = d < get_or s (t + 1) 0

-- Each byte from j on, before k, is above c, or is c where P is so of its place.
pub record Risen (s : List ℕ) (c : ℕ) (P : ℕ → Type 0) (j k : ℕ) : Type 0 where
  pub at : (t : ℕ) → j ≤ t → t < k → (c < get_or s t 0) ⊎ ((get_or s t 0 ≡ c) × P t)
