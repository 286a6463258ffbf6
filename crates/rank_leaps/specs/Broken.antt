-- Bytes over which a word that begins with eight bytes c grows in another order: no eight bytes c begin there, and no rank is below that of c.
use Rattle.std.specs.Prelude.{List, ◌≡◌, ℕ, ◌+◌, ◌≤◌, ◌<◌, length, get_or}
use Rattle.rising.specs.Risen.{Breaks}

-- No eight bytes c begin at a place from j on, before k.
pub record Broken (s : List ℕ) (c j k : ℕ) : Type 0 where
  pub at : (t : ℕ) → j ≤ t → t < k → (t + 8 ≤ length s) × (get_or s t 0 ≡ c → Breaks s c t)

-- The numbers from j on, before k, are d or above.
pub record AtLeast (s : List ℕ) (d j k : ℕ) : Type 0 where
  pub at : (t : ℕ) → j ≤ t → t < k → d ≤ get_or s t 0
