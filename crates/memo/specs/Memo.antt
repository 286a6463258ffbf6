-- Agreements of bytes inside a pattern, and a memo of them.
use Rattle.std.specs.Prelude.{List, ℕ, ◌+◌, ◌≤◌, ◌<◌, length, get_or}
use Rattle.words.specs.Tables.{longest_at}
use Rattle.agreeing.specs.Agrees.{Agrees}
use Rattle.memo.specs.declared.Kept.{Kept}

-- The e bytes from p on agree with those from q on, inside the pattern.
pub record Alike (s : List ℕ) (p q e : ℕ) : Type 0 where
  pub inside : q + e ≤ length s
  pub agree : Agrees s p s q e

-- What a slot says of a place p: p agrees with the end of its word, and with p + step.
pub record Slot (s : List ℕ) (p edge step run : ℕ) : Type 0 where
  pub ends : Alike s p (p + longest_at s p) edge
  pub steps : Alike s p (p + step) run

-- An empty slot.
abbrev pub none : Kept
none = record { place = 0; edge = 0; distance = 0; run = 0 }

-- A memo of 256 slots, each true of its place.
pub record Memo (s : List ℕ) (memo : List Kept) : Type 0 where
  pub room : 256 ≤ length memo
  pub slot : (t : ℕ) → t < 256 → (get_or memo t none).place < length s
      → Slot s (get_or memo t none).place (get_or memo t none).edge (get_or memo t none).distance (get_or memo t none).run

-- What is known of the place i + d: it agrees with the end of its word, and i agrees with it.
pub record Knows (s : List ℕ) (i d edge shared : ℕ) : Type 0 where
  pub ends : Alike s (i + d) (i + d + longest_at s (i + d)) edge
  pub joins : Alike s i (i + d) shared
