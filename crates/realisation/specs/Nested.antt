-- Tables whose stretches nest. The stretch at i is the `get_or t i 0` places from i on; in a reach table it is the longest Lyndon substring there.
use Rattle.std.specs.Prelude.{Bool, true, false, List, ◌≡◌, ℕ, ◌+◌, ◌≤◌, ◌<◌, length, get_or}

-- The place behind the stretch at i.
abbrev pub end_of : List ℕ → ℕ → ℕ
end_of t i = i + get_or t i 0

-- Each stretch holds its start and lies within the table, and one that starts inside another ends inside it.
pub record Nests (t : List ℕ) : Type 0 where
  pub some : (i : ℕ) → i < length t → i < end_of t i
  pub within : (i : ℕ) → i < length t → end_of t i ≤ length t
  pub inside : (i j : ℕ) → i < length t → i < j → j < end_of t i → end_of t j ≤ end_of t i

-- The answer tells whether the table nests.
pub record NestsTold (t : List ℕ) (r : Bool) : Type 0 where
  pub yes : r ≡ true → Nests t
  pub no : r ≡ false → Nests t → ⊥
