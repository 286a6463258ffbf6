-- What the chain through the table of last factors answers at a place: the last group of the prefix that ends there.
use Rattle.std.specs.Prelude.{List, [], ◌∷◌, ◌++◌, ◌≡◌, ℕ, ◌-◌, ◌*◌, ◌≤◌, ◌<◌}
use Rattle.words.specs.Tables.{prefix_groups}

-- The last group of the first q symbols has this factor length and power, and the others are those before its start.
pub record LastGroup (s : List ℕ) (q size power : ℕ) : Type 0 where
  pub factor : 0 < size
  pub some : 0 < power
  pub fits : power * size ≤ q
  pub group : prefix_groups s q ≡ prefix_groups s (q - power * size) ++ (record { start = q - power * size; size = size; power = power } ∷ [])
