-- A row that holds a table of a pattern in its first entries: it is long enough, and each entry is the table's.
use mathlib.Core.List.{List}
use mathlib.Core.Path.{◌≡◌, sym, ap, ◌∙◌}
use Prim.Native.Nat.{ℕ, ◌≤◌, ◌<◌}
use native.Mathlib.Omega.{arith}
use lib.ListN.{length, take, get_or, length-take}
use lib.Seq.{get_or-take}
use Rattle.words.specs.Tables.{longest_at, lyndon_array}
use Rattle.words.proofs.Tables.{lyndon_array_entry}

pub stored_long : (n : ℕ) (row table : List ℕ) → length table ≡ n → take n row ≡ table → n ≤ length row
stored_long n row table e h = omega (arith, length-take n row, ap length h)

pub stored_entry : (s row : List ℕ) → take (length s) row ≡ lyndon_array s → (i : ℕ) → i < length s → get_or row i 0 ≡ longest_at s i
stored_entry s row h i l = sym (get_or-take (length s) row i 0 l) ∙ ap (λ t. get_or t i 0) h ∙ lyndon_array_entry s i l
