-- What the functions between the table and its pattern know: entries from a place on, and an entry found.
use Rattle.std.specs.Prelude.{List, ◌≡◌, ℕ, ◌≤◌, length}
use Rattle.words.specs.Tables.{longest_at}
use Rattle.rows.specs.Filled.{Right}
use Rattle.memo.specs.Memo.{Memo}
use Rattle.memo.specs.declared.Kept.{Kept}

-- The table has its entries from place i on.
pub record EntriesFrom (s table : List ℕ) (i : ℕ) : Type 0 where
  pub room : length s ≤ length table
  pub right : Right (longest_at s) table i (length s)

-- The entry of i is found, and the memo is true as before.
pub record Reached (s : List ℕ) (i : ℕ) (memo : List Kept) (r : ℕ) : Type 0 where
  pub entry : r ≡ longest_at s i
  pub remains : Memo s memo
