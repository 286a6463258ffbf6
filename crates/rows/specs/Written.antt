-- What a writer into a lent buffer answers and leaves there.
use Rattle.std.specs.Prelude.{List, ◌≡◌, ℕ, ◌+◌, ◌≤◌, length}
use Rattle.rows.specs.Row.{written_at}
use Rattle.rows.specs.declared.Writer.{Writer}

-- The text fits into the buffer from place i on.
abbrev pub Room : List ℕ → ℕ → List ℕ → Type 0
Room text i buffer = i + length text ≤ length buffer

-- The text stands in the buffer from place i on, the rest is as before, and the answer is the place after it.
pub record Puts (text : List ℕ) (i : ℕ) (buffer buffer' : List ℕ) (r : ℕ) : Type 0 where
  pub next : r ≡ i + length text
  pub leaves : buffer' ≡ written_at i text buffer

-- The text fits behind what the writer wrote.
abbrev pub Fits : List ℕ → Writer → Type 0
Fits text w = Room text w.at w.buffer.now

-- The writer puts the text there: it holds the same buffer as before, as long, and its place is the one after the text.
pub record Writes (text : List ℕ) (w w' : Writer) : Type 0 where
  pub same : w'.buffer.ghost_name ≡ w.buffer.ghost_name
  pub size : length w'.buffer.now ≡ length w.buffer.now
  pub next : w'.at ≡ w.at + length text
  pub leaves : w'.buffer.now ≡ written_at w.at text w.buffer.now
