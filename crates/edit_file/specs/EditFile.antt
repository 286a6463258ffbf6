-- What the file edit.csv holds: the line `from,to`, then one line of two numbers, both closed by carriage return and line feed.
-- proofs/Only proves that a file says at most one pair of numbers.
use Rattle.std.specs.Prelude.{List, ◌++◌, ◌≡◌, ℕ, ◌≤◌, length, Option, Some, None}
use Rattle.decimal.specs.Decimal.{codes, read, Digits}
use Rattle.edit_file.specs.declared.Stretch.{Stretch}

-- One to five digits that read as n; leading zeros are accepted.
pub record Numeral (cs : List ℕ) (n : ℕ) : Type 0 where
  pub some : 1 ≤ length cs
  pub few : length cs ≤ 5
  pub digits : Digits cs
  pub reads : read cs ≡ n

-- The first line.
abbrev pub header : List ℕ
header = codes "from,to\r\n"

-- The file's bytes say these two numbers.
pub record EditFile (bytes : List ℕ) (from to : ℕ) : Type 0 where
  pub first : List ℕ
  pub second : List ℕ
  pub parts : bytes ≡ header ++ (first ++ (codes "," ++ (second ++ codes "\r\n")))
  pub from_reads : Numeral first from
  pub to_reads : Numeral second to

-- The right answer: the two numbers, or that the bytes say none.
abbrev pub Answers : List ℕ → Option Stretch → Type 0
Answers bytes (Some p) = EditFile bytes p.from p.to
Answers bytes None = (from to : ℕ) → EditFile bytes from to → ⊥
