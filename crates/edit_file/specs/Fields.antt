-- What the inner function answers: a number with the byte that closes it.
use Rattle.std.specs.Prelude.{List, ◌∷◌, ◌++◌, ◌≡◌, ℕ, ◌+◌, length, drop, Option, Some, None}
use Rattle.edit_file.specs.EditFile.{Numeral}
use Rattle.edit_file.specs.declared.Closed.{Closed}

-- The text starts with a number and the closing byte; `end` is the place behind that byte.
pub record Closes (text : List ℕ) (close value end : ℕ) : Type 0 where
  pub spelled : List ℕ
  pub numeral : Numeral spelled value
  pub front : text ≡ spelled ++ (close ∷ drop end text)
  pub place : end ≡ length spelled + 1

-- The right answer: such a number, or that the text starts with none.
abbrev pub FieldOf : List ℕ → ℕ → Option Closed → Type 0
FieldOf text close (Some f) = Closes text close f.value f.end
FieldOf text close None = (cs : List ℕ) (n : ℕ) (rest : List ℕ) → Numeral cs n → text ≡ cs ++ (close ∷ rest) → ⊥
