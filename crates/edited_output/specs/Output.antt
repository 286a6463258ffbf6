-- What the program `edited` is to print, for every content of its three files.
use Rattle.std.specs.Prelude.{List, ◌≡◌, ℕ, ◌≤◌, ◌<◌, length}
use Rattle.edit_file.specs.EditFile.{EditFile}
use Rattle.edited_answer.specs.Answer.{edit_output}
use Rattle.refusals.specs.Refusals.{max_pattern}
use Rattle.text.specs.Listing.{refusal_text, Begins}

-- What is printed for the contents of pattern.bin, block.bin and edit.csv.
pub record Output (s b csv out : List ℕ) : Type 0 where
  pub long : max_pattern < length s → out ≡ refusal_text 1
  pub malformed : length s ≤ max_pattern → ((from to : ℕ) → EditFile csv from to → ⊥) → out ≡ refusal_text 2
  pub edit : length s ≤ max_pattern → (from to : ℕ) → EditFile csv from to → out ≡ edit_output s from to b

-- The buffer begins with it.
pub record Prints (s b csv buffer buffer' : List ℕ) (r : ℕ) : Type 0 where
  pub out : List ℕ
  pub is : Output s b csv out
  pub begins : Begins out buffer buffer' r
