-- What the call that answers an edit answers and leaves in its rows. The answer is read as its numbers, or the number of the refusal alone.
use Rattle.std.specs.Prelude.{List, [], ◌∷◌, ◌++◌, ◌≡◌, ℕ, zero, suc, length, Result, Ok, Err}
use Rattle.refusals.specs.Answers.{number_of}
use Rattle.refusals.specs.Refusals.{Refusal, first_of, unless_refused, too_short, edit_refusals}
use Rattle.rows.specs.Row.{written}
use Rattle.refusals.specs.declared.Refusal as call
use Rattle.words.specs.Edit.{edited, kept, resume, middle_groups}
use Rattle.words.specs.Tables.{longest, longest_starts}
use Rattle.edit.specs.declared.Counts.{Counts}

pub data Answer : Type 0 where
  Done : Counts → Answer
  Refused : ℕ → Answer

abbrev pub answer_told : Result Counts call.Refusal → Answer
answer_told (Ok c) = Done c
answer_told (Err e) = Refused (number_of e)

-- The numbers of the answer to an accepted edit.
unfoldable pub counts_of : List ℕ → ℕ → ℕ → List ℕ → Counts
counts_of s from to b =
    record {
      kept = kept s from to b;
      resume = resume s from to b;
      groups = length (middle_groups s from to b);
      length = longest (edited s from to b);
      starts = length (longest_starts (edited s from to b));
    }

-- Refusal 8 for rows of so many entries: the middle groups need one each, and so do the starts.
abbrev pub room_refusals : List ℕ → ℕ → ℕ → List ℕ → ℕ → ℕ → List Refusal
room_refusals s from to b room starts = too_short (length (middle_groups s from to b)) room ∷ too_short (length (longest_starts (edited s from to b))) starts ∷ []

abbrev pub all_refusals : List ℕ → List ℕ → List ℕ → ℕ → ℕ → List ℕ → ℕ → ℕ → List Refusal
all_refusals s array last from to b room starts = edit_refusals s array last from to b ++ room_refusals s from to b room starts

-- Each case of the answer: the numbers where nothing is refused, otherwise the refusal's number alone.
abbrev pub answer_of : ℕ → Counts → Answer
answer_of zero c = Done c
answer_of (suc k) c = Refused (suc k)

-- A call with these refusals that writes `out` for the middle groups: its answer and both rows afterwards.
pub record Fills {A : Type 0} (refusals : List Refusal) (s : List ℕ) (from to : ℕ) (b : List ℕ) (out row row' : List A) (starts starts' : List ℕ) (r : Answer) : Type 0 where
  pub answers : r ≡ answer_of (first_of refusals) (counts_of s from to b)
  pub middle : row' ≡ unless_refused (first_of refusals) (written out row) row
  pub places : starts' ≡ unless_refused (first_of refusals) (written (longest_starts (edited s from to b)) starts) starts
