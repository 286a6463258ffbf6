-- What the call for the longest words answers and leaves in the lent row, for every input: the refusals in their order, then the result.
use Rattle.std.specs.Prelude.{List, [], ◌∷◌, ◌≡◌, ℕ, length, Result}
use Rattle.ranks.specs.Ranks.{ranked}
use Rattle.words.specs.Tables.{longest, longest_starts}
use Rattle.refusals.specs.Answers.{refusal_of}
use Rattle.std.specs.Result.{result_unwrap_or}
use Rattle.refusals.specs.Refusals.{Refusal, first_of, unless_refused, row_after, not_order, pattern_too_long, too_short}
use Rattle.refusals.specs.declared.Refusal as call
use Rattle.lyndon_words.specs.declared.Starts.{Starts}

-- The answer, as C gets it: the refusal's number, 0 for none, the length of the longest words, and how many starts were written.
pub record StartsTold : Type 0 where
  pub refusal : ℕ
  pub length : ℕ
  pub count : ℕ

abbrev pub starts_told : Result Starts call.Refusal → StartsTold
starts_told r =
    let starts = result_unwrap_or r (record { length = 0; count = 0 }) in
    record { refusal = refusal_of r; length = starts.length; count = starts.count }

-- longest_words
abbrev pub starts_refusals : List ℕ → List ℕ → List ℕ → List Refusal
starts_refusals s order row = not_order order ∷ pattern_too_long s ∷ too_short (length (longest_starts (ranked order s))) (length row) ∷ []

pub record StartsListed (s order row row' : List ℕ) (r : StartsTold) : Type 0 where
  pub refusal : r.refusal ≡ first_of (starts_refusals s order row)
  pub size : r.length ≡ unless_refused (first_of (starts_refusals s order row)) (longest (ranked order s)) 0
  pub count : r.count ≡ unless_refused (first_of (starts_refusals s order row)) (length (longest_starts (ranked order s))) 0
  pub leaves : row' ≡ row_after (first_of (starts_refusals s order row)) (longest_starts (ranked order s)) row
