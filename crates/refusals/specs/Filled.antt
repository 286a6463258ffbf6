-- What a call that fills a row answers and leaves in the row, by its refusals. The calls of the library each say which refusals and what result. What is
-- answered is read as C gets it: the refusal's number, 0 for none, and how many entries of its kind the call wrote.
use Rattle.std.specs.Prelude.{List, ◌≡◌, ℕ, Result}
use Rattle.refusals.specs.Refusals.{Refusal, first_of, unless_refused}
use Rattle.rows.specs.Row.{written}
use Rattle.refusals.specs.Answers.{refusal_of}
use Rattle.std.specs.Result.{result_unwrap_or}
use Rattle.refusals.specs.declared.Refusal as call

pub record Filled : Type 0 where
  pub refusal : ℕ
  pub count : ℕ

abbrev pub filled_of : Result ℕ call.Refusal → Filled
filled_of r = record { refusal = refusal_of r; count = result_unwrap_or r 0 }

-- A call with these refusals that writes `out`, which holds so many things, to a row: the answer, and the row afterwards.
pub record Fills (refusals : List Refusal) (out : List ℕ) (things : ℕ) (row row' : List ℕ) (r : Filled) : Type 0 where
  pub refusal : r.refusal ≡ first_of refusals
  pub count : r.count ≡ unless_refused (first_of refusals) things 0
  pub leaves : row' ≡ unless_refused (first_of refusals) (written out row) row
