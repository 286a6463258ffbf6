-- What the call that tests a string answers, for every input: the refusals in their order, then whether it is a Lyndon word.
use Rattle.std.specs.Prelude.{Bool, false, List, [], ◌∷◌, ◌≡◌, ℕ, Result}
use Rattle.ranks.specs.Ranks.{ranked}
use Rattle.words.specs.Order.{lyndon}
use Rattle.refusals.specs.Answers.{refusal_of}
use Rattle.std.specs.Result.{result_unwrap_or}
use Rattle.refusals.specs.Refusals.{Refusal, first_of, unless_refused, not_order, pattern_too_long}
use Rattle.refusals.specs.declared.Refusal as call

-- The answer, as C gets it: the refusal's number, 0 for none, and whether the string is a Lyndon word, no where it is refused.
pub record Verdict : Type 0 where
  pub refusal : ℕ
  pub yes : Bool

abbrev pub verdict_of : Result Bool call.Refusal → Verdict
verdict_of r = record { refusal = refusal_of r; yes = result_unwrap_or r false }

-- is_lyndon
abbrev pub lyndon_refusals : List ℕ → List ℕ → List Refusal
lyndon_refusals w order = not_order order ∷ pattern_too_long w ∷ []

pub record LyndonTold (w order : List ℕ) (r : Verdict) : Type 0 where
  pub refusal : r.refusal ≡ first_of (lyndon_refusals w order)
  pub yes : r.yes ≡ unless_refused (first_of (lyndon_refusals w order)) (lyndon (ranked order w)) false
