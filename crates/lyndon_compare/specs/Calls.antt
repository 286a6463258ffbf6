-- What the call that compares two strings answers, for every input.
use Rattle.std.specs.Prelude.{List, [], ◌∷◌, ℕ, Result, Ok, Err}
use Rattle.refusals.specs.declared.Refusal as call
use Rattle.refusals.specs.Answers.{number_of}
use Rattle.refusals.specs.Refusals.{first_of, unless_refused, not_order, pattern_too_long}
use Rattle.comparing.specs.Compared.{compared}
use Rattle.comparing.specs.declared.Compared.{Compared}

-- The shared length and which is smaller, or the refusal's number alone.
pub data Comparison : Type 0 where
  Done : Compared → Comparison
  Refused : ℕ → Comparison

abbrev pub comparison_of : Result Compared call.Refusal → Comparison
comparison_of (Ok c) = Done c
comparison_of (Err e) = Refused (number_of e)

-- compare: the two numbers where nothing is refused, otherwise the refusal's number alone. 1 holds where either string is too long.
abbrev pub comparison : List ℕ → List ℕ → List ℕ → Comparison
comparison a b order =
    let refusal = first_of (not_order order ∷ pattern_too_long a ∷ pattern_too_long b ∷ []) in
    unless_refused refusal (Done (compared order a b)) (Refused refusal)
