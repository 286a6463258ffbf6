-- What the call for the least rotation answers, for every input: the refusals in their order, then the start.
use Rattle.std.specs.Prelude.{List, [], ◌∷◌, ◌≡◌, ℕ, ◌<◌, length, Result}
use Rattle.ranks.specs.Ranks.{ranked}
use Rattle.words.specs.Rotation.{least_rotation, UniqueLeast}
use Rattle.refusals.specs.Answers.{refusal_of}
use Rattle.std.specs.Result.{result_unwrap_or}
use Rattle.refusals.specs.Refusals.{Refusal, first_of, unless_refused, not_order, pattern_too_long, pattern_repeated}
use Rattle.refusals.specs.declared.Refusal as call

-- The answer, as C gets it: the refusal's number, 0 for none, and the start, 0 where the pattern is refused.
pub record Position : Type 0 where
  pub refusal : ℕ
  pub start : ℕ

abbrev pub position_of : Result ℕ call.Refusal → Position
position_of r = record { refusal = refusal_of r; start = result_unwrap_or r 0 }

-- least_rotation: the mark of an accepted pattern that is not empty names a single phase
abbrev pub rotation_refusals : List ℕ → List ℕ → List Refusal
rotation_refusals s order = not_order order ∷ pattern_too_long s ∷ pattern_repeated s ∷ []

pub record RotationFound (s order : List ℕ) (r : Position) : Type 0 where
  pub refusal : r.refusal ≡ first_of (rotation_refusals s order)
  pub start : r.start ≡ unless_refused (first_of (rotation_refusals s order)) (least_rotation (ranked order s)) 0
  pub unique : r.refusal ≡ 0 → 0 < length s → UniqueLeast (ranked order s) r.start
