-- The answer to an edit as one flat struct, for the calls that C and Rust link.
use Rattle.std.specs.Prelude.{◌≡◌}
use Rattle.edit.specs.Core.{Answer, Done, Refused}
use Rattle.edit_flat.specs.declared.EditAnswer.{EditAnswer}

-- Each case of the answer: its numbers and refusal 0, or the refusal's number and zeros.
abbrev pub flat_of : Answer → EditAnswer
flat_of (Done c) =
    record {
      refusal = 0;
      kept = c.kept;
      resume = c.resume;
      groups = c.groups;
      length = c.length;
      starts = c.starts;
    }
flat_of (Refused k) = record { refusal = k; kept = 0; resume = 0; groups = 0; length = 0; starts = 0 }

-- The struct is that of an answer which meets a contract.
pub record Exports (contract : Answer → Type 0) (r : EditAnswer) : Type 0 where
  pub answer : Answer
  pub meets : contract answer
  pub says : r ≡ flat_of answer
