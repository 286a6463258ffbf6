-- A comparison as C gets it: the refusal's number, the shared length, and which string is smaller.
use Rattle.std.specs.Prelude.{ℕ}
use Rattle.comparing.specs.Compared.{smaller_of}
use Rattle.lyndon_compare.specs.Calls.{Comparison, Done, Refused}

-- Each case of the answer: its numbers and refusal 0, or the refusal's number and zeros.
abbrev pub flat_of : Comparison → ℕ × ℕ × ℕ
flat_of (Done c) = (0, c.shared, smaller_of c.ordering)
flat_of (Refused k) = (k, 0, 0)
