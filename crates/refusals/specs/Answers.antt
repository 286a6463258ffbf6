-- What calls answer, as numbers. The number of a refusal is the place of its case in the declaration, from 1 on; that of an answer is its refusal's,
-- and 0 where the call is not refused.
use Rattle.std.specs.Prelude.{ℕ, suc, Result, Ok, Err}
use denote.Enum.Declared.{tag_of}
use Rattle.refusals.specs.declared.Refusal as call
use Rattle.refusals.specs.contracts.Refusal.{the_type}

abbrev pub number_of : call.Refusal → ℕ
number_of refusal = suc (tag_of the_type refusal)

abbrev pub refusal_of : {A : Type 0} → Result A call.Refusal → ℕ
refusal_of (Ok x) = 0
refusal_of (Err refusal) = number_of refusal
