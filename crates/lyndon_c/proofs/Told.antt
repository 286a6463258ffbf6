-- The three numbers of a comparison, as they are taken off its answer.
use Rattle.std.specs.Prelude.{◌≡◌, Result, Ok, Err}
use Rattle.std.specs.Result.{result_unwrap_or}
use Rattle.std.specs.declared.cmp.Ordering.TheVariants.{Equal}
use mathlib.Core.Path.{refl}
use Rattle.comparing.specs.Compared.{smaller_of}
use Rattle.comparing.specs.declared.Compared.{Compared}
use Rattle.lyndon_compare.specs.Calls.{comparison_of}
use Rattle.refusals.specs.Answers.{refusal_of}
use Rattle.refusals.specs.declared.Refusal as call
use Rattle.lyndon_c.specs.Flat.{flat_of}

abbrev beside : Compared
beside = record { shared = 0; ordering = Equal }

pub flat_told : (a : Result Compared call.Refusal) → (refusal_of a, (result_unwrap_or a beside).shared, smaller_of (result_unwrap_or a beside).ordering) ≡ flat_of (comparison_of a)
flat_told (Ok c) = refl
flat_told (Err e) = refl
