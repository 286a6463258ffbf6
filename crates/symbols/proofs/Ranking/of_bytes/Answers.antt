-- `Ranking::of_bytes` makes the ranks of byte order, which are none: the rank of a byte is the byte.
use mathlib.Core.Logic.{inl}
use mathlib.Core.Path.{refl}
use Rattle.symbols.proofs.Ranking.of_bytes.Goals as goal

pub invariant_of-result : goal.invariant_of-result
invariant_of-result c = record { known = record { size = inl refl; apart = λ a b f g e. e } }
