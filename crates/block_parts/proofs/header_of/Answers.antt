-- `block_parts::header_of` meets its contract: the three arms are the three kinds of header.
use mathlib.Core.Logic.{inl, inr}
use native.Mathlib.Omega.{arith}
use Rattle.block_parts.proofs.header_of.Goals as goal

pub returns-in_default : goal.returns-in_default
returns-in_default c = inl (omega arith)

pub returns-in_default-2 : goal.returns-in_default-2
returns-in_default-2 c = inr (omega arith)
