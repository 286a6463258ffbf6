-- The fields of a line as their writers make them: a number and a comma, and the comma, the number and the line end.
use mathlib.Core.List.{◌++◌}
use Prim.Native.Nat.{ℕ}
use native.Mathlib.Omega.{arith}
use lib.ListN.{length-append}
use Rattle.rows.specs.Written.{Fits, Writes}
use Rattle.rows.specs.declared.Writer.{Writer}
use Rattle.rows.proofs.Writing.{writes_then}
use Rattle.decimal.specs.Decimal.{codes, decimal}
use Rattle.text.specs.Listing.{line_end, field, last_field}

module _ (n : ℕ) {w w₁ w₂ : Writer} where
  pub field_put : Fits (field n) w → Writes (decimal n) w w₁ → Writes (codes ",") w₁ w₂ → Writes (field n) w w₂
  field_put h p q = writes_then p q (omega (arith, h, length-append (decimal n) (codes ",")))

  pub last_put : {w₃ : Writer} → Fits (last_field n) w → Writes (codes ",") w w₁ → Writes (decimal n) w₁ w₂ → Writes line_end w₂ w₃ → Writes (last_field n) w w₃
  last_put h p q r =
      let m = length-append (codes "," ++ decimal n) line_end in
      let k = length-append (codes ",") (decimal n) in
      writes_then (writes_then p q (omega (arith, h))) r (omega (arith, h))
