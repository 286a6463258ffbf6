-- A line and the refusal line as their writers make them, field by field; the refusal line of every refusal is short.
use mathlib.Core.List.{List, ◌++◌}
use Prim.Native.Nat.{ℕ, ◌≤◌, ◌<◌}
use native.Mathlib.Omega.{arith}
use lib.ListN.{length, length-append}
use Rattle.rows.specs.Written.{Room, Fits, Writes}
use Rattle.rows.specs.declared.Writer.{Writer}
use Rattle.rows.proofs.Writing.{writes_then}
use Rattle.decimal.specs.Decimal.{codes}
use Rattle.text.specs.Hexadecimal.{hexadecimal}
use Rattle.text.specs.Listing.{field, last_field, line, refusal_text}
use Rattle.text.proofs.Lengths.{line_parts, refusal_parts, refusal_room}
use Rattle.refusals.specs.Answers.{number_of}
use Rattle.refusals.specs.declared.Refusal as call
use Rattle.refusals.specs.declared.Refusal.TheVariants.{PatternTooLong, PastEnd, BlockTooLong, EditedTooLong, NotTheTable, WordTooLong, NotLyndon, RowTooShort, NotABlock, Repeated, WantedTooLong, NoPattern, NotAnOrder}

-- a line, field by field
pub line_put : (start power : ℕ) (word : List ℕ) (column : ℕ) {w w₁ w₂ w₃ w₄ w₅ : Writer} → Fits (line start (length word) power word column) w
    → Writes (field start) w w₁ → Writes (field (length word)) w₁ w₂ → Writes (field power) w₂ w₃ → Writes (hexadecimal word) w₃ w₄
    → Writes (last_field column) w₄ w₅ → Writes (line start (length word) power word column) w w₅
unfolding line
line_put start power word column h p₁ p₂ p₃ p₄ p₅ =
    let n = line_parts start power word column in
    let two = field start ++ field (length word) in
    let three = two ++ field power in
    let m₂ = length-append (field start) (field (length word)) in
    let m₃ = length-append two (field power) in
    let m₄ = length-append three (hexadecimal word) in
    let q₂ = writes_then p₁ p₂ (omega arith) in
    let q₃ = writes_then q₂ p₃ (omega arith) in
    let q₄ = writes_then q₃ p₄ (omega arith) in
    writes_then q₄ p₅ (omega arith)

-- the refusal line
pub refusal_put : (number : ℕ) {w w₁ w₂ : Writer} → Fits (refusal_text number) w → Writes (codes "refused") w w₁ → Writes (last_field number) w₁ w₂
    → Writes (refusal_text number) w w₂
unfolding refusal_text
refusal_put number h p q = writes_then p q (omega (arith, h, refusal_parts number))

-- the number of a call's refusal is not 0, and its line is short
pub number_within : (e : call.Refusal) → (0 < number_of e) × (number_of e < 256)
number_within PatternTooLong = (omega arith, omega arith)
number_within PastEnd = (omega arith, omega arith)
number_within BlockTooLong = (omega arith, omega arith)
number_within EditedTooLong = (omega arith, omega arith)
number_within NotTheTable = (omega arith, omega arith)
number_within WordTooLong = (omega arith, omega arith)
number_within NotLyndon = (omega arith, omega arith)
number_within RowTooShort = (omega arith, omega arith)
number_within NotABlock = (omega arith, omega arith)
number_within Repeated = (omega arith, omega arith)
number_within WantedTooLong = (omega arith, omega arith)
number_within NoPattern = (omega arith, omega arith)
number_within NotAnOrder = (omega arith, omega arith)

pub refusal_fits : (e : call.Refusal) (d : List ℕ) → 13 ≤ length d → Room (refusal_text (number_of e)) 0 d
refusal_fits e d h = omega (arith, number_within e, refusal_room (number_of e) (omega (arith, number_within e)))
