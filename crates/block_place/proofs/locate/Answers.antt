-- `block_place::locate` meets its contract: each test that fails says why there is no block, and where all pass there is one.
use mathlib.Core.Logic.{◌⊎◌, inl, inr}
use mathlib.Core.Path.{◌≡◌, refl, sym, ◌∙◌}
use Prim.Native.Nat.{ℕ, ◌<◌}
use native.Mathlib.Omega.{arith}
use Rattle.decimal.proofs.Decimal.{read_nine}
use Rattle.block_parts.specs.Inner.{HeaderOf}
use Rattle.block_parts.specs.declared.Header.{Header}
use Rattle.block_parts.specs.declared.Header.TheVariants.{Definite, Indefinite, Other}
use Rattle.block_parts.proofs.Placed.{block_placed}
use Rattle.block_place.proofs.Missing.{not_said, field, length_field, cut_short, not_digits, all_digits, not_ended, ended}
use borrow.Author.Rules.{rules}
use Rattle.block_place.proofs.locate.Goals as goal

-- the second and third variant
other_said : (r : Header) {x : ℕ} → ((digits : ℕ) → r ≡ Definite digits → ⊥) → HeaderOf x r → (x ≡ 48) ⊎ ((x < 48) ⊎ (57 < x))
other_said (Definite digits) t h = absurd (t digits refl)
other_said Indefinite t h = inl h
other_said Other t h = inr h

pub returns-in_default : goal.returns-in_default
returns-in_default c = λ place count b. not_said (other_said c.header_of.result c.in_default.not-Definite c.header_of.ensures) refl (block_placed b)

pub returns-then-size-place : goal.returns-then-size-place
returns-then-size-place c =
    let block = c.args.block.now in
    let n = c.in-Definite.digits in
    let header = c.in-Definite.ensures in
    cut_short block n header.0 (search rules)

pub returns-then-leading_digits-digits : goal.returns-then-leading_digits-digits
returns-then-leading_digits-digits c =
    let block = c.args.block.now in
    let n = c.in-Definite.digits in
    let header = c.in-Definite.ensures in
    not_digits block n header.0 (omega arith) c.leading_digits.ensures (search rules)

pub overflow_add-place-2 : goal.overflow_add-place-2
overflow_add-place-2 c =
    let block = c.args.block.now in
    let n = c.in-Definite.digits in
    let header = c.in-Definite.ensures in
    let small = read_nine (field block n) (omega (arith, header.2, length_field block n header.0 (omega arith))) (all_digits block n header.0 (omega arith) c.leading_digits.ensures (omega arith)) in
    omega (arith, header.2, small, c.value_of-count.ensures)

pub returns-then-not-ends_at : goal.returns-then-not-ends_at
returns-then-not-ends_at c =
    let block = c.args.block.now in
    let n = c.in-Definite.digits in
    let header = c.in-Definite.ensures in
    not_ended block n header.0 c.value_of-count.ensures (sym c.ends_at.ensures ∙ c.if-not-ends_at.true)

pub returns : goal.returns
returns c =
    let block = c.args.block.now in
    let n = c.in-Definite.digits in
    let header = c.in-Definite.ensures in
    let mark = c.if-block-ne35.false in
    let numeral = all_digits block n header.0 (omega arith) c.leading_digits.ensures (omega arith) in
    ended block n header.0 c.value_of-count.ensures mark header.1 header.2 numeral (sym c.ends_at.ensures ∙ c.if-not-ends_at.false)
