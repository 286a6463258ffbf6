-- The outcome of the calls on blocks by the first refusal that holds, and the length of a written block.
use mathlib.Core.List.{List, [], ◌∷◌, ◌++◌}
use mathlib.Core.Path.{◌≡◌, refl, sym, ap, ◌∙◌}
use Prim.Native.Nat.{ℕ, suc, ◌+◌, ◌≤◌, ◌<◌}
use native.Mathlib.Omega.{arith}
use lib.ListN.{length, length-append}
use Rattle.decimal.specs.Decimal.{codes, decimal}
use Rattle.decimal.proofs.Decimal.{length_decimal, count_least}
use Rattle.rows.specs.Written.{Fits, Writes}
use Rattle.rows.specs.declared.Writer.{Writer}
use Rattle.rows.proofs.Writing.{writes_then}
use Rattle.refusals.proofs.First.{First, none, holds, passes, too_long, not_long, first_is}
use Rattle.refusals.specs.Refusals.{first_of, unless_refused, max_pattern}
use Rattle.block_parts.specs.Block.{Block, bytes_place, bytes_count, block_bytes, block_of}
use Rattle.block.specs.Calls.{read_refusals, not_block, BlockRead}
use Rattle.block_parts.specs.Inner.{NoBlock}
use Rattle.block_parts.proofs.Placed.{decimal_one}
use Rattle.block_parts.proofs.Tested.{block_test, block_place, block_count, block_holds, no_block}

module _ {block : List ℕ} where
  pub first_nine : NoBlock block → first_of (read_refusals block) ≡ 9
  first_nine h =
      let f : First (read_refusals block) 9 = holds {r = not_block block} (rw (no_block h) refl) in
      first_is f

  module _ {place count : ℕ} (b : Block block place count) where
    size : length (block_bytes block) ≡ count
    size = ap length (block_holds b) ∙ sym b.size

    pub first_one : max_pattern < count → first_of (read_refusals block) ≡ 1
    first_one h =
        let f : First (read_refusals block) 1 = passes {r = not_block block} (rw (block_test b) refl) (too_long (block_bytes block) (omega (arith, size))) in
        first_is f

    pub first_none : count ≤ max_pattern → first_of (read_refusals block) ≡ 0
    first_none h = first_is (passes {r = not_block block} (rw (block_test b) refl) (not_long (block_bytes block) (omega (arith, size)) none))

-- what the reader answers
module _ {block : List ℕ} where
  pub read_refused : {k : ℕ} → first_of (read_refusals block) ≡ suc k → BlockRead block (record { refusal = suc k; place = 0; count = 0 })
  read_refused f =
      let e = sym f in
      record {
        refusal = e;
        place = ap (λ n. unless_refused n (bytes_place block) 0) e;
        count = ap (λ n. unless_refused n (bytes_count block) 0) e;
      }

  pub read_accepted : {place count : ℕ} → Block block place count → count ≤ max_pattern
      → BlockRead block (record { refusal = 0; place = place; count = count })
  read_accepted b h =
      let f = sym (first_none b h) in
      record {
        refusal = f;
        place = sym (block_place b) ∙ ap (λ n. unless_refused n (bytes_place block) 0) f;
        count = sym (block_count b) ∙ ap (λ n. unless_refused n (bytes_count block) 0) f;
      }

-- the block of a pattern, part by part
module _ (s : List ℕ) (h : length s ≤ max_pattern) where
  abbrev digits : List ℕ
  digits = decimal (length s)

  pub few_digits : length digits ≤ 5
  few_digits = omega (arith, length_decimal (length s), count_least (length s) 4 (omega arith))

  pub one_digit : length (decimal (length digits)) ≡ 1
  one_digit = ap length (decimal_one (length digits) (omega (arith, few_digits)))

  pub length_block : length (block_of s) ≡ 2 + length digits + length s
  unfolding block_of
  length_block =
      let mark = codes "#" ++ decimal (length digits) in
      omega (
        arith,
        one_digit,
        length-append (codes "#") (decimal (length digits)),
        length-append mark digits,
        length-append (mark ++ digits) s,
      )

  -- the hash mark, the digit after it, the count and the pattern, one behind the other
  pub block_put : {n : ℕ} {w w₁ w₂ w₃ w₄ : Writer} → Fits (block_of s) w → n ≡ length digits → Writes (35 ∷ []) w w₁ → Writes ((48 + n) ∷ []) w₁ w₂
      → Writes digits w₂ w₃ → Writes s w₃ w₄ → Writes (block_of s) w w₄
  unfolding block_of
  block_put {n} {w} {w₁} {w₂} room e p₁ p₂ p₃ p₄ =
      let mark = codes "#" ++ decimal (length digits) in
      let two : mark ≡ 35 ∷ (48 + n) ∷ [] = rw (decimal_one (length digits) (omega (arith, few_digits)), e) refl in
      let m₂ = length-append (codes "#") (decimal (length digits)) in
      let m₃ = length-append mark digits in
      let m₄ = length-append (mark ++ digits) s in
      let one = one_digit in
      let first : Writes mark w w₂ = rw two (writes_then p₁ p₂ (omega (arith, room))) in
      writes_then (writes_then first p₃ (omega (arith, room))) p₄ (omega (arith, room))
