-- What is proved of definite length blocks and of the calls on them: the test is right, a list of bytes is a block in at most one way, a
-- written block is read again with the pattern, and a read block written again differs only where it may.
use mathlib.Core.Bool.{true}
use mathlib.Core.List.{List, [], ◌++◌, append-nil}
use mathlib.Core.Logic.{inl}
use mathlib.Core.Path.{◌≡◌, refl, sym, ap, ◌∙◌}
use Prim.Native.Nat.{ℕ, ◌+◌, ◌≤◌, ◌<◌}
use native.Mathlib.Omega.{arith}
use lib.ListN.{length, replicate, length-append}
use Rattle.decimal.specs.Decimal.{codes, decimal}
use Rattle.decimal.proofs.Decimal.{length_decimal, count_least, decimal_text, read_nine}
use Rattle.decimal.proofs.Zeros.{digits_padded}
use Rattle.refusals.specs.Refusals.{first_of, max_pattern}
use Rattle.block_parts.specs.Block.{Block, bytes_place, bytes_count, block_bytes, is_block, block_of}
use Rattle.block.specs.Calls.{read_refusals}
use Rattle.block.proofs.Outcome.{first_none, few_digits, length_block}
use Rattle.block_parts.proofs.Tested.{test_block, block_test, block_place, block_count, block_holds, block_counts, block_ends}

-- the test is right, and the functions give the parts
pub tested_block : (block : List ℕ) → is_block block ≡ true → Block block (bytes_place block) (bytes_count block)
tested_block = test_block

pub block_tested : {block : List ℕ} {place count : ℕ} (b : Block block place count)
    → (is_block block ≡ true) × (bytes_place block ≡ place) × (bytes_count block ≡ count) × (block_bytes block ≡ b.bytes)
block_tested b = (block_test b, block_place b, block_count b, block_holds b)

-- in at most one way: place and count are functions of the bytes, and so are the parts
pub block_only : {block : List ℕ} {place count place' count' : ℕ} (a : Block block place count) (b : Block block place' count')
    → (place ≡ place') × (count ≡ count') × (a.digits ≡ b.digits) × (a.bytes ≡ b.bytes) × (a.close ≡ b.close)
block_only a b = (
  sym (block_place a) ∙ block_place b,
  sym (block_count a) ∙ block_count b,
  sym (block_counts a) ∙ block_counts b,
  sym (block_holds a) ∙ block_holds b,
  sym (block_ends a) ∙ block_ends b,
)

-- the block of a pattern
module _ (s : List ℕ) where
  abbrev digits : List ℕ
  digits = decimal (length s)

  block_of_lem : (n : ℕ) → n ≡ length s → n < 1000000000 → Block (block_of s) (2 + length (decimal n)) n
  unfolding block_of
  block_of_lem n e h =
      let t = decimal_text n in
      record {
        digits = decimal n;
        bytes = s;
        close = [];
        parts = rw e (sym (append-nil (codes "#" ++ decimal (length digits) ++ digits ++ s)));
        some = t.some;
        few = omega (arith, length_decimal n, count_least n 8 (omega arith));
        numeral = t.digits;
        counts = t.reads ∙ e;
        closes = inl refl;
        behind = refl;
        size = e;
      }

  pub written_block : length s < 1000000000 → Block (block_of s) (2 + length digits) (length s)
  written_block = block_of_lem (length s) refl

  -- it is read again with the pattern
  pub written_read : length s ≤ max_pattern
      → (first_of (read_refusals (block_of s)) ≡ 0) × (bytes_place (block_of s) ≡ 2 + length digits) × (bytes_count (block_of s) ≡ length s) × (block_bytes (block_of s) ≡ s)
  unfolding block_of_lem
  written_read h =
      let b = block_of_lem (length s) refl (omega arith) in
      (first_none b h, block_place b, block_count b, block_holds b)

  -- a buffer of this length always suffices
  pub block_room : length s ≤ max_pattern → length (block_of s) ≤ 7 + max_pattern
  block_room h = omega (arith, length_block s h, few_digits s h)

-- the digits of a count behind its leading zeros are those of the writer, which are the fewest
pub block_padded : {block : List ℕ} {place count : ℕ} (b : Block block place count) → (zeros : ℕ) × (b.digits ≡ replicate zeros 48 ++ decimal count)
block_padded b =
    let p = digits_padded b.digits (omega (arith, b.some)) b.numeral in
    (p.zeros, p.padded ∙ ap (λ k. replicate p.zeros 48 ++ decimal k) (b.counts ∙ sym b.size))

pub fewest_digits : {block : List ℕ} {place count : ℕ} (b : Block block place count) → length (decimal count) ≤ length b.digits
fewest_digits {block} {place} {count} b =
    let (zeros, e) = block_padded b in
    omega (arith, ap length e, length-append (replicate zeros 48) (decimal count))

-- Two blocks that differ in the leading zeros, the digit after the hash mark and the line feed alone: the same bytes and the same count, which
-- both headers denote. The second has no line feed.
pub record Rewritten (block block' : List ℕ) : Type 0 where
  pub place : ℕ
  pub place' : ℕ
  pub count : ℕ
  pub was : Block block place count
  pub is : Block block' place' count
  pub zeros : ℕ
  pub digits : was.digits ≡ replicate zeros 48 ++ is.digits
  pub bytes : was.bytes ≡ is.bytes
  pub close : is.close ≡ []

pub read_written : (block : List ℕ) → is_block block ≡ true → Rewritten block (block_of (block_bytes block))
unfolding block_of_lem
read_written block e =
    let b = test_block block e in
    let (zeros, padded) = block_padded b in
    let few = read_nine b.digits b.few b.numeral in
    rw (block_holds b)
    (record {
      place = bytes_place block;
      place' = 2 + length (decimal (bytes_count block));
      count = bytes_count block;
      was = b;
      is = block_of_lem b.bytes (bytes_count block) b.size (omega (arith, b.counts, b.size));
      zeros = zeros;
      digits = padded;
      bytes = refl;
      close = refl;
    })
