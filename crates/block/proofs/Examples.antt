-- Blocks and their neighbours, computed from the definitions: what is a block, where its bytes are, and what is written.
use mathlib.Core.List.{List, [], ◌++◌}
use mathlib.Core.Path.{◌≡◌, refl}
use Prim.Native.Nat.{ℕ}
use lib.ListN.{replicate}
use Rattle.decimal.specs.Decimal.{codes, decimal, digit_count}
use Rattle.refusals.specs.Refusals.{first_of}
use Rattle.block_parts.specs.Block.{is_block, bytes_place, bytes_count, block_bytes, block_of}
use Rattle.block.specs.Calls.{read_refusals}

-- the number of the refusal, the place and the count
abbrev reads : List ℕ → ℕ × ℕ × ℕ
reads block = (first_of (read_refusals block), bytes_place block, bytes_count block)

pub example_read : (reads (codes "#10") ≡ (0, 3, 0)) × (reads (codes "#10\n") ≡ (0, 3, 0)) × (reads (codes "#11\n") ≡ (0, 3, 1))
    × (reads (codes "#3003abc\n") ≡ (0, 5, 3)) × (reads (codes "#9000000003abc") ≡ (0, 11, 3))
unfolding is_block bytes_place bytes_count block_bytes
example_read = (refl, refl, refl, refl, refl)

abbrev refuses : List ℕ → Type 0
refuses block = first_of (read_refusals block) ≡ 9

pub example_refused : refuses (codes "") × refuses (codes "#") × refuses (codes "#0abc\n") × refuses (codes "#1") × refuses (codes "#:")
    × refuses (codes "#13ab") × refuses (codes "#13abcd") × refuses (codes "#10\n\n") × refuses (codes "#10\r\n") × refuses (codes " #10")
    × refuses (codes "#2 1a") × refuses (codes "#9999999999abc")
unfolding is_block bytes_place bytes_count block_bytes
example_refused = (refl, refl, refl, refl, refl, refl, refl, refl, refl, refl, refl, refl)

-- 16,384 bytes are read, 16,385 are too many, and with a byte too many it is 9 that is told
pub example_order : (first_of (read_refusals (codes "#516384" ++ replicate 16384 97)) ≡ 0) × (first_of (read_refusals (codes "#516385" ++ replicate 16385 97)) ≡ 1)
    × (first_of (read_refusals (codes "#516385" ++ replicate 16386 97)) ≡ 9)
unfolding is_block bytes_place bytes_count block_bytes
example_order = (refl, refl, refl)

pub example_written : (block_of [] ≡ codes "#10") × (block_of (codes "abc") ≡ codes "#13abc") × (block_of (codes "0123456789") ≡ codes "#2100123456789")
unfolding block_of decimal digit_count
example_written = (refl, refl, refl)
