-- The calls on blocks one after the other, by their contracts: what was written is read, and what was read is written again.
use mathlib.Core.Bool.{true, false}
use mathlib.Core.List.{List, [], ◌∷◌}
use mathlib.Core.Logic.{◌⊎◌, inl, inr}
use mathlib.Core.Path.{◌≡◌, refl, sym, ap, ◌∙◌}
use Prim.Native.Nat.{ℕ, ◌+◌, ◌≤◌, ◌<◌}
use native.Mathlib.Omega.{arith}
use lib.ListN.{length, take, drop, replicate, length-append}
use lib.Seq.{take_at}
use Rattle.decimal.specs.Decimal.{decimal}
use Rattle.words.proofs.Bounded.{le_or_lt, true_or_false}
use Rattle.refusals.proofs.First.{First, none, holds, too_long, not_long, not_short, first_is}
use Rattle.refusals.specs.Refusals.{Refusal, first_of, unless_refused, row_after, max_pattern, pattern_too_long, too_short}
use Rattle.refusals.specs.Filled.{Filled}
use Rattle.block_parts.specs.Block.{bytes_place, bytes_count, block_bytes, is_block, block_of}
use Rattle.block.specs.Calls.{Extent, not_block, read_refusals, BlockRead, BlockWritten}
use Rattle.block_parts.proofs.Placed.{block_length}
use Rattle.block.proofs.Theorems.{written_read, Rewritten, read_written}

-- what an accepted call was given
not_too_long : (s : List ℕ) (rs : List Refusal) → first_of (pattern_too_long s ∷ rs) ≡ 0 → length s ≤ max_pattern
not_too_long s rs e = go (le_or_lt (length s) max_pattern)
  where
    go : (length s ≤ max_pattern) ⊎ (max_pattern < length s) → length s ≤ max_pattern
    go (inl h) = h
    go (inr h) =
        let f : First (pattern_too_long s ∷ rs) 1 = too_long s h in
        absurd (omega (arith, first_is f, e))

was_block : (block : List ℕ) → first_of (read_refusals block) ≡ 0 → is_block block ≡ true
was_block block e = go (true_or_false (is_block block))
  where
    go : (is_block block ≡ true) ⊎ (is_block block ≡ false) → is_block block ≡ true
    go (inl q) = q
    go (inr q) =
        let f : First (read_refusals block) 9 = holds {r = not_block block} (rw q refl) in
        absurd (omega (arith, first_is f, e))

was_short : (block : List ℕ) → first_of (read_refusals block) ≡ 0 → length (block_bytes block) ≤ max_pattern
was_short block e =
    let p : first_of (pattern_too_long (block_bytes block) ∷ []) ≡ 0 = rw (was_block block e) at e in
    not_too_long (block_bytes block) [] p

module _ (s : List ℕ) {buffer buffer' : List ℕ} {w : Filled} (written : BlockWritten s buffer buffer' w) (accepted : w.refusal ≡ 0) where
  none_holds : first_of (pattern_too_long s ∷ too_short (length (block_of s)) (length buffer) ∷ []) ≡ 0
  none_holds = sym written.refusal ∙ accepted

  pub block_written : take w.count buffer' ≡ block_of s
  block_written =
      let n = written.count ∙ ap (λ k. unless_refused k (length (block_of s)) 0) none_holds in
      let b = written.leaves ∙ ap (λ k. row_after k (block_of s) buffer) none_holds in
      rw (n, b) (take_at (block_of s) (drop (length (block_of s)) buffer) (length (block_of s)) refl)

-- a block that was written is read again with the pattern
pub written_then_read : {s buffer buffer' : List ℕ} {w : Filled} {r : Extent} → BlockWritten s buffer buffer' w → w.refusal ≡ 0
    → BlockRead (take w.count buffer') r
    → (r.refusal ≡ 0) × (r.place ≡ 2 + length (decimal (length s))) × (r.count ≡ length s)
    × (take r.count (drop r.place (take w.count buffer')) ≡ s)
unfolding block_bytes
written_then_read {s} {buffer} {buffer'} {w} {r} written accepted read =
    let p = written_read s (not_too_long s (too_short (length (block_of s)) (length buffer) ∷ []) (none_holds s written accepted)) in
    let b = block_written s written accepted in
    let q : BlockRead (block_of s) r = rw b at read in
    let place = q.place ∙ ap (λ k. unless_refused k (bytes_place (block_of s)) 0) p.0 in
    let count = q.count ∙ ap (λ k. unless_refused k (bytes_count (block_of s)) 0) p.0 in
    (q.refusal ∙ p.0, place ∙ p.1, count ∙ p.2, rw (b, place, count) p.3)

-- it takes no more room than the block that was read
rewritten_room : (block : List ℕ) → is_block block ≡ true → length (block_of (block_bytes block)) ≤ length block
rewritten_room block e =
    let w = read_written block e in
    let zeros = length-append (replicate w.zeros 48) w.is.digits in
    omega (arith, block_length w.was, block_length w.is, ap length w.digits, zeros, ap length w.bytes, ap length w.close)

-- a block that was read is written again, into a buffer as long as it, with the same bytes
pub read_then_written : {block buffer buffer' : List ℕ} {r : Extent} {w : Filled} → BlockRead block r → r.refusal ≡ 0
    → length block ≤ length buffer → BlockWritten (take r.count (drop r.place block)) buffer buffer' w
    → (w.refusal ≡ 0) × Rewritten block (take w.count buffer')
unfolding block_bytes
read_then_written {block} {buffer} {buffer'} {r} {w} read accepted room written =
    let e = sym read.refusal ∙ accepted in
    let place = read.place ∙ ap (λ k. unless_refused k (bytes_place block) 0) e in
    let count = read.count ∙ ap (λ k. unless_refused k (bytes_count block) 0) e in
    let bytes : take r.count (drop r.place block) ≡ block_bytes block = rw (place, count) refl in
    let again : BlockWritten (block_bytes block) buffer buffer' w = rw bytes at written in
    let is = was_block block e in
    let fits : First (pattern_too_long (block_bytes block) ∷ too_short (length (block_of (block_bytes block))) (length buffer) ∷ []) 0 =
    not_long (block_bytes block) (was_short block e)
    (not_short (length (block_of (block_bytes block))) (length buffer) (omega (arith, rewritten_room block is)) none) in
    let taken = again.refusal ∙ first_is fits in
    (taken, rw (block_written (block_bytes block) again taken) (read_written block is))
