-- What the calls on blocks answer and leave in the lent buffer, for every input.
use Rattle.std.specs.Prelude.{not, List, [], ◌∷◌, ◌≡◌, ℕ, length, Result}
use Rattle.std.specs.Result.{result_unwrap_or}
use Rattle.refusals.specs.Answers.{refusal_of}
use Rattle.refusals.specs.Filled.{Filled, Fills}
use Rattle.refusals.specs.declared.Refusal as call
use Rattle.refusals.specs.Refusals.{Refusal, first_of, unless_refused, pattern_too_long, too_short}
use Rattle.block_parts.specs.Block.{is_block, bytes_place, bytes_count, block_bytes, block_of}
use Rattle.block_place.specs.declared.Span.{Span}

-- The bytes are no definite length block. It is tested before 1.
abbrev pub not_block : List ℕ → Refusal
not_block block = record { number = 9; holds = not (is_block block) }

-- read_block; the pattern whose length is tested is what the block holds, and it is tested of a block only
abbrev pub read_refusals : List ℕ → List Refusal
read_refusals block = not_block block ∷ pattern_too_long (block_bytes block) ∷ []

-- The answer about a block, as C gets it: the refusal's number, 0 for none, the place of its bytes within it, and their count.
pub record Extent : Type 0 where
  pub refusal : ℕ
  pub place : ℕ
  pub count : ℕ

abbrev pub extent_of : Result Span call.Refusal → Extent
extent_of r =
    let span = result_unwrap_or r (record { place = 0; count = 0 }) in
    record { refusal = refusal_of r; place = span.place; count = span.count }

pub record BlockRead (block : List ℕ) (r : Extent) : Type 0 where
  pub refusal : r.refusal ≡ first_of (read_refusals block)
  pub place : r.place ≡ unless_refused (first_of (read_refusals block)) (bytes_place block) 0
  pub count : r.count ≡ unless_refused (first_of (read_refusals block)) (bytes_count block) 0

-- write_block; what it counts are bytes
abbrev pub BlockWritten : List ℕ → List ℕ → List ℕ → Filled → Type 0
BlockWritten s buffer buffer' r =
    Fills (pattern_too_long s ∷ too_short (length (block_of s)) (length buffer) ∷ []) (block_of s) (length (block_of s)) buffer buffer' r
