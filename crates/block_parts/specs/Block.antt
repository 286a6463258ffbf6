-- Definite length blocks of IEEE 488.2 in the words of request (i), the place and count of the bytes within one, and the block of a pattern.
-- The proposition stands beside its test, and `Theorems` of `block` proves that they agree.
use Rattle.std.specs.Prelude.{Bool, ◌&&◌, ◌||◌, List, [], ◌++◌, ◌⊎◌, ◌≡◌, ℕ, ◌+◌, ◌-◌, ◌≤◌, leb, length, take, drop, get_or}
use Rattle.decimal.specs.Decimal.{codes, decimal, read, Digits}
use Rattle.words.specs.Bounded.{every}
use Rattle.words.specs.Order.{same}

-- A definite length block: the hash mark, a digit 1 to 9 that says how many digits follow, those digits, leading zeros allowed, which give
-- the byte count, exactly that many bytes, and at most one line feed. `place` and `count` are those of the bytes within it.
pub record Block (block : List ℕ) (place count : ℕ) : Type 0 where
  pub digits : List ℕ
  pub bytes : List ℕ
  pub close : List ℕ
  pub parts : block ≡ codes "#" ++ decimal (length digits) ++ digits ++ bytes ++ close
  pub some : 1 ≤ length digits
  pub few : length digits ≤ 9
  pub numeral : Digits digits
  pub counts : read digits ≡ length bytes
  pub closes : (close ≡ []) ⊎ (close ≡ codes "\n")
  pub behind : place ≡ 2 + length digits
  pub size : count ≡ length bytes

-- Of a block: how many digits the byte after the hash mark says, and those digits.
abbrev pub digits_said : List ℕ → ℕ
digits_said block = get_or block 1 0 - 48

abbrev pub count_digits : List ℕ → List ℕ
count_digits block = take (digits_said block) (drop 2 block)

-- The place of its bytes, their count, and the bytes.
unfoldable pub bytes_place : List ℕ → ℕ
bytes_place block = 2 + digits_said block

unfoldable pub bytes_count : List ℕ → ℕ
bytes_count block = read (count_digits block)

unfoldable pub block_bytes : List ℕ → List ℕ
block_bytes block = take (bytes_count block) (drop (bytes_place block) block)

-- The test of `Digit`.
abbrev pub digit : ℕ → Bool
digit c = leb 48 c && leb c 57

-- The hash mark, a digit 1 to 9, and as many digits as it says; past the end stands 0, which is no digit.
abbrev pub headed : List ℕ → Bool
headed block =
    same (take 1 block) (codes "#") && leb 1 (digits_said block) && leb (digits_said block) 9
    && every (λ k. digit (get_or (count_digits block) k 0)) (digits_said block)

-- The block ends at this place, or behind one line feed there.
abbrev pub ends_at : ℕ → List ℕ → Bool
ends_at end block = leb end (length block) && (same (drop end block) [] || same (drop end block) (codes "\n"))

unfoldable pub is_block : List ℕ → Bool
is_block block = headed block && ends_at (bytes_place block + bytes_count block) block

-- The block that is written for a pattern of fewer than 1,000,000,000 bytes: the fewest digits, and no line feed.
unfoldable pub block_of : List ℕ → List ℕ
block_of s =
    let digits = decimal (length s) in
    codes "#" ++ decimal (length digits) ++ digits ++ s
