-- The lengths of words, lines and the refusal line.
use mathlib.Core.List.{List, [], ◌∷◌}
use mathlib.Core.Path.{◌≡◌, refl, ap, ◌∙◌}
use Prim.Native.Nat.{ℕ, ◌+◌, ◌*◌, ◌≤◌, ◌<◌}
use native.Mathlib.Omega.{arith}
use lib.ListN.{length, length-append}
use Rattle.hex_digits.specs.Hex.{pair_of}
use Rattle.decimal.specs.Decimal.{codes, digit_count, decimal}
use Rattle.decimal.proofs.Decimal.{count_least, length_decimal}
use Rattle.text.specs.Hexadecimal.{hexadecimal}
use Rattle.text.specs.Listing.{header, field, last_field, line, refusal_text}

pub length_hexadecimal : (w : List ℕ) → length (hexadecimal w) ≡ 2 * length w
unfolding pair_of
length_hexadecimal [] = refl
length_hexadecimal (b ∷ w) = omega (arith, length_hexadecimal w)

pub length_header : length header ≡ 32
unfolding header
length_header = refl

pub length_field : (n : ℕ) → length (field n) ≡ digit_count n + 1
length_field n = length-append (decimal n) (codes ",") ∙ ap (λ k. k + 1) (length_decimal n)

pub length_last : (n : ℕ) → length (last_field n) ≡ digit_count n + 3
length_last n = simp (length-append, length_decimal) (omega arith)

pub line_parts : (start power : ℕ) (word : List ℕ) (column : ℕ) → length (line start (length word) power word column)
    ≡ length (field start) + length (field (length word)) + length (field power) + length (hexadecimal word) + length (last_field column)
unfolding line
line_parts start power word column = simp length-append

pub line_counts : (start power : ℕ) (word : List ℕ) (column : ℕ) → length (line start (length word) power word column)
    ≡ length (decimal start) + length (decimal (length word)) + length (decimal power) + length (decimal column) + 2 * length word + 6
unfolding line
line_counts start power word column = simp (length-append, length_hexadecimal) (omega arith)

-- the refusal line
pub refusal_parts : (number : ℕ) → length (refusal_text number) ≡ 7 + length (last_field number)
unfolding refusal_text
refusal_parts number = length-append (codes "refused") (last_field number)

-- numbers of refusals have at most three digits
pub refusal_room : (number : ℕ) → number < 1000 → length (refusal_text number) ≤ 13
refusal_room number h = omega (arith, refusal_parts number, length_last number, count_least number 2 (omega arith))
