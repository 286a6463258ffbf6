-- One turn of the loop that writes a word in hexadecimal: a byte's two digits.
use mathlib.Core.List.{List, [], ◌∷◌, ◌++◌}
use mathlib.Core.Path.{◌≡◌, ap}
use Prim.Native.Nat.{ℕ, ◌+◌, ◌≤◌, ◌<◌}
use native.Mathlib.Numerals.{add-one}
use native.Mathlib.Omega.{arith}
use lib.ListN.{length, drop, get_or}
use lib.Seq.{drop-cons}
use Rattle.hex_digits.specs.Hex.{pair_of}
use Rattle.rows.specs.Written.{Writes}
use Rattle.rows.specs.declared.Writer.{Writer}
use Rattle.rows.proofs.Wrote.{wrote_room}
use Rattle.rows.proofs.Writing.{Writing, writing_part}
use Rattle.text.specs.Hexadecimal.{hexadecimal}

length_pair : (b : ℕ) (rest : List ℕ) → length (pair_of b ++ rest) ≡ 2 + length rest
unfolding pair_of
length_pair b rest = omega arith

word_left : (xs : List ℕ) (k : ℕ) → k < length xs → hexadecimal (drop k xs) ≡ pair_of (get_or xs k 0) ++ hexadecimal (drop (k + 1) xs)
word_left xs k h = rw add-one (ap hexadecimal (drop-cons xs k 0 h))

-- the digits of the byte at hand are written, those of the bytes behind it are left
module _ {text : List ℕ} {w w₁ : Writer} (xs : List ℕ) (k : ℕ) (h : k < length xs) (l : Writing text w w₁ (hexadecimal (drop k xs))) where
  pub word_room : w₁.at + 2 ≤ length w₁.buffer.now
  word_room = omega (arith, wrote_room l.puts, ap length (word_left xs k h), length_pair (get_or xs k 0) (hexadecimal (drop (k + 1) xs)))

  pub word_turn : {w₂ w₃ : Writer} (pair : List ℕ) → pair ≡ pair_of (get_or xs k 0) → Writes (get_or pair 0 0 ∷ []) w₁ w₂
      → Writes (get_or pair 1 0 ∷ []) w₂ w₃ → Writing text w w₃ (hexadecimal (drop (k + 1) xs))
  unfolding pair_of
  word_turn pair is p q =
      let left : Writing text w w₁ ((get_or pair 0 0 ∷ []) ++ ((get_or pair 1 0 ∷ []) ++ hexadecimal (drop (k + 1) xs))) =
      rw is (rw (word_left xs k h) at l) in
      writing_part _ _ (writing_part _ _ left p) q
