-- How long the lines of a pass over the groups are at most: 20 for each byte.
use mathlib.Core.List.{List, ◌∷◌, ◌++◌}
use mathlib.Core.Logic.{◌⊎◌, inl, inr}
use mathlib.Core.Path.{◌≡◌, sym, ap, ◌∙◌}
use Prim.Native.Nat.{ℕ, ◌+◌, ◌-◌, ◌*◌, ◌≤◌, ◌<◌}
use native.Mathlib.Nat.{mul-le-mul_right}
use native.Mathlib.Omega.{arith}
use lib.ListN.{length, drop, replicate, length-append, length-drop, length-replicate}
use Rattle.ranks.specs.Ranks.{ranked}
use Rattle.ranks.proofs.Ranked.{length_ranked}
use Rattle.words.specs.Factors.{join, factors, Group, word_of}
use Rattle.words.specs.Tables.{suffix_groups}
use Rattle.words.proofs.Bounded.{le_or_lt}
use Rattle.words.proofs.Factors.{Falling, join_append, join_factors, factors_falling, factors_few, falling_right}
use Rattle.words.proofs.Groups.{group, Packed, none, more, packed}
use Rattle.words.proofs.Neighbours.{Standing, behind_stand}
use Rattle.words.proofs.Repeated.{repeat_length}
use Rattle.decimal.specs.Decimal.{digit_count}
use Rattle.decimal.proofs.Decimal.{length_decimal, count_least}
use Rattle.text.specs.Listing.{shared_column, line, lines}
use Rattle.text.proofs.Column.{first_column}
use Rattle.text.proofs.Lengths.{length_hexadecimal}

length_line : (start size power : ℕ) (word : List ℕ) (column : ℕ) → length (line start size power word column)
    ≡ digit_count start + digit_count size + digit_count power + digit_count column + 2 * length word + 6
unfolding line
length_line start size power word column = simp (length-append, length_decimal, length_hexadecimal) (omega arith)

-- of e equal factors
length_joined : (e : ℕ) (f : List ℕ) (fs : List (List ℕ)) → length (join (replicate e f ++ fs)) ≡ e * length f + length (join fs)
length_joined e f fs =
    ap length (join_append (replicate e f) fs) ∙ length-append (join (replicate e f)) (join fs) ∙ ap (λ n. n + length (join fs)) (repeat_length f e)

-- with places, lengths and powers of 16 bits, which have at most five digits; on the line of a word of one byte, length and column have one
line_most : (i l e : ℕ) (word : List ℕ) (column : ℕ) → i ≤ 65535 → l ≤ 65535 → e ≤ 65535 → length word ≡ l → column < l
    → length (line i l e word column) ≤ 20 * l
line_most i l e word column h k m w c = go (le_or_lt l 1)
  where
    parts : length (line i l e word column) ≤ 10 + digit_count l + digit_count column + 2 * l + 6
    parts = omega (arith, length_line i l e word column, count_least i 4 (omega arith), count_least e 4 (omega arith))

    go : (l ≤ 1) ⊎ (1 < l) → length (line i l e word column) ≤ 20 * l
    go (inl one) = omega (arith, parts, count_least l 0 (omega arith), count_least column 0 (omega arith))
    go (inr two) = omega (arith, parts, count_least l 4 (omega arith), count_least column 4 (omega arith))

-- the groups are of the ranks, under any order
module _ (o s : List ℕ) where
  packed_bound : {i : ℕ} {fs : List (List ℕ)} {gs : List Group} → Packed i fs gs → Falling fs → drop i (ranked o s) ≡ join fs
      → length fs ≤ 65535 → i + length (join fs) ≤ 65535 → length (lines s gs) ≤ 20 * length (join fs)
  packed_bound none a j h l = omega arith
  packed_bound {i} (more e f fs {gs} n h p) a j k l =
      let g = group i (length f) e in
      let m = length_joined e f fs in
      let one : 1 ≤ e = omega arith in
      let fits : length f ≤ e * length f = omega (arith, mul-le-mul_right (length f) one) in
      let all : length (replicate e f ++ fs) ≡ e + length fs = length-append (replicate e f) fs ∙ ap (λ u. u + length fs) (length-replicate e f) in
      let here : Standing (ranked o s) (g ∷ gs) =
      record { place = i; words = replicate e f ++ fs; packing = more e f fs n h p; falling = a; stand = j } in
      let (short, size) = first_column o s g gs here in
      omega (
        arith,
        m,
        packed_bound p (falling_right (replicate e f) fs a) (behind_stand (ranked o s) i e f fs j) (omega arith) (omega arith),
        length-append (line i (length f) e (word_of s g) (shared_column s g gs)) (lines s gs),
        line_most i (length f) e (word_of s g) (shared_column s g gs) (omega arith) (omega arith) (omega arith) size short,
      )

  -- the lines of a pattern whose places are 16-bit numbers
  pub suffix_most : (i : ℕ) → i ≤ length s → length s ≤ 65535 → length (lines s (suffix_groups (ranked o s) i)) ≤ 20 * length s
  unfolding suffix_groups
  suffix_most i h l =
      let rest = drop i (ranked o s) in
      let few = factors_few rest in
      let size : length rest ≡ length s - i = length-drop i (ranked o s) ∙ ap (λ n. n - i) (length_ranked o s) in
      let n : length (join (factors rest)) ≡ length s - i = ap length (join_factors rest) ∙ size in
      let bound = packed_bound (packed i (factors rest)) (factors_falling rest) (sym (join_factors rest)) (omega (arith, few, size)) (omega (arith, n)) in
      omega (arith, bound, n)
