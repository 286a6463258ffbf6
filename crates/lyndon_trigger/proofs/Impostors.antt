-- Impostors of `longest_word`, which `WordCut` does not admit: the bytes of the part are right and its place is not, or they are of another order.
-- Their names say what they do; the letters a and b stand for their ASCII codes.
use mathlib.Core.Bool.{true}
use mathlib.Core.List.{List, [], ◌∷◌, ◌++◌}
use mathlib.Core.Path.{◌≡◌, refl, ap}
use Prim.Native.Nat.{ℕ, zero, suc, ◌+◌, ◌≤◌, ◌<◌}
use native.Mathlib.Omega.{arith}
use lib.ListN.{length}
use Rattle.ranks.proofs.Examples.{reverse, reverse_is_order}
use Rattle.ranks.proofs.Marks.{byte_order_lem}
use Rattle.ranks.specs.Ranks.{is_order, byte_order, ranked}
use Rattle.words.specs.Tables.{lyndon_starts, longest, longest_starts, longest_word}
use Rattle.refusals.proofs.First.{none, passes, first_is, not_long}
use Rattle.refusals.specs.Refusals.{first_of, unless_refused, max_pattern, not_order, pattern_too_long}
use Rattle.lyndon_trigger.specs.Calls.{word_place, WordCut}

abbrev ab : List ℕ
ab = 97 ∷ 98 ∷ []

-- of every order
module _ (order : List ℕ) where
  -- an equal word in another allocation, as a copy of it has it
  pub copied_word : (at : ℕ × ℕ) (a : ℕ) → (a ≡ at.0 → ⊥) → WordCut ab order at ab (a, at.1) → ⊥
  copied_word at a h w = h (ap (λ p. p.0) w.place)

  -- the empty part elsewhere than at the front, of a call that is refused
  pub empty_part_elsewhere : (s : List ℕ) (at : ℕ × ℕ) (k : ℕ) → 0 < first_of (not_order order ∷ pattern_too_long s ∷ []) → 0 < k
      → WordCut s order at [] (at.0, k + at.1) → ⊥
  empty_part_elsewhere s at k h l w = omega (arith, ap (λ p. p.1) w.place, ap (λ p. p.0) nowhere, ap (λ p. p.1) nowhere)
    where
      go : (n : ℕ) → 0 < n → unless_refused n (longest_word (ranked order s)) (0, 0) ≡ (0, 0)
      go zero m = absurd (omega arith)
      go (suc n) m = refl

      nowhere : word_place s order ≡ (0, 0)
      nowhere = go (first_of (not_order order ∷ pattern_too_long s ∷ [])) h

-- of an order that is known to be one, which spares computing that
placed : (order s : List ℕ) → is_order order ≡ true → length s ≤ max_pattern → word_place s order ≡ longest_word (ranked order s)
placed order s e h = rw (first_is (passes {r = not_order order} (rw e) (not_long s h none)))

-- of ababab in byte order the second ab, and the last
first_word : word_place (ab ++ ab ++ ab) byte_order ≡ (0, 2)
unfolding byte_order longest_word longest_starts lyndon_starts longest
first_word = placed byte_order (ab ++ ab ++ ab) byte_order_lem (omega arith)

pub later_equal_word : (at : ℕ × ℕ) → WordCut (ab ++ ab ++ ab) byte_order at ab (at.0, 2 + at.1) → ⊥
later_equal_word at w = omega (arith, ap (λ p. p.1) w.place, ap (λ p. p.0) first_word)

pub last_equal_word : (at : ℕ × ℕ) → WordCut (ab ++ ab ++ ab) byte_order at ab (at.0, 4 + at.1) → ⊥
last_equal_word at w = omega (arith, ap (λ p. p.1) w.place, ap (λ p. p.0) first_word)

-- of ab in the reverse order the word that it is in byte order
first_letter : word_place ab reverse ≡ (0, 1)
unfolding longest_word longest_starts lyndon_starts longest
first_letter = placed reverse ab reverse_is_order (omega arith)

pub keeps_to_byte_order : (at : ℕ × ℕ) → WordCut ab reverse at ab at → ⊥
keeps_to_byte_order at w = omega (arith, ap length (rw first_letter at w.bytes))
