-- Which of the refusals 1 to 5 is the first: a law for each way through the tests.
use mathlib.Core.Bool.{true, false}
use mathlib.Core.List.{List, [], ◌∷◌}
use mathlib.Core.Path.{◌≡◌, refl, sym, ◌∙◌}
use Prim.Native.Nat.{ℕ, ◌+◌, ◌-◌, ◌≤◌, ◌<◌}
use native.Mathlib.Omega.{arith}
use lib.ListN.{length, take}
use borrow.Author.Tests.{lt-ltb, le-ltb}
use Rattle.refusals.specs.Refusals.{first_of, max_pattern, max_block, block_too_long, edited_too_long, not_table, edit_refusals}
use Rattle.refusals.proofs.First.{first_holds, first_passes}
use Rattle.ranks.proofs.Ranked.{length_ranked}
use Rattle.words.specs.Edit.{edited}
use Rattle.words.specs.Order.{same}
use Rattle.words.specs.Tables.{lyndon_array, last_factors}
use Rattle.words.proofs.Edit.{length_edited}
use Rattle.words.proofs.Tables.{lyndon_array_length, last_factors_length}

-- a row against a table of n entries
module _ (table row : List ℕ) (n : ℕ) (size : length table ≡ n) where
  row_short : length row < n → (not_table table row).holds ≡ true
  row_short h = rw (lt-ltb (length row) (length table) (omega (arith, size))) refl

  row_differs : n ≤ length row → same (take n row) table ≡ false → (not_table table row).holds ≡ true
  row_differs h e = rw (size, le-ltb (length row) n h, e) refl

  row_is : n ≤ length row → same (take n row) table ≡ true → (not_table table row).holds ≡ false
  row_is h e = rw (size, le-ltb (length row) n h, e) refl

-- an edit of a stretch of a pattern, and a block, none of them too long
pub record Shaped (s : List ℕ) (from to : ℕ) (b : List ℕ) : Type 0 where
  pub pattern : length s ≤ max_pattern
  pub start : from ≤ to
  pub stretch : to ≤ length s
  pub block : length b ≤ max_block
  pub fits : from + length b + (length s - to) ≤ max_pattern

module _ (s array last : List ℕ) (from to : ℕ) (b : List ℕ) where
  abbrev refused : ℕ
  refused = first_of (edit_refusals s array last from to b)

  pub refuses_pattern : max_pattern < length s → 1 ≡ refused
  refuses_pattern h = rw (lt-ltb max_pattern (length s) h) refl

  pub refuses_backward : length s ≤ max_pattern → to < from → 2 ≡ refused
  refuses_backward h k = rw (le-ltb max_pattern (length s) h, lt-ltb to from k) refl

  pub refuses_end : length s ≤ max_pattern → from ≤ to → length s < to → 2 ≡ refused
  refuses_end h k l = rw (le-ltb max_pattern (length s) h, le-ltb to from k, lt-ltb (length s) to l) refl

  past_stretch : length s ≤ max_pattern → from ≤ to → to ≤ length s
      → refused ≡ first_of (block_too_long b ∷ edited_too_long s from to b ∷ not_table (lyndon_array s) array ∷ not_table (last_factors s) last ∷ [])
  past_stretch h k l = rw (le-ltb max_pattern (length s) h, le-ltb to from k, le-ltb (length s) to l) refl

  pub refuses_block : length s ≤ max_pattern → from ≤ to → to ≤ length s → max_block < length b → 3 ≡ refused
  refuses_block h k l m = sym (past_stretch h k l ∙ rw (lt-ltb max_block (length b) m) refl)

  pub refuses_edited : length s ≤ max_pattern → from ≤ to → to ≤ length s → length b ≤ max_block → max_pattern < from + length b + (length s - to)
      → 4 ≡ refused
  refuses_edited h k l m n =
      let long : max_pattern < length (edited s from to b) = omega (arith, length_edited s from to b k l) in
      sym (past_stretch h k l ∙ rw (le-ltb max_block (length b) m, lt-ltb max_pattern (length (edited s from to b)) long) refl)

  past_edited : Shaped s from to b → refused ≡ first_of (not_table (lyndon_array s) array ∷ not_table (last_factors s) last ∷ [])
  past_edited e =
      let short : length (edited s from to b) ≤ max_pattern = omega (arith, e.fits, length_edited s from to b e.start e.stretch) in
      past_stretch e.pattern e.start e.stretch
      ∙ rw (le-ltb max_block (length b) e.block, le-ltb max_pattern (length (edited s from to b)) short) refl

  pub refuses_array_short : Shaped s from to b → length array < length s → 5 ≡ refused
  refuses_array_short e h =
      sym (past_edited e
      ∙ first_holds (not_table (lyndon_array s) array) (not_table (last_factors s) last ∷ [])
      (row_short (lyndon_array s) array (length s) (lyndon_array_length s) h))

  pub refuses_array : Shaped s from to b → length s ≤ length array → same (take (length s) array) (lyndon_array s) ≡ false → 5 ≡ refused
  refuses_array e h d =
      sym (past_edited e
      ∙ first_holds (not_table (lyndon_array s) array) (not_table (last_factors s) last ∷ [])
      (row_differs (lyndon_array s) array (length s) (lyndon_array_length s) h d))

  -- past the first of the tables
  module _ (e : Shaped s from to b) (h : length s ≤ length array) (d : same (take (length s) array) (lyndon_array s) ≡ true) where
    past_array : refused ≡ first_of (not_table (last_factors s) last ∷ [])
    past_array =
        past_edited e
        ∙ first_passes (not_table (lyndon_array s) array) (not_table (last_factors s) last ∷ [])
        (row_is (lyndon_array s) array (length s) (lyndon_array_length s) h d)

    pub refuses_last_short : length last < length s → 5 ≡ refused
    refuses_last_short k =
        sym (past_array ∙ first_holds (not_table (last_factors s) last) [] (row_short (last_factors s) last (length s) (last_factors_length s) k))

    pub refuses_last : length s ≤ length last → same (take (length s) last) (last_factors s) ≡ false → 5 ≡ refused
    refuses_last k f =
        sym (past_array ∙ first_holds (not_table (last_factors s) last) [] (row_differs (last_factors s) last (length s) (last_factors_length s) k f))

    pub refuses_none : length s ≤ length last → same (take (length s) last) (last_factors s) ≡ true → 0 ≡ refused
    refuses_none k f =
        sym (past_array ∙ first_passes (not_table (last_factors s) last) [] (row_is (last_factors s) last (length s) (last_factors_length s) k f))

-- each way through the tests, by the lengths of the bytes
pub ruleset ways_through = (refuses_pattern, refuses_backward, refuses_end, refuses_block, refuses_edited, refuses_array_short, refuses_array, refuses_last_short, refuses_last, refuses_none, length_ranked, length_edited)
