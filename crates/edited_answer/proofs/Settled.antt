-- The program makes right tables and has room for every answer, so that only 2, 3 and 4 can refuse its edit.
use mathlib.Core.Bool.{Bool, true, false, cond}
use mathlib.Core.List.{List, [], ◌∷◌, ◌++◌}
use mathlib.Core.Path.{◌≡◌, refl, sym, ap, ◌∙◌}
use Prim.Native.Nat.{ℕ, zero, suc, ◌≤◌}
use native.Mathlib.Omega.{arith}
use lib.ListN.{length, take, drop, length-append}
use lib.Seq.{take_at}
use borrow.Author.Tests.{le-ltb}
use Rattle.edit.proofs.Filled.{middle_few}
use Rattle.edit.specs.Core.{room_refusals, all_refusals}
use Rattle.edit.specs.Inner.{max_middle}
use Rattle.edit_refusal.proofs.Passed.{passed_shape}
use Rattle.refusals.proofs.First.{first_earlier, first_later, First, first_is, first_passes, not_long, not_short, table_right}
use Rattle.edit_refusal.proofs.Refused.{Shaped}
use Rattle.refusals.specs.Filled.{Filled, Fills}
use Rattle.refusals.specs.Refusals.{edit_refusals, Refusal, first_of, row_after, max_pattern, pattern_too_long, no_stretch, block_too_long, edited_too_long, not_table, too_short}
use Rattle.words.proofs.Bounded.{length_table}
use Rattle.words.proofs.Edit.{length_edited}
use Rattle.words.proofs.Order.{same_refl}
use Rattle.words.specs.Bounded.{select, table}
use Rattle.words.specs.Edit.{edited}
use Rattle.words.specs.Order.{same}
use Rattle.words.specs.Tables.{lyndon_array, last_factors, lyndon_at, lyndon_starts, longest, longest_starts}

-- no more numbers pass a test than there are
select_few : (test : ℕ → Bool) (xs : List ℕ) → length (select test xs) ≤ length xs
select_few test [] = omega arith
select_few test (x ∷ xs) = go (test x) (select_few test xs)
  where
    go : (b : Bool) → length (select test xs) ≤ length xs → length (cond b (x ∷ select test xs) (select test xs)) ≤ suc (length xs)
    go true h = omega (arith, h)
    go false h = omega (arith, h)

starts_few : (t : List ℕ) → length (longest_starts t) ≤ length t
unfolding longest_starts lyndon_starts
starts_few t = omega (arith, select_few (lyndon_at t (longest t)) (table (λ k. k) (length t)), length_table {A = ℕ} (λ k. k) (length t))

-- a table that was made in a long row
module _ (s out row : List ℕ) {row' : List ℕ} {r : Filled} (h : length s ≤ max_pattern) (size : length out ≡ length s) (room : max_pattern ≤ length row)
    (w : Fills (pattern_too_long s ∷ too_short (length out) (length row) ∷ []) out (length s) row row' r) where
  made : row' ≡ out ++ drop (length out) row
  made =
      let e : first_of (pattern_too_long s ∷ too_short (length out) (length row) ∷ []) ≡ 0 =
      first_is (not_long s h (not_short (length out) (length row) (omega (arith, size)) First.none)) in
      w.leaves ∙ ap (λ k. row_after k out row) e

  made_long : length s ≤ length row'
  made_long = omega (arith, ap length made, size, length-append out (drop (length out) row))

  made_same : same (take (length s) row') out ≡ true
  made_same = rw (made, take_at out (drop (length out) row) (length s) size) (same_refl out)

  pub right : {rs : List Refusal} {k : ℕ} → First rs k → First (not_table out row' ∷ rs) k
  right f = table_right out row' (length s) size made_long made_same f

module _ (s array last : List ℕ) (from to : ℕ) (b : List ℕ) (room : ℕ) (starts : List ℕ) where
  abbrev shape : List Refusal
  shape = no_stretch s from to ∷ block_too_long b ∷ edited_too_long s from to b ∷ []

  abbrev tables : List Refusal
  tables = not_table (lyndon_array s) array ∷ not_table (last_factors s) last ∷ []

  abbrev rooms : List Refusal
  rooms = room_refusals s from to b room (length starts)

  module _ (h : length s ≤ max_pattern) (right_tables : First tables 0) (middle_room : max_middle ≤ room) (starts_room : max_pattern ≤ length starts) where
    past_first : (rs : List Refusal) → first_of (pattern_too_long s ∷ rs) ≡ first_of rs
    past_first rs = first_passes (pattern_too_long s) rs (le-ltb max_pattern (length s) h)

    room_left : Shaped s from to b → first_of rooms ≡ 0
    room_left p =
        let m = length_edited s from to b p.start p.stretch in
        first_is
        (not_short _ room (omega (arith, middle_few s from to b p.start p.stretch p.pattern p.block))
        (not_short _ (length starts) (omega (arith, starts_few (edited s from to b), m, p.fits)) First.none))

    passed : first_of shape ≡ 0 → first_of (edit_refusals s array last from to b) ≡ 0
    passed e =
        past_first (shape ++ tables) ∙ first_later shape tables (omega arith, (omega arith, (omega arith, tt))) e ∙ first_is right_tables

    pub settled : first_of (all_refusals s array last from to b room (length starts)) ≡ first_of shape
    settled = go (first_of shape) refl
      where
        go : (k : ℕ) → first_of shape ≡ k → first_of (all_refusals s array last from to b room (length starts)) ≡ first_of shape
        go zero e =
            first_later (edit_refusals s array last from to b) rooms
            (omega arith, (omega arith, (omega arith, (omega arith, (omega arith, (omega arith, tt)))))) (passed e)
            ∙ room_left (passed_shape s array last from to b refl (passed e)) ∙ sym e
        go (suc k) e = past_first (shape ++ (tables ++ rooms)) ∙ first_earlier shape (tables ++ rooms) e ∙ sym e
