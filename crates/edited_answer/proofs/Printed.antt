-- What is left of an edit that was answered is all that is printed for it.
use mathlib.Core.Bool.{not}
use mathlib.Core.List.{List, [], ◌∷◌}
use mathlib.Core.Path.{◌≡◌, refl, sym, ap, ◌∙◌}
use Prim.Native.Nat.{ℕ, zero, suc, ◌≤◌}
use native.Mathlib.Omega.{arith}
use lib.ListN.{length, replicate, length-replicate}
use Rattle.edit.proofs.Answers.{done_accepted}
use Rattle.edit.specs.Core.{Answer, Done, Refused, room_refusals, all_refusals, answer_of, counts_of}
use Rattle.edit.specs.Inner.{max_middle, FillsNumbers}
use Rattle.edit.specs.declared.Counts.{Counts}
use Rattle.lyndon_tables.specs.Calls.{ArrayMade, LastFactorsMade}
use Rattle.edit_refusal.proofs.Passed.{passed_shape}
use Rattle.edit_refusal.proofs.Refused.{Shaped}
use Rattle.ranks.specs.Ranks.{Bytes, is_order, byte_order, ranked}
use Rattle.ranks.proofs.Marks.{byte_order_lem}
use Rattle.ranks.proofs.Ranked.{byte_ranked, written_byte_order}
use Rattle.refusals.proofs.First.{First, first_zero, first_passes}
use Rattle.refusals.specs.Filled.{Filled, Fills}
use Rattle.refusals.specs.Refusals.{Refusal, edit_refusals, first_of, not_order, pattern_too_long, too_short, max_pattern, no_stretch, block_too_long, edited_too_long}
use Rattle.text_lines.proofs.Lines.{listing_room}
use Rattle.text.specs.Inner.{max_listing}
use Rattle.text.specs.Listing.{edited_text, refusal_text, printed}
use Rattle.rows.specs.Row.{written}
use Rattle.rows.specs.Written.{Room, Puts}
use Rattle.words.proofs.Edit.{length_edited}
use Rattle.words.proofs.Tables.{lyndon_array_length, last_factors_length}
use Rattle.words.specs.Edit.{edited}
use Rattle.words.specs.Tables.{lyndon_array, last_factors}
use Rattle.edited_answer.specs.Answer.{edit_output}
use Rattle.edited_answer.proofs.Settled.{right, settled}

-- an answer of this number that is a refusal
line_printed : (m : ℕ) (c : Counts) (text : List ℕ) {k : ℕ} → Refused k ≡ answer_of m c → printed m text ≡ refusal_text k
line_printed zero c text e = absurd (omega (arith, ap is_done e))
  where
    is_done : Answer → ℕ
    is_done (Done c) = 1
    is_done (Refused k) = 0
line_printed (suc m) c text {k} e = let q : suc m ≡ k = cc in ap refusal_text q

pub order_filled : {order : List ℕ} → order ≡ written byte_order (replicate 256 0) → order ≡ byte_order
order_filled e = e ∙ written_byte_order (replicate 256 0) (length-replicate {A = ℕ} 256 0)

-- the order handed over is byte order, under which an answer is the one that names no order
module _ {order : List ℕ} (is : order ≡ byte_order) where
  past_order : (rs : List Refusal) → first_of (not_order order ∷ rs) ≡ first_of rs
  past_order rs = first_passes (not_order order) rs (ap (λ o. not (is_order o)) is ∙ ap not byte_order_lem)

  plain_ranks : (s : List ℕ) → Bytes s → ranked order s ≡ s
  plain_ranks s h = ap (λ o. ranked o s) is ∙ byte_ranked s h

  plain_made : {rs : List Refusal} {out row row' : List ℕ} {n : ℕ} {r : Filled} → Fills (not_order order ∷ rs) out n row row' r → Fills rs out n row row' r
  plain_made {rs} w =
      let e = past_order rs in
      record { refusal = rw e at w.refusal; count = rw e at w.count; leaves = rw e at w.leaves }

  plain_array : (s : List ℕ) {row row' : List ℕ} {r : Filled} → Bytes s → ArrayMade s order row row' r
      → Fills (pattern_too_long s ∷ too_short (length (lyndon_array s)) (length row) ∷ []) (lyndon_array s) (length s) row row' r
  plain_array s h w = plain_made (rw (plain_ranks s h) at w)

  plain_last : (s : List ℕ) {row row' : List ℕ} {r : Filled} → Bytes s → LastFactorsMade s order row row' r
      → Fills (pattern_too_long s ∷ too_short (length (last_factors s)) (length row) ∷ []) (last_factors s) (length s) row row' r
  plain_last s h w = plain_made (rw (plain_ranks s h) at w)

  plain_core : (s array last : List ℕ) (from to : ℕ) (b : List ℕ) (room size : ℕ) {row row' starts starts' : List ℕ} {r : Answer} → Bytes s → Bytes b
      → FillsNumbers (not_order order ∷ all_refusals (ranked order s) array last from to (ranked order b) room size) (ranked order s) from to (ranked order b) row row' starts starts' r
      → FillsNumbers (all_refusals s array last from to b room size) s from to b row row' starts starts' r
  plain_core s array last from to b room size h l f =
      let g = rw (plain_ranks s h, plain_ranks b l) at f in
      let e = past_order (all_refusals s array last from to b room size) in
      record { answers = rw e at g.answers; middle = rw e at g.middle; places = rw e at g.places }

module _ (s order : List ℕ) {a₀ array : List ℕ} {ra : Filled} {l₀ last : List ℕ} {rl : Filled} (from to : ℕ) (b : List ℕ) {room : ℕ} {row row' starts starts' : List ℕ}
    {r : Answer} (is : order ≡ byte_order) (symbols : Bytes s) (blocks : Bytes b) (h : length s ≤ max_pattern) (made : ArrayMade s order a₀ array ra)
    (array_room : max_pattern ≤ length a₀) (made_last : LastFactorsMade s order l₀ last rl) (last_room : max_pattern ≤ length l₀)
    (core : FillsNumbers (not_order order ∷ all_refusals (ranked order s) array last from to (ranked order b) room (length starts)) (ranked order s) from to (ranked order b) row row' starts starts' r)
    (middle_room : max_middle ≤ room) (starts_room : max_pattern ≤ length starts) where
  e : FillsNumbers (all_refusals s array last from to b room (length starts)) s from to b row row' starts starts' r
  e = plain_core is s array last from to b room (length starts) symbols blocks core

  abbrev number : ℕ
  number = first_of (no_stretch s from to ∷ block_too_long b ∷ edited_too_long s from to b ∷ [])

  answers : r ≡ answer_of number (counts_of s from to b)
  answers =
      let tables = right s (lyndon_array s) a₀ h (lyndon_array_length s) array_room (plain_array is s symbols made)
      (right s (last_factors s) l₀ h (last_factors_length s) last_room (plain_last is s symbols made_last) First.none) in
      e.answers
      ∙ ap (λ k. answer_of k (counts_of s from to b)) (settled s array last from to b room starts h tables middle_room starts_room)

  pub refused_output : {k n : ℕ} {d d' : List ℕ} → r ≡ Refused k → Puts (refusal_text k) 0 d d' n → Puts (edit_output s from to b) 0 d d' n
  unfolding edit_output
  refused_output q p = rw (line_printed number (counts_of s from to b) (edited_text s from to b) (sym q ∙ answers)) p

  pub edited_output : {c : Counts} {n : ℕ} {d d' : List ℕ} → r ≡ Done c → Puts (edited_text s from to b) 0 d d' n → Puts (edit_output s from to b) 0 d d' n
  unfolding edit_output
  edited_output {c} q p = rw (done_accepted number (counts_of s from to b) c (sym answers ∙ q)).0 p

  -- what the writer of the edited listing asks of an accepted edit
  shape : {c : Counts} → r ≡ Done c → Shaped s from to b
  shape {c} q =
      let rs = all_refusals s array last from to b room (length starts) in
      let none : first_of rs ≡ 0 = (done_accepted (first_of rs) (counts_of s from to b) c (sym e.answers ∙ q)).0 in
      passed_shape s array last from to b refl (first_zero (edit_refusals s array last from to b) (room_refusals s from to b room (length starts)) none)

  pub taken : {c : Counts} (d : List ℕ) → r ≡ Done c → max_listing ≤ length d
      → (from ≤ to) × (to ≤ length s) × (length (edited s from to b) ≤ max_pattern) × Room (edited_text s from to b) 0 d
  taken d q k =
      let p = shape q in
      let fits : length (edited s from to b) ≤ max_pattern = omega (arith, length_edited s from to b p.start p.stretch, p.fits) in
      (p.start, p.stretch, fits, omega (arith, listing_room (edited s from to b) fits))
