-- What the call on listings leaves, under byte order and in a buffer that holds every listing, is all that is printed.
use mathlib.Core.Bool.{not}
use mathlib.Core.List.{List, [], ◌∷◌}
use mathlib.Core.Logic.{◌⊎◌, inl, inr}
use mathlib.Core.Path.{◌≡◌, refl, sym, ap, ◌∙◌}
use Prim.Native.Nat.{ℕ, zero, suc, ◌≤◌, ◌<◌}
use native.Mathlib.Omega.{arith}
use lib.ListN.{length, replicate, length-replicate}
use Rattle.lyndon_text.specs.Calls.{ListingWritten}
use Rattle.ranks.proofs.Marks.{byte_order_lem}
use Rattle.ranks.proofs.Ranked.{written_byte_order}
use Rattle.ranks.specs.Ranks.{Bytes, byte_order}
use Rattle.refusals.specs.Filled.{Filled, Fills}
use Rattle.refusals.specs.Refusals.{Refusal, first_of, row_after, max_pattern, not_order, pattern_too_long, too_short}
use Rattle.refusals.proofs.First.{First, first_is, passes, too_long, not_long, not_short}
use Rattle.text_lines.proofs.Lines.{listing_bytes, listing_room}
use Rattle.text.proofs.Begins.{puts_begins}
use Rattle.text.specs.Inner.{max_listing}
use Rattle.text.specs.Listing.{listing_text, refusal_text, printed, Begins}
use Rattle.rows.specs.Row.{written}
use Rattle.rows.specs.Written.{Puts}
use Rattle.words.proofs.Bounded.{le_or_lt}
use Rattle.listing.specs.Output.{output}

-- a row after a call of this number
row_refused : {k : ℕ} (n : ℕ) (out row : List ℕ) → k ≡ n → (k ≡ 0 → ⊥) → row_after n out row ≡ row
row_refused zero out row e h = absurd (h e)
row_refused (suc n) out row e h = refl

printed_refused : {k : ℕ} (n : ℕ) (text : List ℕ) → k ≡ n → (k ≡ 0 → ⊥) → printed n text ≡ refusal_text k
printed_refused zero text e h = absurd (h e)
printed_refused (suc n) text e h = ap refusal_text (sym e)

abbrev refusals : List ℕ → List ℕ → List Refusal
refusals s d = pattern_too_long s ∷ too_short (length (listing_text s)) (length d) ∷ []

-- the order is byte order, written to a row of zeros, and the listing under it is the one that names no order
abbrev Listed : List ℕ → List ℕ → List ℕ → Filled → Type 0
Listed s d d' r = Fills (not_order byte_order ∷ refusals s d) (listing_text s) (length (listing_text s)) d d' r

pub listed : (s order d : List ℕ) {d' : List ℕ} {r : Filled} → order ≡ written byte_order (replicate 256 0) → Bytes s → ListingWritten s order d d' r
    → Listed s d d' r
listed s order d e bytes w =
    let o : order ≡ byte_order = e ∙ written_byte_order (replicate 256 0) (length-replicate {A = ℕ} 256 0) in
    rw (o, listing_bytes s bytes) at w

module _ (s d : List ℕ) {d' : List ℕ} {r : Filled} (w : Listed s d d' r) (room : max_listing ≤ length d) where
  abbrev first : ℕ
  first = first_of (not_order byte_order ∷ refusals s d)

  -- byte order is an order, so that 13 does not hold; the buffer holds the listing, so that 8 does not hold
  passed : {k : ℕ} → First (refusals s d) k → first ≡ k
  passed f = first_is (passes {r = not_order byte_order} (ap not byte_order_lem) f)

  number : first ≡ first_of (pattern_too_long s ∷ [])
  number = go (le_or_lt (length s) max_pattern)
    where
      go : (length s ≤ max_pattern) ⊎ (max_pattern < length s) → first ≡ first_of (pattern_too_long s ∷ [])
      go (inl h) =
          passed (not_long s h (not_short (length (listing_text s)) (length d) (omega (arith, listing_room s h)) First.none))
          ∙ sym (first_is (not_long s h First.none))
      go (inr h) = passed (too_long s h) ∙ sym (first_is (too_long s {rs = []} h))

  same_buffer : (r.refusal ≡ 0 → ⊥) → d' ≡ d
  same_buffer h = w.leaves ∙ row_refused first (listing_text s) d w.refusal h

  pub refused_output : (r.refusal ≡ 0 → ⊥) → {d'' : List ℕ} {n : ℕ} → Puts (refusal_text r.refusal) 0 d' d'' n → Begins (output s) d d'' n
  unfolding output
  refused_output h p = rw (sym number, printed_refused first (listing_text s) w.refusal h, ← (same_buffer h)) (puts_begins p)

  pub listed_output : r.refusal ≡ 0 → Begins (output s) d d' r.count
  unfolding output
  listed_output e =
      let z : first ≡ 0 = sym w.refusal ∙ e in
      record {
        size = w.count ∙ rw (z, sym number ∙ z);
        leaves = w.leaves ∙ rw (z, sym number ∙ z);
      }
