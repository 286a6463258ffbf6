-- What `write_listing` makes of the facts that its ways out show: the ranks handed down give the listing under the order.
use mathlib.Core.Bool.{false}
use mathlib.Core.List.{List}
use mathlib.Core.Path.{◌≡◌, ap, ◌∙◌}
use Prim.Native.Nat.{ℕ, ◌≤◌, ◌<◌}
use native.Mathlib.Omega.{arith}
use lib.ListN.{length}
use Rattle.ranks.specs.Inner.{Handed}
use Rattle.ranks.specs.Ranks.{Bytes, is_order}
use Rattle.refusals.proofs.First.{none, an_order, not_long, too_short_lem, not_short}
use Rattle.refusals.proofs.Outcome.{fills_refused, fills_accepted, fills_not_order}
use Rattle.refusals.specs.Refusals.{max_pattern}
use Rattle.rows.specs.Row.{written}
use Rattle.rows.specs.Written.{Puts}
use Rattle.text.proofs.Begins.{puts_begins}
use Rattle.text_lines.proofs.Lines.{listing_same}
use Rattle.text.specs.Listing.{listing_by}
use Rattle.lyndon_text.specs.Calls.{ListingWritten}

-- Nothing cites this: the check finds it at the call. It says here what 13 means, so that a wrong definition is refused at it.
pub not_listed : (order s text : List ℕ) → is_order order ≡ false → ListingWritten s order text text (record { refusal = 13; count = 0 })
not_listed order s text e = fills_not_order order e

module _ {order ranks : List ℕ} (t : Handed order ranks) (s text : List ℕ) (bytes : Bytes s) (h : length s ≤ max_pattern) where
  same : listing_by ranks s ≡ listing_by order s
  same = listing_same ranks order s (t.same s bytes)

  pub listed_short : length text < length (listing_by ranks s) → ListingWritten s order text text (record { refusal = 8; count = 0 })
  listed_short l =
      fills_refused (an_order t (not_long s h (too_short_lem (length (listing_by order s)) (length text) (omega (arith, ap length same)))))

  pub listed : {text' : List ℕ} {n : ℕ} → length (listing_by ranks s) ≤ length text → Puts (listing_by ranks s) 0 text text' n
      → ListingWritten s order text text' (record { refusal = 0; count = n })
  listed l put =
      let b = puts_begins put in
      fills_accepted (an_order t (not_long s h (not_short (length (listing_by order s)) (length text) (omega (arith, ap length same)) none)))
      (b.size ∙ ap length same) (b.leaves ∙ ap (λ out. written out text) same)
