-- What the call on listings answers and leaves in the lent buffer, for every input.
use Rattle.std.specs.Prelude.{List, [], ◌∷◌, ℕ, length}
use Rattle.refusals.specs.Filled.{Filled, Fills}
use Rattle.refusals.specs.Refusals.{not_order, pattern_too_long, too_short}
use Rattle.text.specs.Listing.{listing_by}

-- write_listing; what it counts are bytes
abbrev pub ListingWritten : List ℕ → List ℕ → List ℕ → List ℕ → Filled → Type 0
ListingWritten s order buffer buffer' r =
    Fills (not_order order ∷ pattern_too_long s ∷ too_short (length (listing_by order s)) (length buffer) ∷ []) (listing_by order s) (length (listing_by order s)) buffer buffer' r
