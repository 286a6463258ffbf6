-- What the program is to print, for every input.
use Rattle.std.specs.Prelude.{List, [], ◌∷◌, ℕ}
use Rattle.refusals.specs.Refusals.{first_of, pattern_too_long}
use Rattle.text.specs.Listing.{listing_text, printed}

-- The listing of the pattern, or the refusal line: 1 is the only refusal.
unfoldable pub output : List ℕ → List ℕ
output s = printed (first_of (pattern_too_long s ∷ [])) (listing_text s)
