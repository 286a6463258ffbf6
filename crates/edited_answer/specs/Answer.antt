-- What the program `edited` is to print for an edit.
use Rattle.std.specs.Prelude.{List, [], ◌∷◌, ℕ}
use Rattle.refusals.specs.Refusals.{first_of, no_stretch, block_too_long, edited_too_long}
use Rattle.text.specs.Listing.{edited_text, printed}

-- For an edit of a pattern that is not too long: the edited listing, or the refusal line. 2, 3 and 4 are the only refusals.
unfoldable pub edit_output : List ℕ → ℕ → ℕ → List ℕ → List ℕ
edit_output s from to b = printed (first_of (no_stretch s from to ∷ block_too_long b ∷ edited_too_long s from to b ∷ [])) (edited_text s from to b)
