-- The lines of a listing one by one, and what an iterator over them knows of the group that it found ahead.
use Rattle.std.specs.Prelude.{List, [], ◌∷◌, ℕ}
use Rattle.words.specs.Factors.{Group, word_of}
use Rattle.text.specs.Listing.{shared_column, line}

-- The line of each group of factors of t, in order; joined they are `lines`.
abbrev pub line_texts : List ℕ → List Group → List (List ℕ)
line_texts t [] = []
line_texts t (g ∷ gs) = line g.start g.size g.power (word_of t g) (shared_column t g gs) ∷ line_texts t gs

-- The factor length and the power of the first of the groups, zeros where there is none.
abbrev pub first_size : List Group → ℕ
first_size [] = 0
first_size (g ∷ gs) = g.size

abbrev pub first_power : List Group → ℕ
first_power [] = 0
first_power (g ∷ gs) = g.power
