-- What the measuring pass answers, and the parts that its functions are stated by.
use Rattle.std.specs.Prelude.{cond, List, [], ◌∷◌, ◌++◌, ◌≡◌, ℕ, zero, suc, ◌+◌, ◌*◌, ◌≤◌, ltb, eqb, length, take}
use Rattle.words.specs.Factors.{Group}
use Rattle.words.specs.Tables.{longest, longest_starts, longest_word}
use Rattle.longest.specs.declared.Longest.{Longest}

-- The first of the longest Lyndon substrings, and how many there are.
unfoldable pub longest_of : List ℕ → Longest
longest_of s = record { start = (longest_word s).0; length = longest s; count = length (longest_starts s) }

-- The longest so far, after a group of this start, factor length and power.
unfoldable pub better_of : Longest → ℕ → ℕ → ℕ → Longest
better_of best i l e =
    cond (ltb best.length l) (record { start = i; length = l; count = e })
    (cond (ltb l best.length) best (record { start = best.start; length = l; count = best.count + e }))

-- The starts of e equal neighbouring factors of length l from place i on.
abbrev pub run_from : ℕ → ℕ → ℕ → List ℕ
run_from i l zero = []
run_from i l (suc e) = i ∷ run_from (i + l) l e

-- How many of the longest words stand in the first group that has them, after a group of this factor length and power.
abbrev pub run_of : ℕ → ℕ → ℕ → ℕ → ℕ
run_of run longest l e = cond (ltb longest l) e run

-- What is measured: the first of the longest words and their number, and the run of its group, whose starts are the first.
pub record Measures (s : List ℕ) (found : Longest) (run : ℕ) : Type 0 where
  pub best : found ≡ longest_of s
  pub first : take run (longest_starts s) ≡ run_from found.start found.length run
  pub fits : found.start + run * found.length ≤ length s

-- The starts of all factors of one length, off their groups.
abbrev pub starts_of : ℕ → List Group → List ℕ
starts_of l [] = []
starts_of l (g ∷ gs) =
    let rest = starts_of l gs in
    cond (eqb g.size l) (run_from g.start g.size g.power ++ rest) rest
