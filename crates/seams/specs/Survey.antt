-- What one pass over an edited pattern tells.
use Rattle.std.specs.Prelude.{cond, List, [], ◌∷◌, ◌≡◌, ℕ, ◌+◌, ◌*◌, ◌≤◌, leb, length}
use Rattle.cuts.specs.Bounds.{EndsBy, StartsBy}
use Rattle.longest.specs.Best.{Measures}
use Rattle.words.specs.Factors.{factors, Group}
use Rattle.words.specs.Tables.{groups}
use Rattle.seams.specs.declared.Overview.{Overview}

-- 1 where a place lies between two others, 0 elsewhere.
abbrev pub inside_of : ℕ → ℕ → ℕ → ℕ
inside_of low high e = cond (leb e low) 0 (cond (leb high e) 0 1)

-- How many groups end between two places.
abbrev pub ending_between : ℕ → ℕ → List Group → ℕ
ending_between low high [] = 0
ending_between low high (g ∷ gs) = inside_of low high (g.start + g.power * g.size) + ending_between low high gs

-- The factors that end by the edit's start, the first start at or after the end of the block, the groups that end between the end of the stored
-- factors before the edit, or the edit's start, and the end of the block, and the longest Lyndon substrings.
pub record Surveyed (t : List ℕ) (end from q : ℕ) (r : Overview) : Type 0 where
  pub ends : EndsBy (factors t) from r.ends.count r.ends.end
  pub next : StartsBy (factors t) q r.place
  pub stored : r.stored ≡ ending_between end q (groups t)
  pub fresh : r.fresh ≡ ending_between from q (groups t)
  pub few : (r.stored ≤ length t) × (r.fresh ≤ length t)
  pub longest : Measures t r.found r.run
