-- Where factors end and start around a place.
use Rattle.std.specs.Prelude.{cond, List, ◌≡◌, ℕ, suc, ◌+◌, ◌-◌, ◌*◌, ◌/◌, ◌≤◌, ◌<◌, leb, ltb, length}
use Rattle.words.specs.Factors.{start_at}
use Rattle.cuts.specs.declared.Ends.{Ends}

-- i is the start of one of the factors, or the end of the last.
pub record Boundary (fs : List (List ℕ)) (i : ℕ) : Type 0 where
  pub index : ℕ
  pub within : index ≤ length fs
  pub at : start_at fs index ≡ i

-- The first `count` factors end at `end`, which is not past q; the next one ends past q.
pub record EndsBy (fs : List (List ℕ)) (q count end : ℕ) : Type 0 where
  pub within : count ≤ length fs
  pub at : start_at fs count ≡ end
  pub before : end ≤ q
  pub last : count < length fs → q < start_at fs (suc count)

-- i is the first start of a factor at or after q, or the end of the last where there is none.
pub record StartsBy (fs : List (List ℕ)) (q i : ℕ) : Type 0 where
  pub boundary : Boundary fs i
  pub after : q ≤ i
  pub first : (k : ℕ) → k < boundary.index → start_at fs k < q

-- The ends by place q, after a group of this start, factor length and power.
unfoldable pub ends_with : Ends → ℕ → ℕ → ℕ → ℕ → Ends
ends_with ends q i l e =
    cond (ltb q i) ends
    (cond (leb (i + e * l) q) (record { count = ends.count + e; end = i + e * l })
    (record { count = ends.count + (q - i) / l; end = i + (q - i) / l * l }))

-- The first start at or after q, or the last end, after such a group.
unfoldable pub start_with : ℕ → ℕ → ℕ → ℕ → ℕ → ℕ
start_with place q i l e = cond (leb q i) place (cond (leb (i + e * l) q) (i + e * l) (i + (q - i + l - 1) / l * l))
