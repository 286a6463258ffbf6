-- The answer to one edit of a stored pattern s: the stretch from `from` to `to` goes, the block b comes in.
-- It is meant for from ≤ to ≤ length s; any other edit is refused by the crates above.
use Rattle.std.specs.Prelude.{Bool, true, false, cond, ◌&&◌, ◌||◌, List, [], ◌∷◌, ◌++◌, ℕ, ◌+◌, ◌-◌, ◌^◌, min, length, take, drop, leb, ltb, eqb}
use Rattle.words.specs.Bounded.{smallest, largest}
use Rattle.words.specs.Order.{same}
use Rattle.words.specs.Factors.{factors, starts_from, start_at, Group, groups_from}

-- The edited pattern: the stored one up to `from`, then the block, then the stored one from `to` on.
unfoldable pub edited : List ℕ → ℕ → ℕ → List ℕ → List ℕ
edited s from to b = take from s ++ (b ++ drop to s)

-- The place in the edited pattern of the stored position p, at least `to`.
abbrev pub place : ℕ → ℕ → List ℕ → ℕ → ℕ
place from to b p = from + length b + p - to

-- The same strings in the same order.
abbrev pub same_all : List (List ℕ) → List (List ℕ) → Bool
same_all [] [] = true
same_all [] (g ∷ gs) = false
same_all (f ∷ fs) [] = false
same_all (f ∷ fs) (g ∷ gs) = let rest = same_all fs gs in same f g && rest

abbrev pub member : ℕ → List ℕ → Bool
member x [] = false
member x (y ∷ ys) = let rest = member x ys in eqb x y || rest

-- Kept: the largest c for which the first c factors of the stored pattern end at or before `from`
-- and are the first c factors of the edited one.
unfoldable pub kept_of : ℕ → List (List ℕ) → List (List ℕ) → ℕ
kept_of from fs gs =
    largest (λ c. leb (start_at fs c) from && same_all (take c fs) (take c gs)) (min (length fs) (length gs))

unfoldable pub kept : List ℕ → ℕ → ℕ → List ℕ → ℕ
kept s from to b = kept_of from (factors s) (factors (edited s from to b))

-- Resume: the smallest position of the stored pattern, at least `to`, that is its end
-- or whose place in the edited pattern is the start of a factor there.
unfoldable pub resume : List ℕ → ℕ → ℕ → List ℕ → ℕ
resume s from to b =
    let starts = starts_from 0 (factors (edited s from to b)) in
    smallest (λ p. leb to p && member (place from to b p) starts) (length s)

-- Of factors that stand from place i on, those that start before place q.
abbrev pub starting_before : ℕ → ℕ → List (List ℕ) → List (List ℕ)
starting_before q i [] = []
starting_before q i (f ∷ fs) = let rest = starting_before q (i + length f) fs in cond (ltb i q) (f ∷ rest) rest

-- Middle: the factors of the edited pattern but its first c and those that start at or after place q.
unfoldable pub middle_of : ℕ → ℕ → List (List ℕ) → List (List ℕ)
middle_of c q fs = starting_before q (start_at fs c) (drop c fs)

unfoldable pub middle : List ℕ → ℕ → ℕ → List ℕ → List (List ℕ)
middle s from to b = middle_of (kept s from to b) (place from to b (resume s from to b)) (factors (edited s from to b))

-- The middle factors grouped among themselves; starts are places in the edited pattern.
unfoldable pub middle_groups : List ℕ → ℕ → ℕ → List ℕ → List Group
middle_groups s from to b = groups_from (start_at (factors s) (kept s from to b)) (middle s from to b)

-- The binary digits of a number: the smallest d for which it is below 2 to the power d.
unfoldable pub bits : ℕ → ℕ
bits m = smallest (λ d. ltb m (2 ^ d)) m
