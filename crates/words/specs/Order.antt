-- The order of strings, their common beginning, and Lyndon words. A string is a list of numbers; a byte is a number below 256.
-- Each proposition stands beside its test, and proofs/Theorems proves that they agree.
use Rattle.std.specs.Prelude.{Bool, true, false, cond, ◌&&◌, ◌||◌, List, [], ◌∷◌, ◌⊎◌, ◌≡◌, ℕ, ◌<◌, min, ltb, eqb, length, take, drop}
use Rattle.words.specs.Bounded.{every, largest}

-- Smaller: the smaller symbol at the first difference, or a proper prefix of the longer string.
abbrev pub Less : List ℕ → List ℕ → Type 0
Less [] [] = ⊥
Less [] (y ∷ ys) = Unit {0}
Less (x ∷ xs) [] = ⊥
Less (x ∷ xs) (y ∷ ys) = (x < y) ⊎ ((x ≡ y) × Less xs ys)

abbrev pub less : List ℕ → List ℕ → Bool
less [] [] = false
less [] (y ∷ ys) = true
less (x ∷ xs) [] = false
less (x ∷ xs) (y ∷ ys) = let rest = less xs ys in let later = eqb x y && rest in ltb x y || later

-- The same string.
abbrev pub same : List ℕ → List ℕ → Bool
same [] [] = true
same [] (y ∷ ys) = false
same (x ∷ xs) [] = false
same (x ∷ xs) (y ∷ ys) = let rest = same xs ys in eqb x y && rest

-- Which of two strings is smaller, if any: 1 the first, 2 the second, 0 where neither is.
unfoldable pub smaller : List ℕ → List ℕ → ℕ
smaller a b = cond (less a b) 1 (cond (less b a) 2 0)

-- Shared length, that of the common beginning: the largest k, at most the length of each, for which the first k symbols are the same.
unfoldable pub shared : List ℕ → List ℕ → ℕ
shared a b = largest (λ k. same (take k a) (take k b)) (min (length a) (length b))

-- Lyndon word: nonempty, and strictly smaller than each of its nonempty proper suffixes.
pub record Lyndon (w : List ℕ) : Type 0 where
  pub some : 0 < length w
  pub least : (k : ℕ) → 0 < k → k < length w → Less w (drop k w)

abbrev pub lyndon : List ℕ → Bool
lyndon w = ltb 0 (length w) && every (λ k. eqb k 0 || less w (drop k w)) (length w)
