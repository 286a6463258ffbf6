-- Tests of numbers below a bound, and what is chosen by them: "for each", "the smallest", "the largest", the list of all.
-- The other definitions are written over these, so that they compute. Nothing here speaks of words.
use Rattle.std.specs.Prelude.{Bool, true, cond, ◌&&◌, List, [], ◌∷◌, ℕ, zero, suc}

-- Each k below the bound passes the test.
abbrev pub every : (ℕ → Bool) → ℕ → Bool
every test zero = true
every test (suc n) = let rest = every test n in test n && rest

-- The smallest k below the bound that passes the test, and the bound itself where none does.
abbrev pub smallest : (ℕ → Bool) → ℕ → ℕ
smallest test zero = 0
smallest test (suc n) = let later = suc (smallest (λ k. test (suc k)) n) in cond (test 0) 0 later

-- The largest k, at most the bound, that passes the test, and 0 where none does.
abbrev pub largest : (ℕ → Bool) → ℕ → ℕ
largest test zero = 0
largest test (suc n) = let earlier = largest test n in cond (test (suc n)) (suc n) earlier

-- The list f 0, f 1, .. of n entries.
abbrev pub table : {A : Type 0} → (ℕ → A) → ℕ → List A
table f zero = []
table f (suc n) = f 0 ∷ table (λ k. f (suc k)) n

-- The members that pass the test, in their order.
abbrev pub select : (ℕ → Bool) → List ℕ → List ℕ
select test [] = []
select test (x ∷ xs) = let rest = select test xs in cond (test x) (x ∷ rest) rest

-- The numbers below the bound that pass the test, ascending.
abbrev pub passing : (ℕ → Bool) → ℕ → List ℕ
passing test n = select test (table (λ k. k) n)
