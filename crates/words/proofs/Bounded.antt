-- What the searches of `specs/Bounded` find, and what the lists made by them hold.
use mathlib.Core.Bool.{Bool, true, false, cond, ◌&&◌, ◌||◌}
use mathlib.Core.Logic.{◌⊎◌, inl, inr}
use mathlib.Core.Path.{◌≡◌, refl, ap}
use Prim.Native.Nat.{ℕ, zero, suc, ◌≤◌, ◌<◌}
use native.Mathlib.Omega.{arith}
use lib.ListN.{length, get_or}
use Rattle.words.specs.Bounded.{every, smallest, largest, table}

-- a ≤ b or b < a, as a choice that can be taken
pub le_or_lt : (a b : ℕ) → (a ≤ b) ⊎ (b < a)
le_or_lt zero b = inl (omega arith)
le_or_lt (suc a) zero = inr (omega arith)
le_or_lt (suc a) (suc b) = go (le_or_lt a b)
  where
    go : (a ≤ b) ⊎ (b < a) → (suc a ≤ suc b) ⊎ (suc b < suc a)
    go (inl h) = inl (omega arith)
    go (inr h) = inr (omega arith)

pub le_cases : {a b : ℕ} → a ≤ b → (a ≡ b) ⊎ (a < b)
le_cases {a} {b} h = go (le_or_lt b a)
  where
    go : (b ≤ a) ⊎ (a < b) → (a ≡ b) ⊎ (a < b)
    go (inl k) = inl (omega arith)
    go (inr k) = inr k

pub and_true : (a b : Bool) → (a && b) ≡ true → (a ≡ true) × (b ≡ true)
and_true true b e = (refl, e)
and_true false b e = let z : ◌≡◌ {A = ℕ} 0 1 = cc in absurd (omega arith)

pub or_true : (a b : Bool) → (a || b) ≡ true → (a ≡ true) ⊎ (b ≡ true)
or_true true b e = inl refl
or_true false b e = inr e

pub or_false : (a b : Bool) → (a || b) ≡ false → (a ≡ false) × (b ≡ false)
or_false true b e = let z : ◌≡◌ {A = ℕ} 0 1 = cc in absurd (omega arith)
or_false false b e = (refl, e)

pub true_false : {b : Bool} → b ≡ true → b ≡ false → ⊥
true_false p q = let z : ◌≡◌ {A = ℕ} 0 1 = cc in omega arith

pub true_or_false : (b : Bool) → (b ≡ true) ⊎ (b ≡ false)
true_or_false true = inl refl
true_or_false false = inr refl

pub every_true : (test : ℕ → Bool) (n : ℕ) → every test n ≡ true → (k : ℕ) → k < n → test k ≡ true
every_true test zero e k h = absurd (omega arith)
every_true test (suc n) e k h = go (le_cases {a = k} {b = n} (omega arith)) (every_true test n (and_true (test n) _ e).1 k)
  where
    go : (k ≡ n) ⊎ (k < n) → (k < n → test k ≡ true) → test k ≡ true
    go (inl q) ih = rw q (and_true (test n) _ e).0
    go (inr l) ih = ih l

pub true_every : (test : ℕ → Bool) (n : ℕ) → ((k : ℕ) → k < n → test k ≡ true) → every test n ≡ true
true_every test zero h = refl
true_every test (suc n) h = rw (h n (omega arith)) (true_every test n (λ k l. h k (omega arith)))

pub largest_le : (test : ℕ → Bool) (n : ℕ) → largest test n ≤ n
largest_le test zero = omega arith
largest_le test (suc n) = go (test (suc n)) (largest_le test n)
  where
    go : (b : Bool) → largest test n ≤ n → cond b (suc n) (largest test n) ≤ suc n
    go true ih = omega arith
    go false ih = omega arith

pub largest_max : (test : ℕ → Bool) (n k : ℕ) → k ≤ n → test k ≡ true → k ≤ largest test n
largest_max test zero k h e = omega arith
largest_max test (suc n) k h e = go (test (suc n)) refl (λ l. largest_max test n k l e)
  where
    go : (b : Bool) → test (suc n) ≡ b → (k ≤ n → k ≤ largest test n) → k ≤ cond b (suc n) (largest test n)
    go true q ih = h
    go false q ih = at (le_cases h)
      where
        at : (k ≡ suc n) ⊎ (k < suc n) → k ≤ largest test n
        at (inl p) = absurd (true_false e (rw p q))
        at (inr l) = ih (omega arith)

pub largest_passes : (test : ℕ → Bool) (n : ℕ) → 0 < largest test n → test (largest test n) ≡ true
largest_passes test zero h = absurd (omega arith)
largest_passes test (suc n) h₀ = go (test (suc n)) refl (λ l. largest_passes test n l) h₀
  where
    go : (b : Bool) → test (suc n) ≡ b → (0 < largest test n → test (largest test n) ≡ true)
        → 0 < cond b (suc n) (largest test n) → test (cond b (suc n) (largest test n)) ≡ true
    go true q ih h = q
    go false q ih h = ih h

-- where a number passes, so does the largest, 0 included
pub largest_test : (test : ℕ → Bool) (n : ℕ) → test 0 ≡ true → test (largest test n) ≡ true
largest_test test n e = go (largest test n) refl
  where
    go : (m : ℕ) → largest test n ≡ m → test m ≡ true
    go zero q = e
    go (suc m) q = rw q at (largest_passes test n (rw q (omega arith)))

pub largest_is : (test : ℕ → Bool) (n k : ℕ) → k ≤ n → ((0 < k) → test k ≡ true) → ((j : ℕ) → k < j → j ≤ n → test j ≡ false)
    → largest test n ≡ k
largest_is test n k h passes above = go (le_or_lt (largest test n) k) (le_or_lt k (largest test n))
  where
    go : (largest test n ≤ k) ⊎ (k < largest test n) → (k ≤ largest test n) ⊎ (largest test n < k) → largest test n ≡ k
    go (inl a) (inl b) = omega arith
    go (inl a) (inr b) = absurd (let c = largest_max test n k h (passes (omega arith)) in omega arith)
    go (inr a) b = absurd (true_false (largest_passes test n (omega arith)) (above (largest test n) a (largest_le test n)))

pub smallest_le : (test : ℕ → Bool) (n : ℕ) → smallest test n ≤ n
smallest_le test zero = omega arith
smallest_le test (suc n) = go (test 0) (smallest_le (λ k. test (suc k)) n)
  where
    go : (b : Bool) → smallest (λ k. test (suc k)) n ≤ n → cond b 0 (suc (smallest (λ k. test (suc k)) n)) ≤ suc n
    go true ih = omega arith
    go false ih = omega arith

pub smallest_passes : (test : ℕ → Bool) (n : ℕ) → smallest test n < n → test (smallest test n) ≡ true
smallest_passes test zero h = absurd (omega arith)
smallest_passes test (suc n) h₀ = go (test 0) refl (λ l. smallest_passes (λ k. test (suc k)) n l) h₀
  where
    go : (b : Bool) → test 0 ≡ b → (smallest (λ k. test (suc k)) n < n → test (suc (smallest (λ k. test (suc k)) n)) ≡ true)
        → cond b 0 (suc (smallest (λ k. test (suc k)) n)) < suc n → test (cond b 0 (suc (smallest (λ k. test (suc k)) n))) ≡ true
    go true q ih h = q
    go false q ih h = ih (omega arith)

pub smallest_min : (test : ℕ → Bool) (n k : ℕ) → k < smallest test n → test k ≡ false
smallest_min test zero k h = absurd (omega arith)
smallest_min test (suc n) zero h = go (test 0) refl h
  where
    go : (b : Bool) → test 0 ≡ b → 0 < cond b 0 (suc (smallest (λ k. test (suc k)) n)) → test 0 ≡ false
    go true q l = absurd (omega arith)
    go false q l = q
smallest_min test (suc n) (suc k) h = go (test 0) h (smallest_min (λ k. test (suc k)) n k)
  where
    go : (b : Bool) → suc k < cond b 0 (suc (smallest (λ k. test (suc k)) n)) → (k < smallest (λ k. test (suc k)) n → test (suc k) ≡ false) → test (suc k) ≡ false
    go true l ih = absurd (omega arith)
    go false l ih = ih (omega arith)

-- at most any number that passes, below the bound or not
pub smallest_most : (test : ℕ → Bool) (n k : ℕ) → test k ≡ true → smallest test n ≤ k
smallest_most test n k e = go (le_or_lt (smallest test n) k)
  where
    go : (smallest test n ≤ k) ⊎ (k < smallest test n) → smallest test n ≤ k
    go (inl h) = h
    go (inr h) = absurd (true_false e (smallest_min test n k h))

pub smallest_is : (test : ℕ → Bool) (n k : ℕ) → k ≤ n → (k < n → test k ≡ true) → ((j : ℕ) → j < k → test j ≡ false) → smallest test n ≡ k
smallest_is test n k h passes before = go (le_or_lt (smallest test n) k) (le_or_lt k (smallest test n))
  where
    go : (smallest test n ≤ k) ⊎ (k < smallest test n) → (k ≤ smallest test n) ⊎ (smallest test n < k) → smallest test n ≡ k
    go (inl a) (inl b) = omega arith
    go (inl a) (inr b) = absurd (true_false (smallest_passes test n (omega arith)) (before (smallest test n) b))
    go (inr a) b = absurd (let l = smallest_le test n in true_false (passes (omega arith)) (smallest_min test n k a))

pub length_table : {A : Type 0} (f : ℕ → A) (n : ℕ) → length (table f n) ≡ n
length_table f zero = refl
length_table f (suc n) = ap suc (length_table (λ k. f (suc k)) n)

pub get_or_table : {A : Type 0} (f : ℕ → A) (n i : ℕ) (d : A) → i < n → get_or (table f n) i d ≡ f i
get_or_table f zero i d h = absurd (omega arith)
get_or_table f (suc n) zero d h = refl
get_or_table f (suc n) (suc i) d h = get_or_table (λ k. f (suc k)) n i d (omega arith)
