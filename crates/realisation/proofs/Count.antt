-- Laws of counting the numbers below a bound that pass a test.
use mathlib.Core.Bool.{Bool, true, false}
use mathlib.Core.Logic.{◌⊎◌, inl, inr}
use mathlib.Core.Path.{◌≡◌, refl}
use Prim.Native.Nat.{ℕ, zero, suc, ◌+◌, ◌≤◌, ◌<◌}
use native.Mathlib.Omega.{arith}
use Rattle.words.proofs.Bounded.{le_cases, true_false}
use Rattle.realisation.specs.Symbols.{count}

pub count_yes : (test : ℕ → Bool) (n : ℕ) → test n ≡ true → count test (suc n) ≡ suc (count test n)
count_yes test n e = rw e

pub count_no : (test : ℕ → Bool) (n : ℕ) → test n ≡ false → count test (suc n) ≡ count test n
count_no test n e = rw e

step : (test : ℕ → Bool) (n : ℕ) → (count test n ≤ count test (suc n)) × (count test (suc n) ≤ suc (count test n))
step test n = go (test n) refl
  where
    go : (b : Bool) → test n ≡ b → (count test n ≤ count test (suc n)) × (count test (suc n) ≤ suc (count test n))
    go true e = (omega (arith, count_yes test n e), omega (arith, count_yes test n e))
    go false e = (omega (arith, count_no test n e), omega (arith, count_no test n e))

pub count_le : (test : ℕ → Bool) (n : ℕ) → count test n ≤ n
count_le test zero = omega arith
count_le test (suc n) = omega (arith, (step test n).1, count_le test n)

count_grows : (test : ℕ → Bool) (i k : ℕ) → i ≤ k → count test i ≤ count test k
count_grows test i zero h =
    let e : i ≡ 0 = omega arith in
    rw e (omega arith)
count_grows test i (suc k) h = go (le_cases h) (λ l. count_grows test i k l)
  where
    go : (i ≡ suc k) ⊎ (i < suc k) → (i ≤ k → count test i ≤ count test k) → count test i ≤ count test (suc k)
    go (inl e) ih = rw e (omega arith)
    go (inr l) ih = omega (arith, ih (omega arith), (step test k).0)

-- one that passes makes the count greater
pub count_more : (test : ℕ → Bool) (i k : ℕ) → i < k → test i ≡ true → count test i < count test k
count_more test i k h e = omega (arith, count_yes test i e, count_grows test (suc i) k (omega arith))

-- p and q exclude each other, and each implies r
pub count_both : (p q r : ℕ → Bool) → ((k : ℕ) → p k ≡ true → q k ≡ false) → ((k : ℕ) → p k ≡ true → r k ≡ true) → ((k : ℕ) → q k ≡ true → r k ≡ true)
    → (n : ℕ) → count p n + count q n ≤ count r n
count_both p q r apart left right zero = omega arith
count_both p q r apart left right (suc n) = go (p n) (q n) refl refl (count_both p q r apart left right n)
  where
    go : (a b : Bool) → p n ≡ a → q n ≡ b → count p n + count q n ≤ count r n → count p (suc n) + count q (suc n) ≤ count r (suc n)
    go true true e f h = absurd (true_false f (apart n e))
    go true false e f h = omega (arith, h, count_yes p n e, count_no q n f, count_yes r n (left n e))
    go false true e f h = omega (arith, h, count_no p n e, count_yes q n f, count_yes r n (right n f))
    go false false e f h = omega (arith, h, count_no p n e, count_no q n f, (step r n).0)
