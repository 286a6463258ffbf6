-- How often numbers stand in a list: all of them below a bound together, and what follows where each stands once.
use mathlib.Core.List.{List, [], ◌∷◌, ◌++◌}
use mathlib.Core.Logic.{◌⊎◌, inl, inr}
use mathlib.Core.Path.{◌≡◌, refl, sym, ap, ◌∙◌}
use Prim.Native.Nat.{ℕ, zero, suc, ◌+◌, ◌≤◌, ◌<◌}
use native.Mathlib.Omega.{arith}
use lib.ListN.{length, get_or, take, drop, take-append-drop}
use borrow.Author.Tests.{eq-eqb, ne_eqb}
use Rattle.words.specs.Bounded.{table}
use Rattle.words.proofs.Bounded.{le_or_lt, le_cases}
use Rattle.words.proofs.Order.{ThreeN, smaller_n, equal_n, greater_n, three_n}
use Rattle.ranks.specs.Ranks.{times}

pub times_here : (r x : ℕ) (xs : List ℕ) → r ≡ x → times r (x ∷ xs) ≡ suc (times r xs)
times_here r x xs e = rw (eq-eqb r x e)

pub times_other : (r x : ℕ) (xs : List ℕ) → (r ≡ x → ⊥) → times r (x ∷ xs) ≡ times r xs
times_other r x xs h = rw (ne_eqb r x h)

-- one entry more
pub data Counts (r x : ℕ) (xs : List ℕ) : Type 0 where
  here : r ≡ x → times r (x ∷ xs) ≡ suc (times r xs) → Counts r x xs
  other : (r ≡ x → ⊥) → times r (x ∷ xs) ≡ times r xs → Counts r x xs

pub counts : (r x : ℕ) (xs : List ℕ) → Counts r x xs
counts r x xs = go (three_n r x)
  where
    go : ThreeN r x → Counts r x xs
    go (smaller_n l) = other (λ e. omega arith) (times_other r x xs (λ e. omega arith))
    go (equal_n e) = here e (times_here r x xs e)
    go (greater_n l) = other (λ e. omega arith) (times_other r x xs (λ e. omega arith))

pub times_append : (r : ℕ) (xs ys : List ℕ) → times r (xs ++ ys) ≡ times r xs + times r ys
times_append r [] ys = omega arith
times_append r (x ∷ xs) ys = go (counts r x xs) (counts r x (xs ++ ys)) (times_append r xs ys)
  where
    go : Counts r x xs → Counts r x (xs ++ ys) → times r (xs ++ ys) ≡ times r xs + times r ys → times r (x ∷ (xs ++ ys)) ≡ times r (x ∷ xs) + times r ys
    go (here e p) (here f q) ih = omega arith
    go (here e p) (other f q) ih = absurd (f e)
    go (other e p) (here f q) ih = absurd (e f)
    go (other e p) (other f q) ih = omega arith

pub times_front : (r k : ℕ) (xs : List ℕ) → times r (take k xs) ≤ times r xs
times_front r k xs = omega (arith, times_append r (take k xs) (drop k xs), ap (times r) (take-append-drop k xs))

-- a number that stands in the list
pub times_some : (r : ℕ) (xs : List ℕ) (i : ℕ) → i < length xs → get_or xs i 0 ≡ r → 0 < times r xs
times_some r [] i h e = absurd (omega arith)
times_some r (x ∷ xs) zero h e = omega (arith, times_here r x xs (sym e))
times_some r (x ∷ xs) (suc i) h e = go (counts r x xs) (times_some r xs i (omega arith) e)
  where
    go : Counts r x xs → 0 < times r xs → 0 < times r (x ∷ xs)
    go (here f p) ih = omega arith
    go (other f p) ih = omega arith

-- in a table: not at all, and once, where one entry alone is r
times_none : (f : ℕ → ℕ) (n r : ℕ) → ((k : ℕ) → k < n → r ≡ f k → ⊥) → times r (table f n) ≡ 0
times_none f zero r h = refl
times_none f (suc n) r h =
    go (counts r (f 0) (table (λ k. f (suc k)) n)) (times_none (λ k. f (suc k)) n r (λ k l. h (suc k) (omega arith)))
  where
    go : Counts r (f 0) (table (λ k. f (suc k)) n) → times r (table (λ k. f (suc k)) n) ≡ 0 → times r (table f (suc n)) ≡ 0
    go (here q p) e = absurd (h 0 (omega arith) q)
    go (other q p) e = p ∙ e

pub times_once : (f : ℕ → ℕ) (n r b : ℕ) → b < n → r ≡ f b → ((k : ℕ) → k < n → r ≡ f k → k ≡ b) → times r (table f n) ≡ 1
times_once f zero r b l e h = absurd (omega arith)
times_once f (suc n) r zero l e h =
    times_here r (f 0) (table (λ k. f (suc k)) n) e ∙ ap suc (times_none (λ k. f (suc k)) n r (λ k m q. zero_only (h (suc k) (omega arith) q)))
  where
    zero_only : {k : ℕ} → suc k ≡ 0 → ⊥
    zero_only z = omega arith
times_once f (suc n) r (suc b) l e h =
    times_other r (f 0) (table (λ k. f (suc k)) n) (λ q. later (h 0 (omega arith) q))
    ∙ times_once (λ k. f (suc k)) n r b (omega arith) e (λ k m q. before (h (suc k) (omega arith) q))
  where
    later : 0 ≡ suc b → ⊥
    later z = omega arith

    before : {k : ℕ} → suc k ≡ suc b → k ≡ b
    before z = omega arith

-- at most once: at one place
pub times_only : (r : ℕ) (xs : List ℕ) (i j : ℕ) → times r xs ≤ 1 → i < length xs → j < length xs → get_or xs i 0 ≡ r → get_or xs j 0 ≡ r → i ≡ j
times_only r [] i j m h l p q = absurd (omega arith)
times_only r (x ∷ xs) zero zero m h l p q = refl
times_only r (x ∷ xs) zero (suc j) m h l p q = absurd (omega (arith, times_here r x xs (sym p), times_some r xs j (omega arith) q))
times_only r (x ∷ xs) (suc i) zero m h l p q = absurd (omega (arith, times_here r x xs (sym q), times_some r xs i (omega arith) p))
times_only r (x ∷ xs) (suc i) (suc j) m h l p q = ap suc (times_only r xs i j (go (counts r x xs)) (omega arith) (omega arith) p q)
  where
    go : Counts r x xs → times r xs ≤ 1
    go (here f e) = omega arith
    go (other f e) = omega arith

-- how many entries are below n, counted number by number
abbrev pub total : ℕ → List ℕ → ℕ
total zero xs = 0
total (suc n) xs = times n xs + total n xs

total_past : (n x : ℕ) (xs : List ℕ) → n ≤ x → total n (x ∷ xs) ≡ total n xs
total_past zero x xs h = refl
total_past (suc n) x xs h = omega (arith, times_other n x xs (λ e. omega arith), total_past n x xs (omega arith))

total_below : (n x : ℕ) (xs : List ℕ) → x < n → total n (x ∷ xs) ≡ suc (total n xs)
total_below zero x xs h = absurd (omega arith)
total_below (suc n) x xs h = go (counts n x xs) (λ l. total_below n x xs l)
  where
    go : Counts n x xs → (x < n → total n (x ∷ xs) ≡ suc (total n xs)) → times n (x ∷ xs) + total n (x ∷ xs) ≡ suc (times n xs + total n xs)
    go (here e p) ih = omega (arith, total_past n x xs (omega arith))
    go (other e p) ih = omega (arith, ih (lower (le_or_lt n x)))
      where
        lower : (n ≤ x) ⊎ (x < n) → x < n
        lower (inl l) = absurd (e (omega arith))
        lower (inr l) = l

total_nil : (n : ℕ) → total n [] ≡ 0
total_nil zero = refl
total_nil (suc n) = omega (arith, total_nil n)

pub total_le : (n : ℕ) (xs : List ℕ) → total n xs ≤ length xs
total_le n [] = omega (arith, total_nil n)
total_le n (x ∷ xs) = go (le_or_lt n x) (total_le n xs)
  where
    go : (n ≤ x) ⊎ (x < n) → total n xs ≤ length xs → total n (x ∷ xs) ≤ suc (length xs)
    go (inl h) ih = omega (arith, total_past n x xs h)
    go (inr h) ih = omega (arith, total_below n x xs h)

pub total_all : (n : ℕ) (xs : List ℕ) → ((i : ℕ) → i < length xs → get_or xs i 0 < n) → total n xs ≡ length xs
total_all n [] h = total_nil n
total_all n (x ∷ xs) h = total_below n x xs (h 0 (omega arith)) ∙ ap suc (total_all n xs (λ i l. h (suc i) (omega arith)))

pub total_entry : (n : ℕ) (xs : List ℕ) → total n xs ≡ length xs → (i : ℕ) → i < length xs → get_or xs i 0 < n
total_entry n [] e i h = absurd (omega arith)
total_entry n (x ∷ xs) e i h = go (le_or_lt n x) i h (λ q k l. total_entry n xs q k l)
  where
    go : (n ≤ x) ⊎ (x < n) → (i : ℕ) → i < suc (length xs) → (total n xs ≡ length xs → (k : ℕ) → k < length xs → get_or xs k 0 < n) → get_or (x ∷ xs) i 0 < n
    go (inl l) i h ih = absurd (omega (arith, total_past n x xs l, total_le n xs))
    go (inr l) zero h ih = l
    go (inr l) (suc i) h ih = ih (omega (arith, total_below n x xs l)) i (omega arith)

-- each once
pub total_ones : (n : ℕ) (xs : List ℕ) → ((r : ℕ) → r < n → times r xs ≡ 1) → total n xs ≡ n
total_ones zero xs h = refl
total_ones (suc n) xs h = omega (arith, h n (omega arith), total_ones n xs (λ r l. h r (omega arith)))

total_most : (n : ℕ) (xs : List ℕ) → ((r : ℕ) → r < n → times r xs ≤ 1) → total n xs ≤ n
total_most zero xs h = omega arith
total_most (suc n) xs h = omega (arith, h n (omega arith), total_most n xs (λ r l. h r (omega arith)))

pub all_ones : (n : ℕ) (xs : List ℕ) → ((r : ℕ) → r < n → times r xs ≤ 1) → total n xs ≡ n → (r : ℕ) → r < n → times r xs ≡ 1
all_ones zero xs h e r l = absurd (omega arith)
all_ones (suc n) xs h e r l =
    go (le_cases {a = r} {b = n} (omega arith)) (λ k. all_ones n xs (λ q m. h q (omega arith)) (omega (arith, h n (omega arith), total_most n xs (λ q m. h q (omega arith)))) r k)
  where
    go : (r ≡ n) ⊎ (r < n) → (r < n → times r xs ≡ 1) → times r xs ≡ 1
    go (inl q) ih = rw q (omega (arith, h n (omega arith), total_most n xs (λ q m. h q (omega arith))))
    go (inr k) ih = ih k
