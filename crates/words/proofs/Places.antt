-- What `passing` lists: exactly the numbers below the bound that pass, strictly ascending. So `lyndon_starts` lists, in order, exactly the
-- starts of the Lyndon substrings of one length.
use mathlib.Core.Bool.{Bool, true, false, cond}
use mathlib.Core.List.{List, [], ◌∷◌}
use mathlib.Core.Logic.{inl, inr, ◌↔◌}
use mathlib.Core.Path.{◌≡◌, refl}
use Prim.Native.Nat.{ℕ, zero, suc, ◌+◌, ◌≤◌, ◌<◌}
use native.Mathlib.Omega.{arith}
use lib.Dec.{leb}
use lib.ListN.{length, take, drop, get_or, length-take}
use borrow.Author.Tests.{leb-true, le-leb}
use Rattle.words.specs.Bounded.{table, select, passing}
use Rattle.words.specs.Order.{lyndon}
use Rattle.words.specs.Tables.{LyndonAt, lyndon_at, lyndon_starts}
use Rattle.words.specs.Demand.{Member}
use Rattle.words.proofs.Bounded.{and_true}
use Rattle.words.proofs.Lyndon.{lyndon_true, true_lyndon}

pub member_some : (xs : List ℕ) (i : ℕ) → Member i xs → 0 < length xs
member_some [] i m = absurd m
member_some (x ∷ xs) i m = omega arith

pub first_member : (xs : List ℕ) → 0 < length xs → Member (get_or xs 0 0) xs
first_member [] h = absurd (omega arith)
first_member (x ∷ xs) h = inl refl

member_table : (f : ℕ → ℕ) (n k : ℕ) → k < n → Member (f k) (table f n)
member_table f zero k h = absurd (omega arith)
member_table f (suc n) zero h = inl refl
member_table f (suc n) (suc k) h = inr (member_table (λ j. f (suc j)) n k (omega arith))

table_member : (f : ℕ → ℕ) (n i : ℕ) → Member i (table f n) → (k : ℕ) × (k < n) × (i ≡ f k)
table_member f zero i m = absurd m
table_member f (suc n) i (inl e) = (0, omega arith, e)
table_member f (suc n) i (inr m) =
    let (k, l, e) = table_member (λ j. f (suc j)) n i m in
    (suc k, omega arith, e)

member_select : (test : ℕ → Bool) (xs : List ℕ) (i : ℕ) → Member i xs → test i ≡ true → Member i (select test xs)
member_select test [] i m e = m
member_select test (x ∷ xs) i (inl q) e = rw (rw q at e) (inl q)
member_select test (x ∷ xs) i (inr m) e = go (test x) (member_select test xs i m e)
  where
    go : (b : Bool) → Member i (select test xs) → Member i (cond b (x ∷ select test xs) (select test xs))
    go true ih = inr ih
    go false ih = ih

select_member : (test : ℕ → Bool) (xs : List ℕ) (i : ℕ) → Member i (select test xs) → Member i xs × (test i ≡ true)
select_member test [] i m = absurd m
select_member test (x ∷ xs) i m₀ = go (test x) refl m₀ (λ m. select_member test xs i m)
  where
    go : (b : Bool) → test x ≡ b → Member i (cond b (x ∷ select test xs) (select test xs))
        → (Member i (select test xs) → Member i xs × (test i ≡ true)) → Member i (x ∷ xs) × (test i ≡ true)
    go true q (inl e) ih = (inl e, rw e q)
    go true q (inr m) ih = (inr (ih m).0, (ih m).1)
    go false q m ih = (inr (ih m).0, (ih m).1)

pub passing_member : (test : ℕ → Bool) (n i : ℕ) → Member i (passing test n) ↔ ((i < n) × (test i ≡ true))
passing_member test n i = (to, λ h. member_select test (table (λ k. k) n) i (member_table (λ k. k) n i h.0) h.1)
  where
    to : Member i (passing test n) → (i < n) × (test i ≡ true)
    to m =
        let (l, e) = select_member test (table (λ k. k) n) i m in
        let (k, h, q) = table_member (λ j. j) n i l in
        (omega arith, e)

-- strictly ascending: each member is below all later ones
abbrev pub AllAfter : ℕ → List ℕ → Type 0
AllAfter x [] = Unit {0}
AllAfter x (y ∷ ys) = (x < y) × AllAfter x ys

abbrev pub Ascending : List ℕ → Type 0
Ascending [] = Unit {0}
Ascending (x ∷ xs) = AllAfter x xs × Ascending xs

after_member : (x : ℕ) (xs : List ℕ) (i : ℕ) → AllAfter x xs → Member i xs → x < i
after_member x [] i a m = absurd m
after_member x (y ∷ ys) i a (inl e) = omega (arith, a.0)
after_member x (y ∷ ys) i a (inr m) = after_member x ys i a.1 m

after_all : (x : ℕ) (xs : List ℕ) → ((i : ℕ) → Member i xs → x < i) → AllAfter x xs
after_all x [] h = tt
after_all x (y ∷ ys) h = (h y (inl refl), after_all x ys (λ i m. h i (inr m)))

ascending_select : (test : ℕ → Bool) (xs : List ℕ) → Ascending xs → Ascending (select test xs)
ascending_select test [] a = tt
ascending_select test (x ∷ xs) a = go (test x) (ascending_select test xs a.1)
  where
    go : (b : Bool) → Ascending (select test xs) → Ascending (cond b (x ∷ select test xs) (select test xs))
    go true ih = (after_all x (select test xs) (λ i m. after_member x xs i a.0 (select_member test xs i m).0), ih)
    go false ih = ih

ascending_table : (f : ℕ → ℕ) (n : ℕ) → ((j k : ℕ) → j < k → f j < f k) → Ascending (table f n)
ascending_table f zero h = tt
ascending_table f (suc n) h =
    (after_all (f 0) (table (λ k. f (suc k)) n) first, ascending_table (λ k. f (suc k)) n (λ j k l. h (suc j) (suc k) (omega arith)))
  where
    first : (i : ℕ) → Member i (table (λ k. f (suc k)) n) → f 0 < i
    first i m =
        let (k, l, e) = table_member (λ j. f (suc j)) n i m in
        omega (arith, e, h 0 (suc k) (omega arith))

pub passing_ascending : (test : ℕ → Bool) (n : ℕ) → Ascending (passing test n)
passing_ascending test n = ascending_select test (table (λ k. k) n) (ascending_table (λ k. k) n (λ j k l. l))

pub ascending_next : (xs : List ℕ) → Ascending xs → (k : ℕ) → suc k < length xs → get_or xs k 0 < get_or xs (suc k) 0
ascending_next [] a k h = absurd (omega arith)
ascending_next (x ∷ []) a k h = absurd (omega arith)
ascending_next (x ∷ y ∷ ys) a zero h = a.0.0
ascending_next (x ∷ y ∷ ys) a (suc k) h = ascending_next (y ∷ ys) a.1 k (omega arith)

-- the first member of an ascending list is the least
pub ascending_first : (xs : List ℕ) → Ascending xs → (i : ℕ) → Member i xs → get_or xs 0 0 ≤ i
ascending_first [] a i m = absurd m
ascending_first (x ∷ xs) a i (inl e) = omega arith
ascending_first (x ∷ xs) a i (inr m) = omega (arith, after_member x xs i a.0 m)

-- the test of one place
pub lyndon_at_true : (s : List ℕ) (l i : ℕ) → lyndon_at s l i ≡ true → LyndonAt s l i
lyndon_at_true s l i e =
    let (f, w) = and_true (leb (i + l) (length s)) (lyndon (take l (drop i s))) e in
    record { fits = leb-true (i + l) (length s) f; word = lyndon_true (take l (drop i s)) w }

pub true_lyndon_at : (s : List ℕ) (l i : ℕ) → LyndonAt s l i → lyndon_at s l i ≡ true
true_lyndon_at s l i h = rw (le-leb (i + l) (length s) h.fits) (true_lyndon (take l (drop i s)) h.word)

pub lyndon_at_some : {s : List ℕ} {l i : ℕ} → LyndonAt s l i → 0 < l
lyndon_at_some {s} {l} {i} h = omega (arith, h.word.some, length-take l (drop i s))

pub starts_member : (s : List ℕ) (l i : ℕ) → Member i (lyndon_starts s l) ↔ LyndonAt s l i
unfolding lyndon_starts
starts_member s l i =
    let p = passing_member (lyndon_at s l) (length s) i in (
      λ m. lyndon_at_true s l i (p.0 m).1,
      λ h. p.1 (omega (arith, h.fits, lyndon_at_some h), true_lyndon_at s l i h),
    )

pub starts_ascending : (s : List ℕ) (l : ℕ) → Ascending (lyndon_starts s l)
unfolding lyndon_starts
starts_ascending s l = passing_ascending (lyndon_at s l) (length s)
