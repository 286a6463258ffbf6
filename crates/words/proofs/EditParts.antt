-- Places of factors, for the answer to an edit: where the first c factors end, how many end at or before a place, which start before one,
-- and what a common front of two patterns says of their factors. `Edit` puts the parts together.
use mathlib.Core.Bool.{Bool, true, false, ◌||◌}
use mathlib.Core.List.{List, [], ◌∷◌, ◌++◌, append-nil}
use mathlib.Core.Logic.{◌⊎◌, inl, inr}
use mathlib.Core.Path.{◌≡◌, refl, sym, ap, ◌∙◌}
use Prim.Native.Nat.{ℕ, zero, suc, ◌+◌, ◌-◌, ◌≤◌, ◌<◌}
use native.Mathlib.Omega.{arith}
use lib.Dec.{leb, eqb}
use lib.ListN.{length, take, drop, length-append, take-append-drop, length-take}
use lib.Seq.{take_at, take-take, take_all, take-add, drop-drop, drop-append-le, take-append_seam, drop-append_seam, length-take-le}
use borrow.Author.Tests.{leb-true, leb-false, le-leb, lt-leb, eqb-true, eq-eqb, lt-ltb, le-ltb}
use Rattle.words.specs.Bounded.{largest, smallest}
use Rattle.words.specs.Order.{same}
use Rattle.words.specs.Factors.{join, factors, starts_from, start_at}
use Rattle.words.specs.Edit.{member, same_all, starting_before, middle_of}
use Rattle.words.proofs.Bounded.{le_or_lt, le_cases, and_true, true_false, largest_le, largest_max, largest_test}
use Rattle.words.proofs.Bounded.{smallest_le, smallest_passes, smallest_min, smallest_is}
use Rattle.words.proofs.Order.{same_true, same_refl}
use Rattle.words.proofs.Factors.{Falling, join_append, falling_left, falling_right, factors_falling, join_factors, factors_left, factors_right}
use Rattle.words.proofs.Substrings.{factors_front}

pub end_grows : (c d : ℕ) (fs : List (List ℕ)) → c ≤ d → start_at fs c ≤ start_at fs d
end_grows zero d fs h = omega arith
end_grows (suc c) zero fs h = absurd (omega arith)
end_grows (suc c) (suc d) [] h = omega arith
end_grows (suc c) (suc d) (f ∷ fs) h =
    omega (arith, end_grows c d fs (omega arith), length-append f (join (take c fs)), length-append f (join (take d fs)))

-- a list of strings cut after c of them
pub join_split : (c : ℕ) (fs : List (List ℕ)) → join (take c fs) ++ join (drop c fs) ≡ join fs
join_split c fs = sym (join_append (take c fs) (drop c fs)) ∙ ap join (take-append-drop c fs)

-- a factor has at least one symbol
pub end_apart : (c d : ℕ) (fs : List (List ℕ)) → Falling fs → c ≤ d → d ≤ length fs → start_at fs c + (d - c) ≤ start_at fs d
end_apart zero zero fs h l k = omega arith
end_apart (suc c) zero fs h l k = absurd (omega arith)
end_apart c (suc d) [] h l k = absurd (omega arith)
end_apart zero (suc d) (f ∷ fs) h l k =
    omega (arith, end_apart zero d fs h.2 (omega arith) (omega arith), h.0.some, length-append f (join (take d fs)))
end_apart (suc c) (suc d) (f ∷ fs) h l k =
    omega (arith, end_apart c d fs h.2 (omega arith) (omega arith), length-append f (join (take c fs)), length-append f (join (take d fs)))

pub end_le : (c : ℕ) (s : List ℕ) → start_at (factors s) c ≤ length s
end_le c s =
    let n = length-append (join (take c (factors s))) (join (drop c (factors s))) in
    omega (arith, n, ap length (join_split c (factors s)), ap length (join_factors s))

pub end_all : (s : List ℕ) → start_at (factors s) (length (factors s)) ≡ length s
end_all s = ap (λ fs. length (join fs)) (take_all (length (factors s)) (factors s) (omega arith)) ∙ ap length (join_factors s)

pub drop_end : (c : ℕ) (s : List ℕ) → drop (start_at (factors s) c) s ≡ join (drop c (factors s))
drop_end c s =
    ap (drop (start_at (factors s) c)) (sym (join_split c (factors s) ∙ join_factors s))
    ∙ drop-append_seam (join (take c (factors s))) (join (drop c (factors s)))

pub take_end : (c : ℕ) (s : List ℕ) → take (start_at (factors s) c) s ≡ join (take c (factors s))
take_end c s =
    ap (take (start_at (factors s) c)) (sym (join_split c (factors s) ∙ join_factors s))
    ∙ take-append_seam (join (take c (factors s))) (join (drop c (factors s)))

-- The factors after the first c, as the factors of what is left.
pub factors_after : (c : ℕ) (s : List ℕ) → factors (drop (start_at (factors s) c) s) ≡ drop c (factors s)
factors_after c s =
    ap factors (drop_end c s) ∙ factors_right s (take c (factors s)) (drop c (factors s)) (sym (take-append-drop c (factors s)))

-- The first d factors, as the factors of what they join to, and those between the first c and the first d.
pub factors_before : (d : ℕ) (s : List ℕ) → factors (take (start_at (factors s) d) s) ≡ take d (factors s)
factors_before d s =
    ap factors (take_end d s) ∙ factors_left s (take d (factors s)) (drop d (factors s)) (sym (take-append-drop d (factors s)))

pub factors_part : (c d : ℕ) (s : List ℕ) → c ≤ d → factors (drop (start_at (factors s) c) (take (start_at (factors s) d) s)) ≡ drop c (take d (factors s))
factors_part c d s h =
    let u = take (start_at (factors s) d) s in
    let at : start_at (factors u) c ≡ start_at (factors s) c =
    ap (λ fs. start_at fs c) (factors_before d s) ∙ ap (λ fs. length (join fs)) (take-take c d (factors s) h) in
    ap (λ i. factors (drop i u)) (sym at) ∙ factors_after c u ∙ ap (drop c) (factors_before d s)

-- How many of the strings end at or before place q.
unfoldable pub ending_by : ℕ → List (List ℕ) → ℕ
ending_by q fs = largest (λ c. leb (length (join (take c fs))) q) (length fs)

pub ending_le : (q : ℕ) (fs : List (List ℕ)) → ending_by q fs ≤ length fs
unfolding ending_by
ending_le q fs = largest_le (λ c. leb (start_at fs c) q) (length fs)

pub ending_before : (q : ℕ) (fs : List (List ℕ)) → start_at fs (ending_by q fs) ≤ q
unfolding ending_by
ending_before q fs = leb-true _ q (largest_test (λ c. leb (start_at fs c) q) (length fs) (le-leb 0 q (omega arith)))

pub ending_most : (q c : ℕ) (fs : List (List ℕ)) → c ≤ length fs → start_at fs c ≤ q → c ≤ ending_by q fs
unfolding ending_by
ending_most q c fs h l = largest_max (λ c. leb (start_at fs c) q) (length fs) c h (le-leb (start_at fs c) q l)

-- one more factor
pub end_next : (c : ℕ) (fs : List (List ℕ)) {f : List ℕ} {gs : List (List ℕ)} → drop c fs ≡ f ∷ gs
    → (c < length fs) × (start_at fs (suc c) ≡ start_at fs c + length f)
end_next zero [] e = absurd (omega (arith, ap length e))
end_next zero (x ∷ xs) {f} e =
    let p : x ≡ f = cc in
    (omega arith, omega (arith, ap length p, length-append x []))
end_next (suc c) [] e = absurd (omega (arith, ap length e))
end_next (suc c) (x ∷ xs) e =
    let (h, p) = end_next c xs e in
    (omega arith, omega (arith, length-append x (join (take (suc c) xs)), length-append x (join (take c xs))))

-- the next factor ends beyond
pub ending_over : (q : ℕ) (fs : List (List ℕ)) {f : List ℕ} {gs : List (List ℕ)} → drop (ending_by q fs) fs ≡ f ∷ gs
    → q < start_at fs (ending_by q fs) + length f
ending_over q fs {f} e = go (le_or_lt (start_at fs (ending_by q fs) + length f) q) (end_next (ending_by q fs) fs e)
  where
    go : (start_at fs (ending_by q fs) + length f ≤ q) ⊎ (q < start_at fs (ending_by q fs) + length f)
        → (ending_by q fs < length fs) × (start_at fs (suc (ending_by q fs)) ≡ start_at fs (ending_by q fs) + length f) → q < start_at fs (ending_by q fs) + length f
    go (inl h) n = absurd (omega (arith, ending_most q (suc (ending_by q fs)) fs n.0 (omega arith)))
    go (inr h) n = h

pub ending_is : (q c : ℕ) (fs : List (List ℕ)) → c ≤ length fs → start_at fs c ≤ q → (c < length fs → q < start_at fs (suc c)) → ending_by q fs ≡ c
ending_is q c fs h l over = go (le_or_lt (ending_by q fs) c)
  where
    go : (ending_by q fs ≤ c) ⊎ (c < ending_by q fs) → ending_by q fs ≡ c
    go (inl a) = omega (arith, ending_most q c fs h l)
    go (inr a) =
        absurd (omega (arith, over (omega (arith, ending_le q fs)), end_grows (suc c) (ending_by q fs) fs a, ending_before q fs))

-- How many of the strings start before place q.
unfoldable pub starting_by : ℕ → List (List ℕ) → ℕ
starting_by q fs = smallest (λ c. leb q (length (join (take c fs)))) (length fs)

pub starting_le : (q : ℕ) (fs : List (List ℕ)) → starting_by q fs ≤ length fs
unfolding starting_by
starting_le q fs = smallest_le (λ c. leb q (start_at fs c)) (length fs)

pub starting_before_lem : (q c : ℕ) (fs : List (List ℕ)) → c < starting_by q fs → start_at fs c < q
unfolding starting_by
starting_before_lem q c fs h = leb-false q (start_at fs c) (smallest_min (λ c. leb q (start_at fs c)) (length fs) c h)

pub starting_from : (q : ℕ) (fs : List (List ℕ)) → q ≤ length (join fs) → q ≤ start_at fs (starting_by q fs)
unfolding starting_by
starting_from q fs h = go (le_cases (smallest_le (λ c. leb q (start_at fs c)) (length fs)))
  where
    go : (starting_by q fs ≡ length fs) ⊎ (starting_by q fs < length fs) → q ≤ start_at fs (starting_by q fs)
    go (inl e) = rw (e, take_all (length fs) fs (omega arith)) h
    go (inr l) = leb-true q _ (smallest_passes (λ c. leb q (start_at fs c)) (length fs) l)

pub starting_is : (q c : ℕ) (fs : List (List ℕ)) → c ≤ length fs → (c < length fs → q ≤ start_at fs c) → ((d : ℕ) → d < c → start_at fs d < q)
    → starting_by q fs ≡ c
unfolding starting_by
starting_is q c fs h from before =
    smallest_is (λ c. leb q (start_at fs c)) (length fs) c h (λ l. le-leb q (start_at fs c) (from l)) (λ d l. lt-leb q (start_at fs d) (before d l))

-- a factor that ends at or before q starts before each later place
pub ending_starting : (q r : ℕ) (fs : List (List ℕ)) → Falling fs → q ≤ r → r ≤ length (join fs) → ending_by q fs ≤ starting_by r fs
ending_starting q r fs h l k = go (le_or_lt (ending_by q fs) (starting_by r fs))
  where
    go : (ending_by q fs ≤ starting_by r fs) ⊎ (starting_by r fs < ending_by q fs) → ending_by q fs ≤ starting_by r fs
    go (inl a) = a
    go (inr a) =
        let n = end_apart (starting_by r fs) (ending_by q fs) fs h (omega arith) (ending_le q fs) in
        absurd (omega (arith, n, ending_before q fs, starting_from r fs k, l, a))

-- one factor more than n may start before q + n and end after q
pub starting_few : (q n : ℕ) (fs : List (List ℕ)) → Falling fs → starting_by (q + n) fs ≤ ending_by q fs + n + 1
starting_few q n fs h = go (starting_by (q + n) fs) refl
  where
    go : (m : ℕ) → starting_by (q + n) fs ≡ m → m ≤ ending_by q fs + n + 1
    go zero e = omega arith
    go (suc m) e = at (le_or_lt m (ending_by q fs))
      where
        at : (m ≤ ending_by q fs) ⊎ (ending_by q fs < m) → suc m ≤ ending_by q fs + n + 1
        at (inl a) = omega arith
        at (inr a) = from (le_or_lt (start_at fs (suc (ending_by q fs))) q)
          where
            fits : m ≤ length fs
            fits = omega (arith, starting_le (q + n) fs, e)

            from : (start_at fs (suc (ending_by q fs)) ≤ q) ⊎ (q < start_at fs (suc (ending_by q fs))) → suc m ≤ ending_by q fs + n + 1
            from (inl k) = absurd (omega (arith, ending_most q (suc (ending_by q fs)) fs (omega (arith, a, fits)) k))
            from (inr k) = omega (arith, end_apart (suc (ending_by q fs)) m fs h a fits, starting_before_lem (q + n) m fs (rw e (omega arith)), a)

-- the list of starts
pub member_start : (q i : ℕ) (fs : List (List ℕ)) → member q (starts_from i fs) ≡ true → (c : ℕ) × (c < length fs) × (i + start_at fs c ≡ q)
member_start q i [] e = absurd (true_false e refl)
member_start q i (f ∷ fs) e = go (eqb q i) refl e (λ h. member_start q (i + length f) fs h)
  where
    go : (t : Bool) → eqb q i ≡ t → (t || member q (starts_from (i + length f) fs)) ≡ true
        → (member q (starts_from (i + length f) fs) ≡ true → (c : ℕ) × (c < length fs) × (i + length f + start_at fs c ≡ q))
        → (c : ℕ) × (c < length (f ∷ fs)) × (i + start_at (f ∷ fs) c ≡ q)
    go true h p ih = (0, omega arith, omega (arith, eqb-true q i h))
    go false h p ih =
        let (c, l, k) = ih p in
        (suc c, omega arith, omega (arith, length-append f (join (take c fs))))

pub start_member : (q i c : ℕ) (fs : List (List ℕ)) → c < length fs → i + start_at fs c ≡ q → member q (starts_from i fs) ≡ true
start_member q i c [] h e = absurd (omega arith)
start_member q i zero (f ∷ fs) h e = rw (eq-eqb q i (omega arith)) refl
start_member q i (suc c) (f ∷ fs) h e =
    go (eqb q i) (start_member q (i + length f) c fs (omega arith) (omega (arith, length-append f (join (take c fs)))))
  where
    go : (t : Bool) → member q (starts_from (i + length f) fs) ≡ true → (t || member q (starts_from (i + length f) fs)) ≡ true
    go true p = refl
    go false p = p

-- those that start before a place
starting_all : (q i : ℕ) (fs gs : List (List ℕ)) → Falling fs → i + length (join fs) ≤ q
    → starting_before q i (fs ++ gs) ≡ fs ++ starting_before q (i + length (join fs)) gs
starting_all q i [] gs h l =
    let e : i + 0 ≡ i = omega arith in
    rw e refl
starting_all q i (f ∷ fs) gs h l =
    let n = length-append f (join fs) in
    let e : i + length f + length (join fs) ≡ i + length (f ++ join fs) = omega arith in
    let ih = starting_all q (i + length f) fs gs h.2 (omega arith) in
    rw (lt-ltb i q (omega (arith, h.0.some)), ih, e) refl

starting_none : (q i : ℕ) (fs : List (List ℕ)) → q ≤ i → starting_before q i fs ≡ []
starting_none q i [] h = refl
starting_none q i (f ∷ fs) h = rw (le-ltb i q h) (starting_none q (i + length f) fs (omega arith))

-- the factors from number c to number d
pub part_split : (c d : ℕ) (fs : List (List ℕ)) → c ≤ d → take (d - c) (drop c fs) ++ drop d fs ≡ drop c fs
part_split c d fs h =
    let n : c + (d - c) ≡ d = omega arith in
    ap (λ r. take (d - c) (drop c fs) ++ r) (sym (drop-drop (d - c) c fs ∙ ap (λ k. drop k fs) n)) ∙ take-append-drop (d - c) (drop c fs)

pub take_split : (c d : ℕ) (fs : List (List ℕ)) → c ≤ d → take d fs ≡ take c fs ++ take (d - c) (drop c fs)
take_split c d fs h =
    let n : d ≡ c + (d - c) = omega arith in
    ap (λ k. take k fs) n ∙ take-add c (d - c) fs

pub end_part : (c d : ℕ) (fs : List (List ℕ)) → c ≤ d → start_at fs c + length (join (take (d - c) (drop c fs))) ≡ start_at fs d
end_part c d fs h =
    sym (ap (λ gs. length (join gs)) (take_split c d fs h) ∙ ap length (join_append (take c fs) (take (d - c) (drop c fs)))
    ∙ length-append (join (take c fs)) (join (take (d - c) (drop c fs))))

pub middle_part : (c d : ℕ) (fs : List (List ℕ)) → Falling fs → c ≤ d → middle_of c (start_at fs d) fs ≡ take (d - c) (drop c fs)
unfolding middle_of
middle_part c d fs h l =
    ap (starting_before (start_at fs d) (start_at fs c)) (sym (part_split c d fs l))
    ∙ starting_all (start_at fs d) (start_at fs c) part (drop d fs) fall (omega (arith, end_part c d fs l))
    ∙ ap (λ r. part ++ r) (starting_none (start_at fs d) (start_at fs c + length (join part)) (drop d fs) (omega (arith, end_part c d fs l)))
    ∙ append-nil part
  where
    part : List (List ℕ)
    part = take (d - c) (drop c fs)

    fall : Falling part
    fall = falling_left part (drop d fs) (rw (part_split c d fs l) (falling_right (take c fs) (drop c fs) (rw (take-append-drop c fs) h)))

-- what stands after the first c factors, cut at place q
pub rest_cut : (s : List ℕ) (q c : ℕ) → start_at (factors s) c ≤ q → join (drop c (factors s)) ≡ drop (start_at (factors s) c) (take q s) ++ drop q s
rest_cut s q c h =
    sym (drop_end c s) ∙ ap (drop (start_at (factors s) c)) (sym (take-append-drop q s))
    ∙ drop-append-le (start_at (factors s) c) (take q s) (drop q s) (omega (arith, end_le c s, length-take q s, h))

-- F8, by numbers: the first c factors of s, and those of what stands between them and place q, are the factors of the first q symbols
pub cut_front : (s : List ℕ) (q c : ℕ) → start_at (factors s) c ≤ q
    → factors (take q s) ≡ take c (factors s) ++ factors (drop (start_at (factors s) c) (take q s))
cut_front s q c h =
    ap factors (sym (take-append-drop end (take q s)) ∙ ap (λ r. r ++ drop end (take q s)) (take-take end q s h ∙ take_end c s))
    ∙ factors_front (take c (factors s)) (drop c (factors s)) (rw (take-append-drop c (factors s)) (factors_falling s))
    (drop end (take q s)) (drop q s) (rest_cut s q c h)
  where
    end : ℕ
    end = start_at (factors s) c

front_factors : (s : List ℕ) (q c : ℕ) → c ≤ length (factors s) → start_at (factors s) c ≤ q → take c (factors (take q s)) ≡ take c (factors s)
front_factors s q c l h = ap (take c) (cut_front s q c h) ∙ take_at (take c (factors s)) _ c (length-take-le c (factors s) l)

-- patterns that agree up to q have the factors that end there in common
pub front_same : (s t : List ℕ) (q c : ℕ) → take q s ≡ take q t → c ≤ length (factors s) → c ≤ length (factors t) → start_at (factors s) c ≤ q
    → start_at (factors t) c ≤ q → take c (factors s) ≡ take c (factors t)
front_same s t q c e ls lt hs ht = sym (front_factors s q c ls hs) ∙ ap (λ r. take c (factors r)) e ∙ front_factors t q c lt ht

pub same_all_lem : (fs gs : List (List ℕ)) → fs ≡ gs → same_all fs gs ≡ true
same_all_lem fs gs e = rw (← e) (go fs)
  where
    go : (fs : List (List ℕ)) → same_all fs fs ≡ true
    go [] = refl
    go (f ∷ fs) = rw (same_refl f) (go fs)

pub all_same : (fs gs : List (List ℕ)) → same_all fs gs ≡ true → fs ≡ gs
all_same [] [] e = refl
all_same [] (g ∷ gs) e = absurd (true_false e refl)
all_same (f ∷ fs) [] e = absurd (true_false e refl)
all_same (f ∷ fs) (g ∷ gs) e =
    let p = and_true (same f g) (same_all fs gs) e in
    let q = same_true f g p.0 in
    let r = all_same fs gs p.1 in
    cc
