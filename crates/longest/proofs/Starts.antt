-- The starts of all factors of one length, listed off groups. Off the groups of a pattern, for the longest length, these are the starts of
-- its longest Lyndon substrings: both lists ascend, and they have the same members.
use mathlib.Core.Bool.{Bool, true, false, cond}
use mathlib.Core.List.{List, [], ◌∷◌, ◌++◌, append_assoc}
use mathlib.Core.Logic.{inl, inr, ◌↔◌}
use mathlib.Core.Path.{◌≡◌, refl, sym, ap, ◌∙◌}
use Prim.Native.Nat.{ℕ, zero, suc, ◌+◌, ◌*◌, ◌≤◌, ◌<◌}
use native.Mathlib.Omega.{arith}
use lib.Dec.{eqb}
use lib.ListN.{length, take, drop, get_or, replicate, length-append, take-append-drop}
use borrow.Author.Tests.{eqb-true, eq-eqb}
use Rattle.words.specs.Factors.{join, factors, start_at, Group, groups_from}
use Rattle.words.specs.Tables.{groups, suffix_groups, longest, longest_starts, lyndon_starts}
use Rattle.words.specs.Demand.{Member}
use lib.Seq.{take-take}
use Rattle.words.proofs.EditParts.{join_split, factors_after, factors_part}
use Rattle.words.proofs.Groups.{Packed, none, more, packed}
use Rattle.words.proofs.Longest.{FactorAt, factor_lyndon_at, longest_factors, longest_factor}
use Rattle.words.proofs.Places.{AllAfter, Ascending, ascending_next, lyndon_at_some}
use Rattle.words.proofs.Only.{ascending_unique}
use Rattle.words.proofs.Substrings.{longest_listed, longest_ascending}
use Rattle.longest.specs.Best.{run_from, starts_of}

pub starts_append : (l : ℕ) (gs hs : List Group) → starts_of l (gs ++ hs) ≡ starts_of l gs ++ starts_of l hs
starts_append l [] hs = refl
starts_append l (g ∷ gs) hs = go (eqb g.size l) (starts_append l gs hs)
  where
    run : List ℕ
    run = run_from g.start g.size g.power

    go : (b : Bool) → starts_of l (gs ++ hs) ≡ starts_of l gs ++ starts_of l hs
        → cond b (run ++ starts_of l (gs ++ hs)) (starts_of l (gs ++ hs)) ≡ cond b (run ++ starts_of l gs) (starts_of l gs) ++ starts_of l hs
    go true e = ap (λ u. run ++ u) e ∙ sym (append_assoc run (starts_of l gs) (starts_of l hs))
    go false e = e

-- the same, off factors that stand from place i on
abbrev factor_starts : ℕ → ℕ → List (List ℕ) → List ℕ
factor_starts l i [] = []
factor_starts l i (f ∷ fs) =
    let rest = factor_starts l (i + length f) fs in
    cond (eqb (length f) l) (i ∷ rest) rest

starts_repeat : (l i e : ℕ) (f : List ℕ) (fs : List (List ℕ)) (rest : List ℕ) → factor_starts l (i + e * length f) fs ≡ rest
    → factor_starts l i (replicate e f ++ fs) ≡ cond (eqb (length f) l) (run_from i (length f) e ++ rest) rest
starts_repeat l i zero f fs rest q =
    let p : i ≡ i + 0 * length f = omega arith in
    ap (λ k. factor_starts l k fs) p ∙ q ∙ go (eqb (length f) l)
  where
    go : (b : Bool) → rest ≡ cond b rest rest
    go true = refl
    go false = refl
starts_repeat l i (suc e) f fs rest q =
    let p : i + length f + e * length f ≡ i + suc e * length f = omega arith in
    go (eqb (length f) l) (starts_repeat l (i + length f) e f fs rest (ap (λ k. factor_starts l k fs) p ∙ q))
  where
    later : List ℕ
    later = factor_starts l (i + length f) (replicate e f ++ fs)

    run : List ℕ
    run = run_from (i + length f) (length f) e

    go : (b : Bool) → later ≡ cond b (run ++ rest) rest → cond b (i ∷ later) later ≡ cond b (i ∷ run ++ rest) rest
    go true r = ap {B = List ℕ} (λ u. i ∷ u) r
    go false r = r

packed_starts : (l : ℕ) {i : ℕ} {fs : List (List ℕ)} {gs : List Group} → Packed i fs gs → starts_of l gs ≡ factor_starts l i fs
packed_starts l none = refl
packed_starts l {i} (more e f fs {gs} n h p) = sym (starts_repeat l i e f fs (starts_of l gs) (sym (packed_starts l p)))

factor_starts_append : (l i : ℕ) (fs gs : List (List ℕ)) → factor_starts l i (fs ++ gs) ≡ factor_starts l i fs ++ factor_starts l (i + length (join fs)) gs
factor_starts_append l i [] gs =
    let e : i ≡ i + 0 = omega arith in
    ap (λ k. factor_starts l k gs) e
factor_starts_append l i (f ∷ fs) gs =
    let e : i + length f + length (join fs) ≡ i + length (f ++ join fs) = omega (arith, length-append f (join fs)) in
    go (eqb (length f) l) (factor_starts_append l (i + length f) fs gs ∙ ap (λ k. factor_starts l (i + length f) fs ++ factor_starts l k gs) e)
  where
    later : List ℕ
    later = factor_starts l (i + length (f ++ join fs)) gs

    go : (b : Bool) → factor_starts l (i + length f) (fs ++ gs) ≡ factor_starts l (i + length f) fs ++ later
        → cond b (i ∷ factor_starts l (i + length f) (fs ++ gs)) (factor_starts l (i + length f) (fs ++ gs))
        ≡ cond b (i ∷ factor_starts l (i + length f) fs) (factor_starts l (i + length f) fs) ++ later
    go true q = ap {B = List ℕ} (λ u. i ∷ u) q
    go false q = q

drop_split : (c d : ℕ) (fs : List (List ℕ)) → c ≤ d → drop c fs ≡ drop c (take d fs) ++ drop d fs
drop_split zero d fs h = sym (take-append-drop d fs)
drop_split (suc c) zero fs h = absurd (omega arith)
drop_split (suc c) (suc d) [] h = refl
drop_split (suc c) (suc d) (f ∷ fs) h = drop_split c d fs (omega arith)

-- the starts from one boundary on: those up to another, and those from there on
pub starts_part : (l : ℕ) (t : List ℕ) (c d : ℕ) → c ≤ d → starts_of l (suffix_groups t (start_at (factors t) c))
    ≡ starts_of l (suffix_groups (take (start_at (factors t) d) t) (start_at (factors t) c)) ++ starts_of l (suffix_groups t (start_at (factors t) d))
unfolding suffix_groups
starts_part l t c d h =
    let fs = factors t in
    let a = start_at fs c in
    let b = start_at fs d in
    let split : drop c fs ≡ drop c (take d fs) ++ drop d fs = drop_split c d fs h in
    let e : a + length (join (drop c (take d fs))) ≡ b = omega (arith, ap length (join_split c (take d fs)), length-append (join (take c (take d fs))) (join (drop c (take d fs))), ap (λ gs. length (join gs)) (take-take c d fs h)) in
    packed_starts l (packed a (factors (drop a t))) ∙ ap (factor_starts l a) (factors_after c t ∙ split)
    ∙ factor_starts_append l a (drop c (take d fs)) (drop d fs)
    ∙ ap (λ k. factor_starts l a (drop c (take d fs)) ++ factor_starts l k (drop d fs)) e
    ∙ ap (λ gs. factor_starts l a gs ++ factor_starts l b (drop d fs)) (sym (factors_part c d t h))
    ∙ ap (λ gs. factor_starts l a (factors (drop a (take b t))) ++ factor_starts l b gs) (sym (factors_after d t))
    ∙ ap (λ u. u ++ factor_starts l b (factors (drop b t))) (sym (packed_starts l (packed a (factors (drop a (take b t))))))
    ∙ ap (λ u. starts_of l (groups_from a (factors (drop a (take b t)))) ++ u) (sym (packed_starts l (packed b (factors (drop b t)))))

-- the k-th factor is of length l and stands at j
record Placed (l i : ℕ) (fs : List (List ℕ)) (j : ℕ) : Type 0 where
  pub factor : ℕ
  pub within : factor < length fs
  pub at : i + length (join (take factor fs)) ≡ j
  pub size : length (get_or fs factor []) ≡ l

member_placed : (l i : ℕ) (fs : List (List ℕ)) (j : ℕ) → Member j (factor_starts l i fs) → Placed l i fs j
member_placed l i [] j m = absurd m
member_placed l i (f ∷ fs) j m₀ = go (eqb (length f) l) refl m₀ (λ m. later (member_placed l (i + length f) fs j m))
  where
    later : Placed l (i + length f) fs j → Placed l i (f ∷ fs) j
    later p =
        record {
          factor = suc p.factor;
          within = omega arith;
          at = omega (arith, p.at, length-append f (join (take p.factor fs)));
          size = p.size;
        }

    rest : List ℕ
    rest = factor_starts l (i + length f) fs

    go : (b : Bool) → eqb (length f) l ≡ b → Member j (cond b (i ∷ rest) rest) → (Member j rest → Placed l i (f ∷ fs) j) → Placed l i (f ∷ fs) j
    go true q (inl e) ih = record { factor = 0; within = omega arith; at = omega arith; size = eqb-true (length f) l q }
    go true q (inr m) ih = ih m
    go false q m ih = ih m

placed_member : (l i : ℕ) (fs : List (List ℕ)) (j k : ℕ) → k < length fs → i + length (join (take k fs)) ≡ j → length (get_or fs k []) ≡ l
    → Member j (factor_starts l i fs)
placed_member l i [] j k h e q = absurd (omega arith)
placed_member l i (f ∷ fs) j zero h e q = rw (eq-eqb (length f) l q) (inl (omega arith))
placed_member l i (f ∷ fs) j (suc k) h e q =
    go (eqb (length f) l) (placed_member l (i + length f) fs j k (omega arith) (omega (arith, e, length-append f (join (take k fs)))) q)
  where
    rest : List ℕ
    rest = factor_starts l (i + length f) fs

    go : (b : Bool) → Member j rest → Member j (cond b (i ∷ rest) rest)
    go true m = inr m
    go false m = m

pub starts_factors : (s : List ℕ) (l j : ℕ) → Member j (starts_of l (groups s)) ↔ FactorAt s l j
unfolding groups
starts_factors s l j = (to, from)
  where
    same : starts_of l (groups_from 0 (factors s)) ≡ factor_starts l 0 (factors s)
    same = packed_starts l (packed 0 (factors s))

    to : Member j (starts_of l (groups_from 0 (factors s))) → FactorAt s l j
    to m =
        let p = member_placed l 0 (factors s) j (rw same at m) in
        record { factor = p.factor; within = p.within; at = omega (arith, p.at); size = p.size }

    from : FactorAt s l j → Member j (starts_of l (groups_from 0 (factors s)))
    from p = rw same (placed_member l 0 (factors s) j p.factor p.within (omega (arith, p.at)) p.size)

factor_after : (l x i : ℕ) (fs : List (List ℕ)) → x < i → AllAfter x (factor_starts l i fs)
factor_after l x i [] h = tt
factor_after l x i (f ∷ fs) h = go (eqb (length f) l) (factor_after l x (i + length f) fs (omega arith))
  where
    rest : List ℕ
    rest = factor_starts l (i + length f) fs

    go : (b : Bool) → AllAfter x rest → AllAfter x (cond b (i ∷ rest) rest)
    go true a = (h, a)
    go false a = a

factor_ascending : (l i : ℕ) (fs : List (List ℕ)) → 0 < l → Ascending (factor_starts l i fs)
factor_ascending l i [] h = tt
factor_ascending l i (f ∷ fs) h = go (eqb (length f) l) refl (factor_ascending l (i + length f) fs h)
  where
    rest : List ℕ
    rest = factor_starts l (i + length f) fs

    go : (b : Bool) → eqb (length f) l ≡ b → Ascending rest → Ascending (cond b (i ∷ rest) rest)
    go true q a = (factor_after l i (i + length f) fs (omega (arith, eqb-true (length f) l q)), a)
    go false q a = a

longest_size : (s : List ℕ) → 0 < length s → 0 < longest s
longest_size s h = lyndon_at_some (factor_lyndon_at (longest_factor s h).1)

pub longest_starts_lem : (s : List ℕ) → starts_of (longest s) (groups s) ≡ longest_starts s
unfolding groups factors longest_starts lyndon_starts
longest_starts_lem [] = refl
longest_starts_lem (x ∷ xs) =
    let s = x ∷ xs in
    let l = longest s in
    let same : starts_of l (groups s) ≡ factor_starts l 0 (factors s) = packed_starts l (packed 0 (factors s)) in
    same
    ∙ ascending_unique (factor_starts l 0 (factors s)) (longest_starts s)
    (ascending_next (factor_starts l 0 (factors s)) (factor_ascending l 0 (factors s) (longest_size s (omega arith)))) (longest_ascending s)
    (λ j. (
      λ m. (longest_listed s j).1 ((longest_factors s j).1 ((starts_factors s l j).0 (rw same m))),
      λ m. rw same at ((starts_factors s l j).1 ((longest_factors s j).0 ((longest_listed s j).0 m))),
    ))
