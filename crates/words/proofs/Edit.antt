-- E1 to E4, part by part: what is kept, where the stored ending resumes, the middle between and the bound on its groups. `kept_least`,
-- `resume_first` and `middle_is` say by numbers of factors what these are, for code that finds them another way.
use mathlib.Core.Bool.{Bool, true, false, ◌&&◌}
use mathlib.Core.List.{List, ◌++◌, append_assoc}
use mathlib.Core.Logic.{◌⊎◌, inl, inr}
use mathlib.Core.Path.{◌≡◌, refl, sym, ap, ◌∙◌}
use Prim.Native.Nat.{ℕ, ◌+◌, ◌-◌, ◌≤◌, ◌<◌, min}
use native.Mathlib.Omega.{arith}
use lib.Dec.{leb}
use lib.ListN.{length, take, drop, length-append, take-append-drop, length-drop, length-take}
use lib.Seq.{take_at, drop-append_seam, drop-append-add, drop-drop, length-take-le}
use borrow.Author.Tests.{leb-true, le-leb}
use Rattle.words.specs.Factors.{join, factors, starts_from, groups_from, start_at}
use Rattle.words.specs.Edit.{edited, place, same_all, member, kept_of, kept, resume, middle_of, middle, middle_groups, bits}
use Rattle.words.specs.Demand.{Kept, FactorStart, ResumePoint}
use Rattle.words.proofs.Bounded.{le_or_lt, le_cases, and_true, largest_is, smallest_is}
use Rattle.words.proofs.Factors.{factors_falling, join_factors}
use Rattle.words.proofs.Groups.{groups_append, groups_most, groups_left}
use Rattle.words.proofs.Fresh.{front_fresh}
use Rattle.words.proofs.EditParts.{end_grows, end_le, end_all, factors_after, ending_by, ending_le, ending_before, ending_most}
use Rattle.words.proofs.EditParts.{starting_by, starting_le, starting_before_lem, starting_from}
use Rattle.words.proofs.EditParts.{ending_starting, starting_few, member_start, start_member, part_split, take_split, middle_part, cut_front, front_same, same_all_lem, all_same}

not_true : (b : Bool) → (b ≡ true → ⊥) → b ≡ false
not_true true h = absurd (h refl)
not_true false h = refl

-- The number of factors of the edited pattern that start before the block's end: with the next one the stored ending goes on.
abbrev pub resume_factor : List ℕ → ℕ → ℕ → List ℕ → ℕ
resume_factor s from to b = starting_by (from + length b) (factors (edited s from to b))

-- patterns that agree up to q keep the factors that end there in both
kept_of_lem : (s t : List ℕ) (q : ℕ) → take q s ≡ take q t → kept_of q (factors s) (factors t) ≡ min (ending_by q (factors s)) (ending_by q (factors t))
unfolding kept_of
kept_of_lem s t q e = largest_is (λ c. leb (start_at fs c) q && same_all (take c fs) (take c gs)) (min (length fs) (length gs)) m fits (λ n. passes) above
  where
    fs : List (List ℕ)
    fs = factors s

    gs : List (List ℕ)
    gs = factors t

    m : ℕ
    m = min (ending_by q fs) (ending_by q gs)

    fits : m ≤ min (length fs) (length gs)
    fits = omega (arith, ending_le q fs, ending_le q gs)

    left : start_at fs m ≤ q
    left = omega (arith, end_grows m (ending_by q fs) fs (omega arith), ending_before q fs)

    right : start_at gs m ≤ q
    right = omega (arith, end_grows m (ending_by q gs) gs (omega arith), ending_before q gs)

    passes : (leb (start_at fs m) q && same_all (take m fs) (take m gs)) ≡ true
    passes =
        rw (le-leb (start_at fs m) q left)
        (same_all_lem (take m fs) (take m gs) (front_same s t q m e (omega (arith, fits)) (omega (arith, fits)) left right))

    above : (j : ℕ) → m < j → j ≤ min (length fs) (length gs) → (leb (start_at fs j) q && same_all (take j fs) (take j gs)) ≡ false
    above j l u = not_true _ (λ p.
        let (a, c) = and_true (leb (start_at fs j) q) (same_all (take j fs) (take j gs)) p in
        let d = leb-true (start_at fs j) q a in
        let n = ap (λ r. length (join r)) (all_same (take j fs) (take j gs) c) in
        omega (arith, ending_most q j fs (omega arith) d, ending_most q j gs (omega arith) (omega arith)))

pub append_cancel : (p x y : List (List ℕ)) → p ++ x ≡ p ++ y → x ≡ y
append_cancel p x y e = sym (drop-append_seam p x) ∙ ap (drop (length p)) e ∙ drop-append_seam p y

module _ (s : List ℕ) (from to : ℕ) (b : List ℕ) (h : from ≤ to) (k : to ≤ length s) where
  pub length_edited : length (edited s from to b) ≡ from + length b + (length s - to)
  unfolding edited
  length_edited =
      omega (arith, length-append (take from s) (b ++ drop to s), length-append b (drop to s), length-take from s, length-drop to s, h, k)

  pub edited_front : take from (edited s from to b) ≡ take from s
  unfolding edited
  edited_front = take_at (take from s) (b ++ drop to s) from (length-take-le from s (omega (arith, h, k)))

  pub edited_rest : (p : ℕ) → to ≤ p → drop (place from to b p) (edited s from to b) ≡ drop p s
  unfolding edited
  edited_rest p l =
      let n : place from to b p ≡ length (take from s) + (length b + (p - to)) = omega (arith, length-take-le from s (omega (arith, h, k)), l, h) in
      let m : to + (p - to) ≡ p = omega arith in
      ap (λ i. drop i (take from s ++ (b ++ drop to s))) n ∙ drop-append-add (take from s) (b ++ drop to s) (length b + (p - to))
      ∙ drop-append-add b (drop to s) (p - to) ∙ drop-drop (p - to) to s ∙ ap (λ i. drop i s) m

  -- E1
  pub kept_least : kept s from to b ≡ min (ending_by from (factors s)) (ending_by from (factors (edited s from to b)))
  unfolding kept
  kept_least = kept_of_lem s (edited s from to b) from (sym edited_front)

  kept_before : start_at (factors s) (kept s from to b) ≤ from
  kept_before =
      omega (arith, end_grows (kept s from to b) (ending_by from (factors s)) (factors s) (omega (arith, kept_least)), ending_before from (factors s))

  pub kept_same : take (kept s from to b) (factors s) ≡ take (kept s from to b) (factors (edited s from to b))
  kept_same =
      front_same s t from c (sym edited_front) (omega (arith, kept_least, ending_le from (factors s)))
      (omega (arith, kept_least, ending_le from (factors t))) kept_before
      (omega (arith, end_grows c (ending_by from (factors t)) (factors t) (omega (arith, kept_least)), ending_before from (factors t)))
    where
      t : List ℕ
      t = edited s from to b

      c : ℕ
      c = kept s from to b

  pub keeps : Kept s (edited s from to b) from (kept s from to b)
  keeps = record { count = omega (arith, kept_least, ending_le from (factors s)); before = kept_before; first = kept_same }

  pub keeps_most : (c : ℕ) → Kept s (edited s from to b) from c → c ≤ kept s from to b
  keeps_most c n =
      let fs = factors s in
      let gs = factors (edited s from to b) in
      let l = ap length n.first in
      let u = ap (λ r. length (join r)) n.first in
      let v : c ≤ length gs = omega (arith, length-take c fs, length-take c gs, n.count) in
      omega (arith, kept_least, ending_most from c fs n.count n.before, ending_most from c gs v (omega (arith, n.before)))

  -- the number of the factor at which the stored ending goes on, and its start
  starts_after : from + length b ≤ start_at (factors (edited s from to b)) (resume_factor s from to b)
  starts_after =
      starting_from (from + length b) (factors (edited s from to b)) (omega (arith, ap length (join_factors (edited s from to b)), length_edited))

  pub resume_is : resume s from to b ≡ to + (start_at (factors (edited s from to b)) (resume_factor s from to b) - (from + length b))
  unfolding resume
  resume_is = smallest_is (λ p. leb to p && member (place from to b p) (starts_from 0 fs)) (length s) r fits passes before
    where
      t : List ℕ
      t = edited s from to b

      fs : List (List ℕ)
      fs = factors t

      m : ℕ
      m = starting_by (from + length b) fs

      r : ℕ
      r = to + (start_at fs m - (from + length b))

      fits : r ≤ length s
      fits = omega (arith, end_le m t, length_edited, k)

      passes : r < length s → (leb to r && member (place from to b r) (starts_from 0 fs)) ≡ true
      passes l = rw (le-leb to r (omega arith)) (go (le_cases (starting_le (from + length b) fs)))
        where
          go : (m ≡ length fs) ⊎ (m < length fs) → member (place from to b r) (starts_from 0 fs) ≡ true
          go (inl e) = absurd (omega (arith, l, ap (λ n. start_at fs n) e, end_all t, length_edited, k))
          go (inr n) = start_member (place from to b r) 0 m fs n (omega (arith, starts_after))

      before : (j : ℕ) → j < r → (leb to j && member (place from to b j) (starts_from 0 fs)) ≡ false
      before j l = not_true _ (λ p.
          let (a, c) = and_true (leb to j) (member (place from to b j) (starts_from 0 fs)) p in
          go (leb-true to j a) (member_start (place from to b j) 0 fs c))
        where
          go : to ≤ j → (c : ℕ) × (c < length fs) × (0 + start_at fs c ≡ place from to b j) → ⊥
          go n (c, u, e) = at (le_or_lt m c)
            where
              at : (m ≤ c) ⊎ (c < m) → ⊥
              at (inl v) = omega (arith, end_grows m c fs v, e, l, n)
              at (inr v) = omega (arith, starting_before_lem (from + length b) c fs v, e, n)

  -- the place of the resume point is the first start of a factor at or after the block's end, or the end of the pattern
  pub resume_first : place from to b (resume s from to b) ≡ start_at (factors (edited s from to b)) (resume_factor s from to b)
  resume_first = omega (arith, resume_is, starts_after)

  resume_rest : drop (resume s from to b) s ≡ drop (place from to b (resume s from to b)) (edited s from to b)
  resume_rest = sym (edited_rest (resume s from to b) (omega (arith, resume_is)))

  -- E3: the stored ending has the factors of the edited pattern from there on
  pub resume_factors : factors (drop (resume s from to b) s) ≡ drop (resume_factor s from to b) (factors (edited s from to b))
  resume_factors =
      ap factors (resume_rest ∙ ap (λ i. drop i (edited s from to b)) resume_first)
      ∙ factors_after (resume_factor s from to b) (edited s from to b)

  pub resumes : ResumePoint s from to b (resume s from to b)
  resumes =
      record {
        after = omega (arith, resume_is);
        stored = omega (arith, resume_is, end_le (resume_factor s from to b) (edited s from to b), length_edited, k);
        start = go (le_cases (starting_le (from + length b) (factors (edited s from to b))));
      }
    where
      go : (resume_factor s from to b ≡ length (factors (edited s from to b))) ⊎ (resume_factor s from to b < length (factors (edited s from to b)))
          → (resume s from to b ≡ length s) ⊎ FactorStart (edited s from to b) (place from to b (resume s from to b))
      go (inl e) =
          inl (omega (arith, resume_is, ap (λ n. start_at (factors (edited s from to b)) n) e, end_all (edited s from to b), length_edited, k))
      go (inr l) = inr (record { index = resume_factor s from to b; within = l; at = sym resume_first })

  pub resumes_first : (p : ℕ) → ResumePoint s from to b p → resume s from to b ≤ p
  resumes_first p n = go n.start
    where
      go : (p ≡ length s) ⊎ FactorStart (edited s from to b) (place from to b p) → resume s from to b ≤ p
      go (inl e) = omega (arith, resumes.stored)
      go (inr f) = at (le_or_lt (resume_factor s from to b) f.index)
        where
          at : (resume_factor s from to b ≤ f.index) ⊎ (f.index < resume_factor s from to b) → resume s from to b ≤ p
          at (inl l) =
              let u = end_grows (resume_factor s from to b) f.index (factors (edited s from to b)) l in
              omega (arith, resume_first, u, f.at, n.after, resumes.after)
          at (inr l) = absurd (omega (arith, starting_before_lem (from + length b) f.index (factors (edited s from to b)) l, f.at, n.after))

  -- the middle by numbers of factors
  ending_first : ending_by from (factors (edited s from to b)) ≤ resume_factor s from to b
  ending_first =
      ending_starting from (from + length b) (factors (edited s from to b)) (factors_falling (edited s from to b)) (omega arith)
      (omega (arith, ap length (join_factors (edited s from to b)), length_edited))

  pub kept_first : kept s from to b ≤ resume_factor s from to b
  kept_first = omega (arith, kept_least, ending_first)

  pub middle_is : middle s from to b ≡ take (resume_factor s from to b - kept s from to b) (drop (kept s from to b) (factors (edited s from to b)))
  unfolding middle
  middle_is =
      ap (λ q. middle_of (kept s from to b) q (factors (edited s from to b))) resume_first
      ∙ middle_part (kept s from to b) (resume_factor s from to b) (factors (edited s from to b)) (factors_falling (edited s from to b)) kept_first

  pub middle_exact : take (kept s from to b) (factors s) ++ (middle s from to b ++ factors (drop (resume s from to b) s))
      ≡ factors (edited s from to b)
  middle_exact =
      rw (kept_same, middle_is, resume_factors, part_split (kept s from to b) (resume_factor s from to b) (factors (edited s from to b)) kept_first)
      (take-append-drop (kept s from to b) (factors (edited s from to b)))

  -- E2
  fresh_part : (i : ℕ)
      → length (groups_from i (take (ending_by from (factors (edited s from to b)) - kept s from to b)
      (drop (kept s from to b) (factors (edited s from to b))))) ≤ bits from
  fresh_part i = go (le_or_lt d (ending_by from (factors s)))
    where
      t : List ℕ
      t = edited s from to b

      d : ℕ
      d = ending_by from (factors t)

      c : ℕ
      c = kept s from to b

      new : List (List ℕ)
      new = take (d - c) (drop c (factors t))

      go : (d ≤ ending_by from (factors s)) ⊎ (ending_by from (factors s) < d) → length (groups_from i new) ≤ bits from
      go (inl l) =
          let e : d - c ≡ 0 = omega (arith, kept_least) in
          rw e (omega arith)
      go (inr l) =
          let e : ending_by from (factors s) ≡ c = omega (arith, kept_least) in
          let z = drop (start_at (factors s) c) (take from s) in
          let y = drop (start_at (factors t) d) (take from t) in
          let n = take_split c d (factors t) (omega (arith, kept_least)) in
          let p : new ++ factors y ≡ factors z = append_cancel (take c (factors t)) _ _
          (sym (append_assoc (take c (factors t)) new (factors y)) ∙ ap (λ r. r ++ factors y) (sym n)
          ∙ sym (cut_front t from d (ending_before from (factors t))) ∙ ap factors edited_front ∙ cut_front s from c kept_before
          ∙ ap (λ r. r ++ factors z) kept_same) in
          omega (arith, groups_left i i new (factors y), ap (λ r. length (groups_from i r)) p, rw e at (front_fresh s from i))

  pub middle_bound : length (middle_groups s from to b) ≤ bits from + length b + 1
  unfolding middle_groups
  middle_bound =
      let t = edited s from to b in
      let c = kept s from to b in
      let d = ending_by from (factors t) in
      let m = resume_factor s from to b in
      let i = start_at (factors s) c in
      let new = take (d - c) (drop c (factors t)) in
      let later = take (m - c - (d - c)) (drop (d - c) (drop c (factors t))) in
      let few = starting_few from (length b) (factors t) (factors_falling t) in
      let l : d - c ≤ m - c = omega (arith, ending_first) in
      let parts = ap (λ r. length (groups_from i r)) (middle_is ∙ take_split (d - c) (m - c) (drop c (factors t)) l) in
      let most = length-take (m - c - (d - c)) (drop (d - c) (drop c (factors t))) in
      omega (arith, parts, groups_append i i new later, fresh_part i, groups_most i later, most, few)
