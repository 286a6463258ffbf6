-- Demand 3 pins the answer: two answers that meet it for the same edit are the same, so each is the answer of `Answer`.
-- The numbers are least or greatest of their kind, and each list is decided by them.
use mathlib.Core.List.{List, [], ◌∷◌, ◌++◌}
use mathlib.Core.Logic.{inl, inr, ◌↔◌}
use mathlib.Core.Path.{◌≡◌, refl, sym, ap, ◌∙◌}
use Prim.Native.Nat.{ℕ, suc, ◌≤◌, ◌<◌}
use native.Mathlib.Omega.{arith}
use lib.ListN.{length, take, drop, get_or, length-append}
use lib.Seq.{take-append_seam, take_at}
use Rattle.words.specs.Factors.{factors, start_at, groups_from, spelled}
use Rattle.words.specs.Edit.{edited}
use Rattle.words.specs.Demand.{Member}
use Rattle.words.proofs.Answer.{Answer, answer, MeetsThree}
use Rattle.words.proofs.Places.{first_member}
use Rattle.words.proofs.Demand.{demand_three_lem}
use Rattle.words.proofs.Edit.{append_cancel}

-- what stands between equal lists is equal
between_equal : (p x y q : List (List ℕ)) → p ++ (x ++ q) ≡ p ++ (y ++ q) → x ≡ y
between_equal p x y q e =
    let r = append_cancel p (x ++ q) (y ++ q) e in
    let n : length y ≡ length x = omega (arith, ap length r, length-append x q, length-append y q) in
    sym (take-append_seam x q) ∙ ap (take (length x)) r ∙ take_at y q (length x) n

-- strictly ascending, as demand 3 says it
abbrev pub Rising : List ℕ → Type 0
Rising xs = (k : ℕ) → suc k < length xs → get_or xs k 0 < get_or xs (suc k) 0

rising_rest : (x : ℕ) (xs : List ℕ) → Rising (x ∷ xs) → Rising xs
rising_rest x xs h k l = h (suc k) (omega arith)

rising_below : (x : ℕ) (xs : List ℕ) → Rising (x ∷ xs) → (i : ℕ) → Member i xs → x < i
rising_below x [] h i m = absurd m
rising_below x (y ∷ ys) h i (inl e) = omega (arith, h 0 (omega arith), e)
rising_below x (y ∷ ys) h i (inr m) = omega (arith, h 0 (omega arith), rising_below y ys (rising_rest x (y ∷ ys) h) i m)

rising_first : (x : ℕ) (xs : List ℕ) → Rising (x ∷ xs) → (i : ℕ) → Member i (x ∷ xs) → x ≤ i
rising_first x xs h i (inl e) = omega arith
rising_first x xs h i (inr m) = omega (arith, rising_below x xs h i m)

-- of two ascending lists with the same first member, the members of the one's rest are in the other's rest
rising_others : (x y : ℕ) (xs ys : List ℕ) → Rising (x ∷ xs) → x ≡ y → (i : ℕ) → (Member i (x ∷ xs) → Member i (y ∷ ys)) → Member i xs → Member i ys
rising_others x y xs ys h e i t m = go (t (inr m))
  where
    go : Member i (y ∷ ys) → Member i ys
    go (inl q) = absurd (omega (arith, rising_below x xs h i m, e, q))
    go (inr n) = n

-- two strictly ascending lists with the same members are equal
pub ascending_unique : (xs ys : List ℕ) → Rising xs → Rising ys → ((i : ℕ) → Member i xs ↔ Member i ys) → xs ≡ ys
ascending_unique [] [] h k m = refl
ascending_unique [] (y ∷ ys) h k m = absurd ((m y).1 (inl refl))
ascending_unique (x ∷ xs) [] h k m = absurd ((m x).0 (inl refl))
ascending_unique (x ∷ xs) (y ∷ ys) h k m =
    let e : x ≡ y = omega (arith, rising_first x xs h y ((m y).1 (inl refl)), rising_first y ys k x ((m x).0 (inl refl))) in
    let r : xs ≡ ys = ascending_unique xs ys (rising_rest x xs h) (rising_rest y ys k)
    (λ i. (rising_others x y xs ys h e i (m i).0, rising_others y x ys xs k (sym e) i (m i).1)) in
    rw (e, r) refl

same_answer : (a c : Answer) → a.kept ≡ c.kept → a.resume ≡ c.resume → a.groups ≡ c.groups → a.group_count ≡ c.group_count
    → a.longest ≡ c.longest → a.starts ≡ c.starts → a.start_count ≡ c.start_count → a ≡ c
same_answer a c k r g n l s m = whole
  where
    whole : ◌≡◌ {A = Answer}
        (record {
          kept = a.kept;
          resume = a.resume;
          groups = a.groups;
          group_count = a.group_count;
          longest = a.longest;
          starts = a.starts;
          start_count = a.start_count;
        })
        c
    whole = rw (k, r, g, n, l, s, m) refl

module _ (s : List ℕ) (from to : ℕ) (b : List ℕ) where
  longest_below : (a c : Answer) → MeetsThree s from to b a → MeetsThree s from to b c → 0 < length (edited s from to b) → a.longest ≤ c.longest
  longest_below a c d e h =
      let i = get_or a.starts 0 0 in
      e.longest a.longest i ((d.listed i).0 (first_member a.starts (omega (arith, d.some h, d.counts_starts))))

  longest_same : (a c : Answer) → MeetsThree s from to b a → MeetsThree s from to b c → a.longest ≡ c.longest
  longest_same a c d e = go (edited s from to b) refl
    where
      go : (t : List ℕ) → edited s from to b ≡ t → a.longest ≡ c.longest
      go [] q = d.none q ∙ sym (e.none q)
      go (x ∷ xs) q =
          let h : 0 < length (edited s from to b) = omega (arith, ap length q) in
          omega (arith, longest_below a c d e h, longest_below c a e d h)

  pub demand_three_unique : (a c : Answer) → MeetsThree s from to b a → MeetsThree s from to b c → a ≡ c
  demand_three_unique a c d e = same_answer a c kept resume groups counts longest starts places
    where
      kept : a.kept ≡ c.kept
      kept = omega (arith, e.most a.kept d.keeps, d.most c.kept e.keeps)

      resume : a.resume ≡ c.resume
      resume = omega (arith, e.earliest a.resume d.resumes, d.earliest c.resume e.resumes)

      middle : spelled (edited s from to b) a.groups ≡ spelled (edited s from to b) c.groups
      middle =
          between_equal (take a.kept (factors s)) (spelled (edited s from to b) a.groups) (spelled (edited s from to b) c.groups) (factors (drop a.resume s))
          (d.exactly ∙ sym (rw (← kept, ← resume) at e.exactly))

      groups : a.groups ≡ c.groups
      groups =
          d.grouped ∙ ap (λ k. groups_from (start_at (factors s) k) (spelled (edited s from to b) a.groups)) kept ∙ ap (groups_from (start_at (factors s) c.kept)) middle
          ∙ sym e.grouped

      counts : a.group_count ≡ c.group_count
      counts = d.counts_groups ∙ ap length groups ∙ sym e.counts_groups

      longest : a.longest ≡ c.longest
      longest = longest_same a c d e

      starts : a.starts ≡ c.starts
      starts =
          ascending_unique a.starts c.starts d.ascending e.ascending
          (λ i. (λ m. (e.listed i).1 (rw longest at ((d.listed i).0 m)), λ m. (d.listed i).1 (rw (← longest) at ((e.listed i).0 m))))

      places : a.start_count ≡ c.start_count
      places = d.counts_starts ∙ ap length starts ∙ sym e.counts_starts

pub demand_three_only : (s : List ℕ) (from to : ℕ) (b : List ℕ) → from ≤ to → to ≤ length s → (a : Answer) → MeetsThree s from to b a
    → a ≡ answer s from to b
demand_three_only s from to b h k a d = demand_three_unique s from to b a (answer s from to b) d (demand_three_lem s from to b h k)
