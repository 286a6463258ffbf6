-- The groups between two boundaries of a pattern's factors, by the groups that end inside: one more.
use mathlib.Core.Bool.{Bool, true, false, cond}
use mathlib.Core.List.{List, [], ◌∷◌}
use mathlib.Core.Logic.{◌⊎◌, inl, inr}
use mathlib.Core.Path.{◌≡◌, refl, sym, ap, ◌∙◌}
use Prim.Native.Nat.{ℕ, zero, suc, ◌+◌, ◌*◌, ◌≤◌, ◌<◌, max}
use native.Mathlib.Omega.{arith}
use lib.Dec.{leb, ltb}
use lib.ListN.{length, take, drop, length-append}
use lib.Seq.{length-take-le}
use borrow.Author.Tests.{le-leb, lt-leb, lt-ltb, le-ltb}
use Rattle.words.specs.Factors.{join, factors, start_at, starts_with, Group, with_factor, groups_from}
use Rattle.words.specs.Order.{same}
use Rattle.words.specs.Tables.{groups, suffix_groups}
use Rattle.words.proofs.Bounded.{le_or_lt, true_false}
use Rattle.words.proofs.Order.{same_true}
use Rattle.words.proofs.Groups.{Packed, none, more, packed, length_with}
use Rattle.words.proofs.EditParts.{end_grows, end_le, factors_part}
use Rattle.scan.proofs.Next.{suffix_end}
use Rattle.cuts.specs.Bounds.{EndsBy, StartsBy}
use Rattle.seams.specs.Survey.{inside_of, ending_between}

module _ (lo hi e : ℕ) where
  pub inside_before : e ≤ lo → inside_of lo hi e ≡ 0
  inside_before h = rw (le-leb e lo h)

  pub inside_past : hi ≤ e → inside_of lo hi e ≡ 0
  inside_past h = rw (le-leb hi e h) (go (leb e lo))
    where
      go : (b : Bool) → ◌≡◌ {A = ℕ} (cond b 0 0) 0
      go true = refl
      go false = refl

  pub inside_one : lo < e → e < hi → inside_of lo hi e ≡ 1
  inside_one h k = rw (lt-leb e lo h, lt-leb hi e k)

  pub inside_most : inside_of lo hi e ≤ 1
  inside_most = go (leb e lo) (leb hi e)
    where
      go : (b c : Bool) → cond b 0 (cond c 0 1) ≤ 1
      go true c = omega arith
      go false true = omega arith
      go false false = omega arith

-- one more factor before the others ends a group, or lengthens the first of them
with_between : (lo hi i : ℕ) (f : List ℕ) (b : Bool) {j : ℕ} {fs : List (List ℕ)} {gs : List Group} → j ≡ i + length f → starts_with f fs ≡ b
    → Packed j fs gs → ending_between lo hi (with_factor b i (length f) gs) ≡ cond b 0 (inside_of lo hi (i + length f)) + ending_between lo hi gs
with_between lo hi i f false e q p =
    let r : i + 1 * length f ≡ i + length f = omega arith in
    rw r refl
with_between lo hi i f true e q none = absurd (true_false q refl)
with_between lo hi i f true e q (more zero g fs n h p) = absurd (omega arith)
with_between lo hi i f true {j} e q (more (suc k) g fs {gs} n h p) =
    let w : length g ≡ length f = ap length (sym (same_true f g q)) in
    let r : i + suc (suc k) * length f ≡ j + suc k * length g = rw w (omega arith) in
    omega (arith, ap (λ u. inside_of lo hi u) r)

between_cons : (lo hi i : ℕ) (f : List ℕ) (fs : List (List ℕ)) → ending_between lo hi (groups_from i (f ∷ fs))
    ≡ cond (starts_with f fs) 0 (inside_of lo hi (i + length f)) + ending_between lo hi (groups_from (i + length f) fs)
between_cons lo hi i f fs = with_between lo hi i f (starts_with f fs) refl refl (packed (i + length f) fs)

cond_none : (b : Bool) {n : ℕ} → n ≡ 0 → cond b 0 n ≡ 0
cond_none true e = refl
cond_none false e = e

between_none : (lo hi i : ℕ) (fs : List (List ℕ)) → hi ≤ i → ending_between lo hi (groups_from i fs) ≡ 0
between_none lo hi i [] h = refl
between_none lo hi i (f ∷ fs) h =
    let n = cond_none (starts_with f fs) (inside_past lo hi (i + length f) (omega arith)) in
    omega (arith, n, between_cons lo hi i f fs, between_none lo hi (i + length f) fs (omega arith))

-- where the next start is, one factor on
start_suc : (f : List ℕ) (fs : List (List ℕ)) (k : ℕ) → start_at (f ∷ fs) (suc k) ≡ length f + start_at fs k
start_suc f fs k = length-append f (join (take k fs))

-- the groups of the first factors
front_groups : (i j lo q : ℕ) (f : List ℕ) (fs : List (List ℕ)) (d : ℕ) → d ≤ length fs → lo < i + length f
    → ((k : ℕ) → k < suc d → i + start_at (f ∷ fs) k < q) → q ≤ i + start_at (f ∷ fs) (suc d)
    → length (groups_from j (take (suc d) (f ∷ fs))) ≡ suc (ending_between lo q (groups_from i (f ∷ fs)))
front_groups i j lo q f fs zero h l s m =
    let e : q ≤ i + length f = omega (arith, start_suc f fs 0) in
    let n = cond_none (starts_with f fs) (inside_past lo q (i + length f) e) in
    omega (arith, n, between_cons lo q i f fs, between_none lo q (i + length f) fs e)
front_groups i j lo q f [] (suc d) h l s m = absurd (omega arith)
front_groups i j lo q f (g ∷ fs) (suc d) h l s m =
    let x = front_groups (i + length f) (j + length f) lo q g fs d (omega arith) (omega arith)
    (λ k o. omega (arith, s (suc k) (omega arith), start_suc f (g ∷ fs) k)) (omega (arith, m, start_suc f (g ∷ fs) (suc d))) in
    let y = inside_one lo q (i + length f) l (omega (arith, s 1 (omega arith), start_suc f (g ∷ fs) 0)) in
    let rest = groups_from (j + length f) (g ∷ take d fs) in
    length_with (same f g) j (length f) rest ∙ go (same f g) (length rest) x y ∙ ap suc (sym (between_cons lo q i f (g ∷ fs)))
  where
    go : (b : Bool) (n : ℕ) {u v : ℕ} → n ≡ suc u → v ≡ 1 → cond b (max 1 n) (suc n) ≡ suc (cond b 0 v + u)
    go true n x y = omega arith
    go false n x y = omega arith

-- the groups of factors behind these
part_groups : (i j lo q : ℕ) (fs : List (List ℕ)) (c d : ℕ) → c < d → d ≤ length fs → i + start_at fs c ≤ lo → lo < i + start_at fs (suc c)
    → ((k : ℕ) → k < d → i + start_at fs k < q) → q ≤ i + start_at fs d
    → length (groups_from j (drop c (take d fs))) ≡ suc (ending_between lo q (groups_from i fs))
part_groups i j lo q fs c zero h l a b s m = absurd (omega arith)
part_groups i j lo q [] c (suc d) h l a b s m = absurd (omega arith)
part_groups i j lo q (f ∷ fs) zero (suc d) h l a b s m = front_groups i j lo q f fs d (omega arith) (omega (arith, b, start_suc f fs 0)) s m
part_groups i j lo q (f ∷ fs) (suc c) (suc d) h l a b s m =
    let n = cond_none (starts_with f fs) (inside_before lo q (i + length f) (omega (arith, a, start_suc f fs c))) in
    part_groups (i + length f) j lo q fs c d (omega arith) (omega arith) (omega (arith, a, start_suc f fs c)) (omega (arith, b, start_suc f fs (suc c)))
    (λ k o. omega (arith, s (suc k) (omega arith), start_suc f fs k)) (omega (arith, m, start_suc f fs d))
    ∙ omega (arith, n, between_cons lo q i f fs)

-- the groups of a pattern from one boundary to another
module _ (t : List ℕ) {lo c a q p : ℕ} (e : EndsBy (factors t) lo c a) (n : StartsBy (factors t) q p) where
  abbrev fs : List (List ℕ)
  fs = factors t

  abbrev d : ℕ
  d = n.boundary.index

  part : c ≤ d → factors (drop a (take p t)) ≡ drop c (take d fs)
  part h =
      ap (λ i. factors (drop i (take p t))) (sym e.at) ∙ ap (λ i. factors (drop (start_at fs c) (take i t))) (sym n.boundary.at)
      ∙ factors_part c d t h

  some : a < p → suc (ending_between lo q (groups t)) ≡ length (suffix_groups (take p t) a)
  unfolding groups suffix_groups
  some h =
      let l : c < d = go (le_or_lt d c) in
      sym (ap (λ gs. length (groups_from a gs)) (part (omega arith))
      ∙ part_groups 0 a lo q fs c d l n.boundary.within (omega (arith, e.at, e.before)) (omega (arith, e.last (omega (arith, n.boundary.within))))
      (λ k o. omega (arith, n.first k o)) (omega (arith, n.boundary.at, n.after)))
    where
      go : (d ≤ c) ⊎ (c < d) → c < d
      go (inl k) = absurd (omega (arith, end_grows d c fs k, e.at, n.boundary.at))
      go (inr k) = k

  pub groups_between : cond (ltb a p) (ending_between lo q (groups t) + 1) 0 ≡ length (suffix_groups (take p t) a)
  groups_between = go (le_or_lt p a)
    where
      go : (p ≤ a) ⊎ (a < p) → cond (ltb a p) (ending_between lo q (groups t) + 1) 0 ≡ length (suffix_groups (take p t) a)
      go (inl k) =
          let short = length-take-le p t (omega (arith, end_le d t, n.boundary.at)) in
          rw (le-ltb a p k) (sym (ap length (suffix_end (take p t) a (omega (arith, short)))))
      go (inr k) = rw (lt-ltb a p k) (omega (arith, some k))
