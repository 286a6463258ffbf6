-- Groups in which equal neighbours are joined, and the law of the seams: the groups of an edited pattern are those of its kept factors, its
-- middle and its resumed factors, each part grouped on its own, with equal neighbours joined.
use mathlib.Core.Bool.{Bool, true, false, cond}
use mathlib.Core.List.{List, [], ◌∷◌, ◌++◌, append-nil}
use mathlib.Core.Path.{◌≡◌, refl, sym, ap, ap₂, ◌∙◌}
use Prim.Native.Nat.{ℕ, suc, ◌+◌, ◌≤◌}
use native.Mathlib.Omega.{arith}
use lib.ListN.{length, take, drop, length-append}
use lib.Seq.{take-append_seam, drop-append_seam, drop-drop}
use Rattle.words.specs.Order.{same}
use Rattle.words.specs.Factors.{join, factors, start_at, starts_with, Group, word_of, with_factor, groups_from}
use Rattle.words.specs.Tables.{groups}
use Rattle.words.specs.Edit.{edited, place, kept, resume, middle, middle_groups}
use Rattle.words.proofs.Factors.{join_append, join_factors}
use Rattle.words.proofs.Edit.{resume_factor, kept_first, kept_same, resume_first, middle_is, middle_exact}
use Rattle.words.proofs.EditParts.{end_part}
use Rattle.words.proofs.Groups.{group}
use Rattle.words.proofs.Order.{same_true}

-- A group before others: where its word is that of the first of them, the two are one group with the power of both.
abbrev pub join_first : List ℕ → Group → List Group → List Group
join_first t g [] = g ∷ []
join_first t g (h ∷ hs) =
    cond (same (word_of t g) (word_of t h)) (group g.start g.size (g.power + h.power) ∷ hs) (g ∷ h ∷ hs)

-- Groups of factors of t with equal neighbours joined.
abbrev pub join_equal : List ℕ → List Group → List Group
join_equal t [] = []
join_equal t (g ∷ gs) = join_first t g (join_equal t gs)

-- the strings fs, then gs, stand in t one behind the other from place i on: gs stand where fs end, and the first string stands at i
pub others_stand : (t : List ℕ) (i j : ℕ) (fs gs : List (List ℕ)) → i + length (join fs) ≡ j → drop i t ≡ join (fs ++ gs) → drop j t ≡ join gs
others_stand t i j fs gs e h =
    ap (λ k. drop k t) (sym e) ∙ sym (drop-drop (length (join fs)) i t) ∙ ap (drop (length (join fs))) (h ∙ join_append fs gs)
    ∙ drop-append_seam (join fs) (join gs)

pub first_stands : (t : List ℕ) (i : ℕ) (f : List ℕ) (fs : List (List ℕ)) → drop i t ≡ f ++ join fs
    → (take (length f) (drop i t) ≡ f) × (drop (i + length f) t ≡ join fs)
first_stands t i f fs h =
    (ap (take (length f)) h ∙ take-append_seam f (join fs), sym (drop-drop (length f) i t) ∙ ap (drop (length f)) h ∙ drop-append_seam f (join fs))

-- the first group of some factors, by its start and size
with_first : (b : Bool) (i l : ℕ) (gs : List Group) → (e : ℕ) × (hs : List Group) × (with_factor b i l gs ≡ group i l e ∷ hs)
with_first false i l gs = (1, gs, refl)
with_first true i l [] = (1, [], refl)
with_first true i l (g ∷ gs) = (suc g.power, gs, refl)

-- a factor f at i, as a group of one, joined to the groups of the factors that follow
factor_joined : (t : List ℕ) (i : ℕ) (f : List ℕ) (fs : List (List ℕ)) → drop i t ≡ f ++ join fs
    → join_first t (group i (length f) 1) (groups_from (i + length f) fs) ≡ with_factor (starts_with f fs) i (length f) (groups_from (i + length f) fs)
factor_joined t i f [] h = refl
factor_joined t i f (g ∷ fs) h =
    let (w, r) = first_stands t i f (g ∷ fs) h in
    let (v, _) = first_stands t (i + length f) g fs r in
    let (e, hs, q) = with_first (starts_with g fs) (i + length f) (length g) (groups_from (i + length f + length g) fs) in
    rw (q, w, v) (go e hs (same f g))
  where
    go : (e : ℕ) (hs : List Group) (b : Bool)
        → cond b (group i (length f) (1 + e) ∷ hs) (group i (length f) 1 ∷ group (i + length f) (length g) e ∷ hs)
        ≡ with_factor b i (length f) (group (i + length f) (length g) e ∷ hs)
    go e hs true =
        let n : 1 + e ≡ suc e = omega arith in
        rw n refl
    go e hs false = refl

-- one more factor in a group, before or after the group is joined with what follows
more_joined : (t : List ℕ) (i : ℕ) (f : List ℕ) (g : Group) (gs : List Group) → take (length f) (drop i t) ≡ f → word_of t g ≡ f
    → join_first t (group i (length f) (suc g.power)) gs ≡ with_factor true i (length f) (join_first t g gs)
more_joined t i f g [] e w = refl
more_joined t i f g (h ∷ hs) e w = rw (e, w) (go (same f (word_of t h)))
  where
    go : (b : Bool) → cond b (group i (length f) (suc g.power + h.power) ∷ hs) (group i (length f) (suc g.power) ∷ h ∷ hs)
        ≡ with_factor true i (length f) (cond b (group g.start g.size (g.power + h.power) ∷ hs) (g ∷ h ∷ hs))
    go true =
        let n : suc g.power + h.power ≡ suc (g.power + h.power) = omega arith in
        rw n refl
    go false = refl

-- the groups of the factors fs before groups that are those of the factors gs once equal neighbours are joined
parts_joined : (t : List ℕ) (i j : ℕ) (fs gs : List (List ℕ)) (hs : List Group) → i + length (join fs) ≡ j → drop i t ≡ join (fs ++ gs)
    → join_equal t hs ≡ groups_from j gs → join_equal t (groups_from i fs ++ hs) ≡ groups_from i (fs ++ gs)
parts_joined t i j [] gs hs n h e =
    let m : j ≡ i = omega (arith, n) in
    rw m at e
parts_joined t i j (f ∷ []) gs hs n h e =
    let m : j ≡ i + length f = omega (arith, n, length-append f []) in
    ap (join_first t (group i (length f) 1)) (rw m at e) ∙ factor_joined t i f gs h
parts_joined t i j (f ∷ k ∷ fs) gs hs n h e =
    let (w, r) = first_stands t i f (k ∷ fs ++ gs) h in
    let (v, _) = first_stands t (i + length f) k (fs ++ gs) r in
    go w v (same f k) refl (parts_joined t (i + length f) j (k ∷ fs) gs hs (omega (arith, n, length-append f (k ++ join fs))) r e)
  where
    go : take (length f) (drop i t) ≡ f → take (length k) (drop (i + length f) t) ≡ k → (b : Bool) → same f k ≡ b
        → join_equal t (groups_from (i + length f) (k ∷ fs) ++ hs) ≡ groups_from (i + length f) (k ∷ fs ++ gs)
        → join_equal t (with_factor b i (length f) (groups_from (i + length f) (k ∷ fs)) ++ hs)
        ≡ with_factor b i (length f) (groups_from (i + length f) (k ∷ fs ++ gs))
    go w v true q p =
        let old = groups_from (i + length f) (k ∷ fs) in
        let (a, ks, z) = with_first (starts_with k fs) (i + length f) (length k) (groups_from (i + length f + length k) fs) in
        let more : join_equal t (with_factor true i (length f) old ++ hs) ≡ with_factor true i (length f) (join_equal t (old ++ hs)) =
        rw z (more_joined t i f (group (i + length f) (length k) a) (join_equal t (ks ++ hs)) w (v ∙ sym (same_true f k q))) in
        more ∙ ap (with_factor true i (length f)) p
    go w v false q p =
        ap (join_first t (group i (length f) 1)) p ∙ factor_joined t i f (k ∷ fs ++ gs) h
        ∙ ap (λ b. with_factor b i (length f) (groups_from (i + length f) (k ∷ fs ++ gs))) q

-- the groups of factors have no equal neighbours
groups_joined : (t : List ℕ) (i : ℕ) (fs : List (List ℕ)) → drop i t ≡ join fs → join_equal t (groups_from i fs) ≡ groups_from i fs
groups_joined t i fs h =
    let e = append-nil fs in
    rw (append-nil (groups_from i fs), e) at (parts_joined t i (i + length (join fs)) fs [] [] refl (rw (sym e) at h) refl)

-- kept and resumed factors, each part grouped on its own; starts are places in the edited pattern
abbrev pub kept_groups : List ℕ → ℕ → ℕ → List ℕ → List Group
kept_groups s from to b = groups_from 0 (take (kept s from to b) (factors s))

abbrev pub resumed_groups : List ℕ → ℕ → ℕ → List ℕ → List Group
resumed_groups s from to b = groups_from (place from to b (resume s from to b)) (factors (drop (resume s from to b) s))

-- the law of the seams
module _ (s : List ℕ) (from to : ℕ) (b : List ℕ) (h : from ≤ to) (l : to ≤ length s) where
  abbrev t : List ℕ
  t = edited s from to b

  abbrev first : List (List ℕ)
  first = take (kept s from to b) (factors s)

  abbrev last : List (List ℕ)
  last = factors (drop (resume s from to b) s)

  -- the resumed factors start where the middle ends
  middle_end : start_at (factors s) (kept s from to b) + length (join (middle s from to b)) ≡ place from to b (resume s from to b)
  middle_end =
      ap₂ (λ fs gs. length (join fs) + length (join gs)) (kept_same s from to b h l) (middle_is s from to b h l)
      ∙ end_part (kept s from to b) (resume_factor s from to b) (factors t) (kept_first s from to b h l)
      ∙ sym (resume_first s from to b h l)

  pub seams_joined : groups t ≡ join_equal t (kept_groups s from to b ++ (middle_groups s from to b ++ resumed_groups s from to b))
  unfolding groups middle_groups
  seams_joined =
      let i = start_at (factors s) (kept s from to b) in
      let q = place from to b (resume s from to b) in
      let mid = middle s from to b in
      let whole = middle_exact s from to b h l in
      let one = sym (ap join whole ∙ join_factors t) in
      let two = others_stand t 0 i first (mid ++ last) (omega arith) one in
      let three = others_stand t i q mid last middle_end two in
      let ending = groups_joined t q last three in
      let later = parts_joined t i q mid last (groups_from q last) middle_end two ending in
      let all = parts_joined t 0 i first (mid ++ last) (groups_from i mid ++ groups_from q last) (omega arith) one later in
      ap (groups_from 0) (sym whole) ∙ sym all
