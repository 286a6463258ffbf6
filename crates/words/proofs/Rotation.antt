-- Section 8, what the least start is: `least_rotation` is the smallest start of a least rotation, and a pattern that is not empty has one.
-- Then the same by places of s ++ s, in which each rotation is a stretch: none is below the one at the least start.
use mathlib.Core.Bool.{Bool, true, false, not}
use mathlib.Core.List.{List, ◌++◌}
use mathlib.Core.Logic.{◌⊎◌, inl, inr}
use mathlib.Core.Path.{◌≡◌, refl, sym, ap, ◌∙◌}
use Prim.Native.Nat.{ℕ, zero, suc, ◌+◌, ◌-◌, ◌≤◌, ◌<◌}
use native.Mathlib.Omega.{arith}
use lib.ListN.{length, take, drop, get_or, length-append, length-take, length-drop, take-append-drop, get_or-append}
use lib.Seq.{take-append-add, drop-append-le, get_or-append-add, get_or-take, get_or-drop, ext_get_or}
use borrow.Author.Tests.{not-true}
use Rattle.words.specs.Order.{Less, less}
use Rattle.words.specs.Rotation.{rotation, least, least_rotation}
use Rattle.words.proofs.Bounded.{le_or_lt, le_cases, every_true, true_every, smallest_le, smallest_passes, smallest_most}
use Rattle.words.proofs.Below.{first_differ}
use Rattle.words.proofs.Order.{Le, Three, smaller, equal, greater, three, less_le, le_refl, le_trans, less_true, less_false, false_less, less_differ, differ_less, differ_append}

-- among finitely many strings one is least
lowest : (f : ℕ → List ℕ) (n : ℕ) → (k : ℕ) × (k ≤ n) × ((j : ℕ) → j ≤ n → Le (f k) (f j))
lowest f zero = (0, omega arith, λ j l. let e : j ≡ 0 = omega arith in rw e (le_refl (f 0)))
lowest f (suc n) = let (k, l, h) = lowest f n in go k l h (less (f (suc n)) (f k)) refl
  where
    go : (k : ℕ) → k ≤ n → ((j : ℕ) → j ≤ n → Le (f k) (f j)) → (b : Bool) → less (f (suc n)) (f k) ≡ b
        → (k : ℕ) × (k ≤ suc n) × ((j : ℕ) → j ≤ suc n → Le (f k) (f j))
    go k l h true q = (suc n, omega arith, λ j m. at j (le_cases m))
      where
        at : (j : ℕ) → (j ≡ suc n) ⊎ (j < suc n) → Le (f (suc n)) (f j)
        at j (inl e) = rw e (le_refl (f (suc n)))
        at j (inr m) = le_trans (f (suc n)) (f k) (f j) (less_le (f (suc n)) (f k) (less_true (f (suc n)) (f k) q)) (h j (omega arith))
    go k l h false q = (k, omega arith, λ j m. at j (le_cases m))
      where
        at : (j : ℕ) → (j ≡ suc n) ⊎ (j < suc n) → Le (f k) (f j)
        at j (inl e) = rw e (less_false (f (suc n)) (f k) q)
        at j (inr m) = h j (omega arith)

least_true : (s : List ℕ) (k : ℕ) → least s k ≡ true → (j : ℕ) → j < length s → Le (rotation s k) (rotation s j)
least_true s k e j l =
    less_false (rotation s j) (rotation s k) (not-true _ (every_true (λ i. not (less (rotation s i) (rotation s k))) (length s) e j l))

true_least : (s : List ℕ) (k : ℕ) → ((j : ℕ) → j < length s → Le (rotation s k) (rotation s j)) → least s k ≡ true
true_least s k h =
    true_every (λ i. not (less (rotation s i) (rotation s k))) (length s)
    (λ j l. ap not (false_less (rotation s j) (rotation s k) (h j l)))

-- at most any start of a least rotation
pub least_rotation_most : (s : List ℕ) (k : ℕ) → ((j : ℕ) → j < length s → Le (rotation s k) (rotation s j)) → least_rotation s ≤ k
unfolding least_rotation
least_rotation_most s k h = smallest_most (least s) (length s) k (true_least s k h)

pub least_rotation_within : (s : List ℕ) → 0 < length s → least_rotation s < length s
least_rotation_within s n =
    let (k, l, h) = lowest (rotation s) (length s - 1) in
    let m = least_rotation_most s k (λ j i. h j (omega arith)) in
    omega arith

-- a place before it says that the pattern is not empty
pub least_start_within : (s : List ℕ) (j : ℕ) → j < least_rotation s → least_rotation s < length s
unfolding least_rotation
least_start_within s j h = least_rotation_within s (omega (arith, h, smallest_le (least s) (length s)))

-- no rotation is smaller
pub least_rotation_least : (s : List ℕ) (j : ℕ) → j < length s → Less (rotation s j) (rotation s (least_rotation s)) → ⊥
unfolding least_rotation
least_rotation_least s j h =
    least_true s (least_rotation s) (smallest_passes (least s) (length s) (least_rotation_within s (omega arith))) j h

-- those that start before are greater
pub least_rotation_first : (s : List ℕ) (j : ℕ) → j < least_rotation s → Less (rotation s (least_rotation s)) (rotation s j)
least_rotation_first s j h = go (three (rotation s (least_rotation s)) (rotation s j))
  where
    not_least : ((i : ℕ) → i < length s → Le (rotation s j) (rotation s i)) → ⊥
    not_least k = let m = least_rotation_most s j k in omega arith

    go : Three (rotation s (least_rotation s)) (rotation s j) → Less (rotation s (least_rotation s)) (rotation s j)
    go (smaller l) = l
    go (equal e) = absurd (not_least (λ i l. rw (← e) (least_rotation_least s i l)))
    go (greater l) = absurd (least_rotation_least s j (let w = least_start_within s j h in omega arith) l)

-- a rotation is a stretch of s ++ s, and places of s ++ s come again after length s
rotation_stretch : (s : List ℕ) (q : ℕ) → q ≤ length s → rotation s q ≡ take (length s) (drop q (s ++ s))
rotation_stretch s q h =
    let e : length s ≡ length (drop q s) + q = rw (length-drop q s) (omega arith) in
    sym (ap (λ u. take (length s) u) (drop-append-le q s s h) ∙ ap (λ m. take m (drop q s ++ s)) e ∙ take-append-add (drop q s) s q)

pub length_rotation : (s : List ℕ) (q : ℕ) → q ≤ length s → length (rotation s q) ≡ length s
length_rotation s q h = omega (arith, length-append (drop q s) (take q s), length-drop q s, length-take q s)

pub get_or_rotation : (s : List ℕ) (q m : ℕ) → q ≤ length s → m < length s → get_or (rotation s q) m 0 ≡ get_or (s ++ s) (q + m) 0
get_or_rotation s q m h l =
    ap (λ u. get_or u m 0) (rotation_stretch s q h) ∙ get_or-take (length s) (drop q (s ++ s)) m 0 l ∙ get_or-drop q (s ++ s) m 0

pub again : (s : List ℕ) (m : ℕ) → m < length s → get_or (s ++ s) (length s + m) 0 ≡ get_or (s ++ s) m 0
again s m h = get_or-append-add s s m 0 ∙ sym (get_or-append s s 0 m h)

-- where s ++ s shows the same d places later, so do the rotations
pub rotation_again : (s : List ℕ) (k d : ℕ) → k + d ≤ length s → ((m : ℕ) → m < length s → get_or (s ++ s) (k + m + d) 0 ≡ get_or (s ++ s) (k + m) 0)
    → rotation s k ≡ rotation s (k + d)
rotation_again s k d h same =
    let a = length_rotation s k (omega arith) in
    ext_get_or 0 _ _ (a ∙ sym (length_rotation s (k + d) h)) (λ m l.
    let e : k + m + d ≡ k + d + m = omega arith in
    get_or_rotation s k m (omega arith) (omega arith) ∙ sym (same m (omega arith)) ∙ ap (λ u. get_or (s ++ s) u 0) e
    ∙ sym (get_or_rotation s (k + d) m h (omega arith)))

rotation_front : (s : List ℕ) (q : ℕ) → q ≤ length s → drop q (s ++ s) ≡ rotation s q ++ drop (length s) (drop q (s ++ s))
rotation_front s q h =
    sym (ap (λ u. u ++ drop (length s) (drop q (s ++ s))) (rotation_stretch s q h) ∙ take-append-drop (length s) (drop q (s ++ s)))

-- M2: of the suffixes of s ++ s, those that start before the least start are greater
pub least_start_before : (s : List ℕ) (j : ℕ) → j < least_rotation s → Less (drop (least_rotation s) (s ++ s)) (drop j (s ++ s))
least_start_before s j h =
    let w = least_start_within s j h in
    let le : length (rotation s j) ≤ length (rotation s (least_rotation s)) =
    omega (arith, length_rotation s j (omega arith), length_rotation s (least_rotation s) (omega arith)) in
    rw (rotation_front s j (omega arith), rotation_front s (least_rotation s) (omega arith))
    (differ_less (rotation s (least_rotation s) ++ _) (rotation s j ++ _) (differ_append (rotation s (least_rotation s)) (rotation s j) _ _
    (less_differ (rotation s (least_rotation s)) (rotation s j) le (least_rotation_first s j h))))

-- the symbols of t from q on agree with those from r on for m places, and then the one from q is smaller
abbrev pub Below : List ℕ → ℕ → ℕ → ℕ → Type 0
Below t q r m = ((d : ℕ) → d < m → get_or t (q + d) 0 ≡ get_or t (r + d) 0) × (get_or t (q + m) 0 < get_or t (r + m) 0)

pub rotation_below : (s : List ℕ) (q r m : ℕ) → q ≤ length s → r ≤ length s → m < length s → Below (s ++ s) q r m → Less (rotation s q) (rotation s r)
rotation_below s q r m hq hr h b =
    differ_less (rotation s q) (rotation s r) (first_differ (rotation s q) (rotation s r) m
    (rw (length_rotation s q hq) h) (rw (length_rotation s r hr) h)
    (rw (get_or_rotation s q m hq h, get_or_rotation s r m hr h) b.1)
    (λ d l. get_or_rotation s q d hq (omega arith) ∙ b.0 d l ∙ sym (get_or_rotation s r d hr (omega arith))))

-- nothing in s ++ s is below what starts at the least start
pub least_start_low : (s : List ℕ) (q m : ℕ) → m < length s → q + m < length s + length s → Below (s ++ s) q (least_rotation s) m → ⊥
least_start_low s q m h l b = go (le_or_lt (length s) q) (least_rotation_within s (omega arith))
  where
    back : (d : ℕ) → length s ≤ q → q + d < length s + length s → get_or (s ++ s) (q - length s + d) 0 ≡ get_or (s ++ s) (q + d) 0
    back d k u =
        let e : length s + (q - length s + d) ≡ q + d = omega arith in
        sym (again s (q - length s + d) (omega arith)) ∙ ap (λ v. get_or (s ++ s) v 0) e

    go : (length s ≤ q) ⊎ (q < length s) → least_rotation s < length s → ⊥
    go (inl k) w =
        least_rotation_least s (q - length s) (omega arith)
        (rotation_below s (q - length s) (least_rotation s) m (omega arith) (omega arith) h
        (λ d u. back d k (omega arith) ∙ b.0 d u, rw (back m k l) b.1))
    go (inr k) w = least_rotation_least s q k (rotation_below s q (least_rotation s) m (omega arith) (omega arith) h b)
