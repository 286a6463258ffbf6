-- O1 to O5: the order is strict, total and kept by a common front; a difference is kept by whatever follows.
-- `Differ` is "smaller by a difference", the part of `Less` that appending does not undo.
use mathlib.Core.Bool.{Bool, true, false, ◌&&◌, ◌||◌}
use mathlib.Core.List.{List, [], ◌∷◌, ◌++◌}
use mathlib.Core.Logic.{◌⊎◌, inl, inr}
use mathlib.Core.Path.{◌≡◌, refl, sym, ap}
use Prim.Native.Nat.{ℕ, ◌≤◌, ◌<◌}
use native.Mathlib.Omega.{arith}
use lib.ListN.{length, length-append}
use lib.Dec.{ltb, eqb}
use borrow.Author.Tests.{ltb-true, eqb-true, lt-ltb, eq-eqb}
use Rattle.words.specs.Order.{Less, less, same}
use Rattle.words.proofs.Bounded.{le_or_lt, and_true, true_false}

abbrev pub Differ : List ℕ → List ℕ → Type 0
Differ [] y = ⊥
Differ (x ∷ xs) [] = ⊥
Differ (x ∷ xs) (y ∷ ys) = (x < y) ⊎ ((x ≡ y) × Differ xs ys)

-- not greater
abbrev pub Le : List ℕ → List ℕ → Type 0
Le x y = Less y x → ⊥

pub data Three (x y : List ℕ) : Type 0 where
  smaller : Less x y → Three x y
  equal : x ≡ y → Three x y
  greater : Less y x → Three x y

pub data ThreeN (a b : ℕ) : Type 0 where
  smaller_n : a < b → ThreeN a b
  equal_n : a ≡ b → ThreeN a b
  greater_n : b < a → ThreeN a b

-- O3: a proper prefix, or a difference
pub data How (x y : List ℕ) : Type 0 where
  prefix : (c : ℕ) (t : List ℕ) → y ≡ x ++ c ∷ t → How x y
  differ : Differ x y → How x y

pub three_n : (a b : ℕ) → ThreeN a b
three_n a b = go (le_or_lt a b) (le_or_lt b a)
  where
    go : (a ≤ b) ⊎ (b < a) → (b ≤ a) ⊎ (a < b) → ThreeN a b
    go (inl h) (inl k) = equal_n (omega arith)
    go (inl h) (inr k) = smaller_n k
    go (inr h) k = greater_n h

pub less_irrefl : (x : List ℕ) → Less x x → ⊥
less_irrefl [] h = h
less_irrefl (x ∷ xs) (inl h) = omega arith
less_irrefl (x ∷ xs) (inr h) = less_irrefl xs h.1

pub less_trans : (x y z : List ℕ) → Less x y → Less y z → Less x z
less_trans [] [] z h k = absurd h
less_trans [] (y ∷ ys) [] h k = absurd k
less_trans [] (y ∷ ys) (z ∷ zs) h k = tt
less_trans (x ∷ xs) [] z h k = absurd h
less_trans (x ∷ xs) (y ∷ ys) [] h k = absurd k
less_trans (x ∷ xs) (y ∷ ys) (z ∷ zs) (inl h) (inl k) = inl (omega arith)
less_trans (x ∷ xs) (y ∷ ys) (z ∷ zs) (inl h) (inr k) = inl (omega arith)
less_trans (x ∷ xs) (y ∷ ys) (z ∷ zs) (inr h) (inl k) = inl (omega arith)
less_trans (x ∷ xs) (y ∷ ys) (z ∷ zs) (inr h) (inr k) = inr (cc, less_trans xs ys zs h.1 k.1)

pub three : (x y : List ℕ) → Three x y
three [] [] = equal refl
three [] (y ∷ ys) = smaller tt
three (x ∷ xs) [] = greater tt
three (x ∷ xs) (y ∷ ys) = go (three_n x y) (three xs ys)
  where
    go : ThreeN x y → Three xs ys → Three (x ∷ xs) (y ∷ ys)
    go (smaller_n h) t = smaller (inl h)
    go (greater_n h) t = greater (inl h)
    go (equal_n e) (smaller h) = smaller (inr (e, h))
    go (equal_n e) (equal q) = equal (cc)
    go (equal_n e) (greater h) = greater (inr (sym e, h))

-- O2
pub less_front : (p x y : List ℕ) → Less x y → Less (p ++ x) (p ++ y)
less_front [] x y h = h
less_front (a ∷ p) x y h = inr (refl, less_front p x y h)

pub less_cancel : (p x y : List ℕ) → Less (p ++ x) (p ++ y) → Less x y
less_cancel [] x y h = h
less_cancel (a ∷ p) x y (inl h) = absurd (omega arith)
less_cancel (a ∷ p) x y (inr h) = less_cancel p x y h.1

-- O4
pub differ_append : (x y a b : List ℕ) → Differ x y → Differ (x ++ a) (y ++ b)
differ_append [] y a b h = absurd h
differ_append (x ∷ xs) [] a b h = absurd h
differ_append (x ∷ xs) (y ∷ ys) a b (inl h) = inl h
differ_append (x ∷ xs) (y ∷ ys) a b (inr h) = inr (h.0, differ_append xs ys a b h.1)

pub differ_front : (p x y : List ℕ) → Differ x y → Differ (p ++ x) (p ++ y)
differ_front [] x y h = h
differ_front (a ∷ p) x y h = inr (refl, differ_front p x y h)

pub differ_less : (x y : List ℕ) → Differ x y → Less x y
differ_less [] y h = absurd h
differ_less (x ∷ xs) [] h = absurd h
differ_less (x ∷ xs) (y ∷ ys) (inl h) = inl h
differ_less (x ∷ xs) (y ∷ ys) (inr h) = inr (h.0, differ_less xs ys h.1)

pub prefix_less : (x : List ℕ) (c : ℕ) (t : List ℕ) → Less x (x ++ c ∷ t)
prefix_less [] c t = tt
prefix_less (x ∷ xs) c t = inr (refl, prefix_less xs c t)

pub less_how : (x y : List ℕ) → Less x y → How x y
less_how [] [] h = absurd h
less_how [] (y ∷ ys) h = prefix y ys refl
less_how (x ∷ xs) [] h = absurd h
less_how (x ∷ xs) (y ∷ ys) (inl h) = differ (inl h)
less_how (x ∷ xs) (y ∷ ys) (inr h) = go (less_how xs ys h.1)
  where
    go : How xs ys → How (x ∷ xs) (y ∷ ys)
    go (prefix c t e) = prefix c t (cc (h.0, e))
    go (differ d) = differ (inr (h.0, d))

-- O5
pub less_differ : (x y : List ℕ) → length y ≤ length x → Less x y → Differ x y
less_differ x y l h = go (less_how x y h)
  where
    go : How x y → Differ x y
    go (prefix c t e) = absurd (omega (arith, simp length-append at (ap length e)))
    go (differ d) = d

-- what a difference is: a common front, then a smaller symbol
abbrev pub Parts : List ℕ → List ℕ → Type 0
Parts x y =
    (p : List ℕ) × (a : ℕ) × (u : List ℕ) × (b : ℕ) × (v : List ℕ) × (x ≡ p ++ a ∷ u) × (y ≡ p ++ b ∷ v) × (a < b)

pub differ_parts : (x y : List ℕ) → Differ x y → Parts x y
differ_parts [] y h = absurd h
differ_parts (x ∷ xs) [] h = absurd h
differ_parts (x ∷ xs) (y ∷ ys) (inl h) = ([], x, xs, y, ys, refl, refl, h)
differ_parts (x ∷ xs) (y ∷ ys) (inr h) =
    let (p, a, u, b, v, e, f, l) = differ_parts xs ys h.1 in
    (x ∷ p, a, u, b, v, cc, cc, l)

pub parts_differ : (p : List ℕ) (a : ℕ) (u : List ℕ) (b : ℕ) (v : List ℕ) → a < b → Differ (p ++ a ∷ u) (p ++ b ∷ v)
parts_differ [] a u b v h = inl h
parts_differ (x ∷ p) a u b v h = inr (refl, parts_differ p a u b v h)

pub less_le : (x y : List ℕ) → Less x y → Le x y
less_le x y h k = less_irrefl x (less_trans x y x h k)

pub le_refl : (x : List ℕ) → Le x x
le_refl x = less_irrefl x

pub less_le_less : (x y z : List ℕ) → Less x y → Le y z → Less x z
less_le_less x y z h k = go (three y z)
  where
    go : Three y z → Less x z
    go (smaller l) = less_trans x y z h l
    go (equal e) = rw e at h
    go (greater l) = absurd (k l)

pub le_less_less : (x y z : List ℕ) → Le x y → Less y z → Less x z
le_less_less x y z h k = go (three x y)
  where
    go : Three x y → Less x z
    go (smaller l) = less_trans x y z l k
    go (equal e) = rw e k
    go (greater l) = absurd (h l)

pub le_trans : (x y z : List ℕ) → Le x y → Le y z → Le x z
le_trans x y z h k l = h (le_less_less y z x k l)

pub le_antisym : (x y : List ℕ) → Le x y → Le y x → x ≡ y
le_antisym x y h k = go (three x y)
  where
    go : Three x y → x ≡ y
    go (smaller l) = absurd (k l)
    go (equal e) = e
    go (greater l) = absurd (h l)

pub le_prefix : (x t : List ℕ) → Le x (x ++ t)
le_prefix [] [] h = h
le_prefix [] (c ∷ t) h = h
le_prefix (x ∷ xs) t (inl h) = omega arith
le_prefix (x ∷ xs) t (inr h) = le_prefix xs t h.1

pub le_choice : (x y : List ℕ) → Le x y → Less x y ⊎ (x ≡ y)
le_choice x y h = go (three x y)
  where
    go : Three x y → Less x y ⊎ (x ≡ y)
    go (smaller l) = inl l
    go (equal e) = inr e
    go (greater l) = absurd (h l)

-- the tests
pub less_true : (x y : List ℕ) → less x y ≡ true → Less x y
less_true [] [] e = absurd (true_false e refl)
less_true [] (y ∷ ys) e = tt
less_true (x ∷ xs) [] e = absurd (true_false e refl)
less_true (x ∷ xs) (y ∷ ys) e = go (ltb x y) refl (eqb x y) refl (less xs ys) refl e (λ q. less_true xs ys q)
  where
    go : (b : Bool) → ltb x y ≡ b → (c : Bool) → eqb x y ≡ c → (d : Bool) → less xs ys ≡ d → (b || (c && d)) ≡ true
        → (less xs ys ≡ true → Less xs ys) → (x < y) ⊎ ((x ≡ y) × Less xs ys)
    go true p c q d r f ih = inl (ltb-true x y p)
    go false p true q true r f ih = inr (eqb-true x y q, ih r)
    go false p true q false r f ih = absurd (true_false f refl)
    go false p false q d r f ih = absurd (true_false f refl)

pub true_less : (x y : List ℕ) → Less x y → less x y ≡ true
true_less [] [] h = absurd h
true_less [] (y ∷ ys) h = refl
true_less (x ∷ xs) [] h = absurd h
true_less (x ∷ xs) (y ∷ ys) (inl h) = rw (lt-ltb x y h)
true_less (x ∷ xs) (y ∷ ys) (inr h) = go (ltb x y) (true_less xs ys h.1)
  where
    go : (b : Bool) → less xs ys ≡ true → (b || (eqb x y && less xs ys)) ≡ true
    go true ih = refl
    go false ih = rw (eq-eqb x y h.0) ih

pub less_false : (x y : List ℕ) → less x y ≡ false → Le y x
less_false x y e h = true_false (true_less x y h) e

pub false_less : (x y : List ℕ) → Le y x → less x y ≡ false
false_less x y h = go (less x y) refl
  where
    go : (b : Bool) → less x y ≡ b → less x y ≡ false
    go true e = absurd (h (less_true x y e))
    go false e = e

pub same_true : (x y : List ℕ) → same x y ≡ true → x ≡ y
same_true [] [] e = refl
same_true [] (y ∷ ys) e = absurd (true_false e refl)
same_true (x ∷ xs) [] e = absurd (true_false e refl)
same_true (x ∷ xs) (y ∷ ys) e =
    let p = and_true (eqb x y) (same xs ys) e in
    let q = eqb-true x y p.0 in
    let r = same_true xs ys p.1 in
    cc

pub same_refl : (x : List ℕ) → same x x ≡ true
same_refl [] = refl
same_refl (x ∷ xs) = rw (eq-eqb x x refl) (same_refl xs)

pub true_same : (x y : List ℕ) → x ≡ y → same x y ≡ true
true_same x y e = rw (← e) (same_refl x)

pub same_false : (x y : List ℕ) → same x y ≡ false → x ≡ y → ⊥
same_false x y e q = true_false (true_same x y q) e

pub false_same : (x y : List ℕ) → (x ≡ y → ⊥) → same x y ≡ false
false_same x y h = go (same x y) refl
  where
    go : (b : Bool) → same x y ≡ b → same x y ≡ false
    go true e = absurd (h (same_true x y e))
    go false e = e
