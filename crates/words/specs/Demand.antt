-- Demands 2 and 3 of the owner, as records. `factors` is pinned by demand 2, so demand 3 may speak of it.
-- proofs/Theorems proves that `factors` meets the one and the numbers, groups and starts of `Edit` and `Tables` the other, for every
-- from ≤ to ≤ length s.
use Rattle.std.specs.Prelude.{List, [], ◌∷◌, ◌++◌, ◌⊎◌, ◌↔◌, ◌≡◌, ℕ, suc, ◌+◌, ◌≤◌, ◌<◌, length, take, drop, get_or}
use Rattle.words.specs.Factors.{Factorisation, factors, start_at, Group, groups_from, spelled}
use Rattle.words.specs.Tables.{LyndonAt}
use Rattle.words.specs.Edit.{edited, place, bits}

-- Demand 2: the factors reported have the three qualities, and every split with these qualities is the one reported.
pub record DemandTwo (s : List ℕ) (fs : List (List ℕ)) : Type 0 where
  pub qualities : Factorisation s fs
  pub only : (gs : List (List ℕ)) → Factorisation s gs → gs ≡ fs

abbrev pub Member : ℕ → List ℕ → Type 0
Member x [] = ⊥
Member x (y ∷ ys) = (x ≡ y) ⊎ Member x ys

-- The first c factors of s end at or before `from` and are the first c factors of t.
pub record Kept (s t : List ℕ) (from c : ℕ) : Type 0 where
  pub count : c ≤ length (factors s)
  pub before : start_at (factors s) c ≤ from
  pub first : take c (factors s) ≡ take c (factors t)

-- q is the start of a factor of t.
pub record FactorStart (t : List ℕ) (q : ℕ) : Type 0 where
  pub index : ℕ
  pub within : index < length (factors t)
  pub at : start_at (factors t) index ≡ q

-- p is a resume point: a stored position, at least `to`, that is the end or whose place is the start of a factor.
pub record ResumePoint (s : List ℕ) (from to : ℕ) (b : List ℕ) (p : ℕ) : Type 0 where
  pub after : to ≤ p
  pub stored : p ≤ length s
  pub start : (p ≡ length s) ⊎ FactorStart (edited s from to b) (place from to b p)

-- Demand 3: what holds of the answer to every accepted edit, all together: of the five numbers, the groups and the starts of the longest words.
pub record DemandThree (s : List ℕ) (from to : ℕ) (b : List ℕ) (kept resume group_count size start_count : ℕ) (groups : List Group) (starts : List ℕ) : Type 0 where
  -- fresh groups at most (binary digits of the edit's start) + (block length) + 1
  pub bound : group_count ≤ bits from + length b + 1
  -- kept leading factors, the middle groups, each word as often as its power says, and the factors of the stored ending from the
  -- resume point are in this order exactly the factors of the edited pattern
  pub exactly : take kept (factors s) ++ (spelled (edited s from to b) groups ++ factors (drop resume s)) ≡ factors (edited s from to b)
  -- each group is a longest stretch of equal words among them, and stands where it says
  pub grouped : groups ≡ groups_from (start_at (factors s) kept) (spelled (edited s from to b) groups)
  -- as many as can be kept
  pub keeps : Kept s (edited s from to b) from kept
  pub most : (c : ℕ) → Kept s (edited s from to b) from c → c ≤ kept
  -- the earliest resume point
  pub resumes : ResumePoint s from to b resume
  pub earliest : (p : ℕ) → ResumePoint s from to b p → resume ≤ p
  -- every Lyndon substring is at most as long as the reported length
  pub longest : (l i : ℕ) → LyndonAt (edited s from to b) l i → l ≤ size
  -- a place is listed exactly when a Lyndon substring of that length starts there, once and ascending
  pub listed : (i : ℕ) → Member i starts ↔ LyndonAt (edited s from to b) size i
  pub ascending : (k : ℕ) → suc k < length starts → get_or starts k 0 < get_or starts (suc k) 0
  -- both counts are right
  pub counts_groups : group_count ≡ length groups
  pub counts_starts : start_count ≡ length starts
  -- at least one place unless the edited pattern is empty, where the length is 0
  pub some : 0 < length (edited s from to b) → 0 < start_count
  pub none : edited s from to b ≡ [] → size ≡ 0
