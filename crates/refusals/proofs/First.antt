-- Which refusal is the first that holds, shown test by test in the order of the list.
use mathlib.Core.Bool.{Bool, true, false}
use mathlib.Core.List.{List, [], ◌∷◌, ◌++◌}
use mathlib.Core.Path.{◌≡◌, refl, sym, ◌∙◌}
use Prim.Native.Nat.{ℕ, zero, suc, ◌≤◌, ◌<◌}
use native.Mathlib.Omega.{arith}
use lib.ListN.{length, take}
use borrow.Author.Tests.{lt-ltb, le-ltb}
use Rattle.ranks.specs.Inner.{Handed}
use Rattle.ranks.specs.Ranks.{is_order}
use Rattle.refusals.specs.Refusals.{Refusal, first_of, max_pattern, max_wanted, not_order, pattern_too_long, past_end, not_table, too_short, wanted_too_long}
use Rattle.words.specs.Order.{same}

pub data First : List Refusal → ℕ → Type 0 where
  none : First [] 0
  holds : {r : Refusal} {rs : List Refusal} → r.holds ≡ true → First (r ∷ rs) r.number
  passes : {r : Refusal} {rs : List Refusal} {k : ℕ} → r.holds ≡ false → First rs k → First (r ∷ rs) k

pub first_is : {rs : List Refusal} {k : ℕ} → First rs k → first_of rs ≡ k
first_is none = refl
first_is (holds e) = rw e
first_is (passes e f) = rw e (first_is f)

pub first_holds : (r : Refusal) (rs : List Refusal) → r.holds ≡ true → first_of (r ∷ rs) ≡ r.number
first_holds r rs e = rw e

pub first_passes : (r : Refusal) (rs : List Refusal) → r.holds ≡ false → first_of (r ∷ rs) ≡ first_of rs
first_passes r rs e = rw e

-- the tests as facts about numbers
pub too_long : (s : List ℕ) {rs : List Refusal} → max_pattern < length s → First (pattern_too_long s ∷ rs) 1
too_long s h = holds (lt-ltb max_pattern (length s) h)

pub not_long : (s : List ℕ) {rs : List Refusal} {k : ℕ} → length s ≤ max_pattern → First rs k → First (pattern_too_long s ∷ rs) k
not_long s h f = passes (le-ltb max_pattern (length s) h) f

pub past_end_lem : (s : List ℕ) (q : ℕ) {rs : List Refusal} → length s < q → First (past_end s q ∷ rs) 2
past_end_lem s q h = holds (lt-ltb (length s) q h)

pub not_past : (s : List ℕ) (q : ℕ) {rs : List Refusal} {k : ℕ} → q ≤ length s → First rs k → First (past_end s q ∷ rs) k
not_past s q h f = passes (le-ltb (length s) q h) f

pub too_short_lem : (needs room : ℕ) {rs : List Refusal} → room < needs → First (too_short needs room ∷ rs) 8
too_short_lem needs room h = holds (lt-ltb room needs h)

pub not_short : (needs room : ℕ) {rs : List Refusal} {k : ℕ} → needs ≤ room → First rs k → First (too_short needs room ∷ rs) k
not_short needs room h f = passes (le-ltb room needs h) f

pub wanted_long : (t : List ℕ) {rs : List Refusal} → max_wanted < length t → First (wanted_too_long t ∷ rs) 11
wanted_long t h = holds (lt-ltb max_wanted (length t) h)

pub not_wanted_long : (t : List ℕ) {rs : List Refusal} {k : ℕ} → length t ≤ max_wanted → First rs k → First (wanted_too_long t ∷ rs) k
not_wanted_long t h f = passes (le-ltb max_wanted (length t) h) f

-- refusal 13, by what the test of an order tells
pub not_order_lem : (order : List ℕ) {rs : List Refusal} → is_order order ≡ false → First (not_order order ∷ rs) 13
not_order_lem order e = holds {r = not_order order} (rw e)

module _ {order ranks : List ℕ} (t : Handed order ranks) where
  pub an_order : {rs : List Refusal} {k : ℕ} → First rs k → First (not_order order ∷ rs) k
  an_order f = passes {r = not_order order} (rw t.is) f

  pub first_order : (rs : List Refusal) → first_of (not_order order ∷ rs) ≡ first_of rs
  first_order rs = first_passes (not_order order) rs (rw t.is)

-- refusal 5, of a table with n entries
module _ (table row : List ℕ) (n : ℕ) (size : length table ≡ n) where
  pub table_short : {rs : List Refusal} → length row < n → First (not_table table row ∷ rs) 5
  table_short h = holds {r = not_table table row} (rw (lt-ltb (length row) (length table) (omega (arith, size))))

  pub table_wrong : {rs : List Refusal} → n ≤ length row → same (take n row) table ≡ false → First (not_table table row ∷ rs) 5
  table_wrong h e = holds {r = not_table table row} (rw (le-ltb (length row) (length table) (omega (arith, size)), size, e))

  pub table_right : {rs : List Refusal} {k : ℕ} → n ≤ length row → same (take n row) table ≡ true → First rs k → First (not_table table row ∷ rs) k
  table_right h e f = passes {r = not_table table row} (rw (le-ltb (length row) (length table) (omega (arith, size)), size, e)) f

-- lists of refusals, one behind the other
-- the refusals have numbers other than 0
abbrev pub Numbered : List Refusal → Type 0
Numbered [] = Unit {0}
Numbered (r ∷ rs) = (0 < r.number) × Numbered rs

pub first_later : (xs ys : List Refusal) → Numbered xs → first_of xs ≡ 0 → first_of (xs ++ ys) ≡ first_of ys
first_later [] ys n e = refl
first_later (r ∷ xs) ys n e = go r.holds refl (λ h. first_later xs ys n.1 h)
  where
    go : (b : Bool) → r.holds ≡ b → (first_of xs ≡ 0 → first_of (xs ++ ys) ≡ first_of ys) → first_of ((r ∷ xs) ++ ys) ≡ first_of ys
    go true h rest = absurd (omega (arith, first_holds r xs h, e, n.0))
    go false h rest = first_passes r (xs ++ ys) h ∙ rest (sym (first_passes r xs h) ∙ e)

pub first_earlier : (xs ys : List Refusal) {k : ℕ} → first_of xs ≡ suc k → first_of (xs ++ ys) ≡ suc k
first_earlier [] ys e = absurd (omega (arith, e))
first_earlier (r ∷ xs) ys {k} e = go r.holds refl (λ h. first_earlier xs ys h)
  where
    go : (b : Bool) → r.holds ≡ b → (first_of xs ≡ suc k → first_of (xs ++ ys) ≡ suc k) → first_of ((r ∷ xs) ++ ys) ≡ suc k
    go true h rest = first_holds r (xs ++ ys) h ∙ sym (first_holds r xs h) ∙ e
    go false h rest = first_passes r (xs ++ ys) h ∙ rest (sym (first_passes r xs h) ∙ e)

pub first_zero : (xs ys : List Refusal) → first_of (xs ++ ys) ≡ 0 → first_of xs ≡ 0
first_zero xs ys e = go (first_of xs) refl
  where
    go : (n : ℕ) → first_of xs ≡ n → first_of xs ≡ 0
    go zero q = q
    go (suc k) q = absurd (omega (arith, first_earlier xs ys q))
