-- Passes over factors: the first `count` of them end at i. One more factor or some words of one group more, and where the pass stops.
use mathlib.Core.List.{List, ◌++◌}
use mathlib.Core.Logic.{◌⊎◌, inl, inr}
use mathlib.Core.Path.{◌≡◌, refl, sym, ap, ◌∙◌}
use Prim.Native.Nat.{ℕ, zero, suc, ◌+◌, ◌-◌, ◌*◌, ◌/◌, ◌≤◌, ◌<◌}
use native.Mathlib.Nat.{div-mul-le_self, lt-div-mul-add, div-lt_iff_lt-mul, mul-le-mul_right}
use native.Mathlib.Numerals.{add-one}
use native.Mathlib.Omega.{arith}
use lib.ListN.{length, take, drop, get_or, replicate}
use lib.Seq.{drop-drop}
use Rattle.words.specs.Factors.{factors, start_at}
use Rattle.words.specs.Tables.{longest_at, lyndon_array}
use borrow.Author.Tests.{lt-ltb, le-ltb, le-leb, lt-leb}
use Rattle.words.proofs.Bounded.{le_or_lt}
use Rattle.words.proofs.Below.{word_length}
use Rattle.words.proofs.Factors.{factors_falling}
use Rattle.words.proofs.EditParts.{end_apart, end_all, end_next, factors_after}
use Rattle.words.proofs.Stored.{stored_long, stored_entry}
use Rattle.words.proofs.Tables.{chain_suffix, longest_at_some, longest_at_fits, lyndon_array_length}
use Rattle.ranks.specs.Ranks.{ranked}
use Rattle.ranks.proofs.Ranked.{length_ranked}
use Rattle.scan.specs.Group.{NextGroup}
use Rattle.scan.proofs.Next.{next_words}
use Rattle.cuts.specs.declared.Ends.{Ends}
use Rattle.cuts.specs.Bounds.{EndsBy, ends_with}

-- the first `count` factors of t end at i
pub record At (t : List ℕ) (count i : ℕ) : Type 0 where
  pub within : count ≤ length (factors t)
  pub at : start_at (factors t) count ≡ i

pub at_start : (t : List ℕ) → At t 0 0
at_start t = record { within = omega arith; at = refl }

-- k of the words that follow
words_on : (fs : List (List ℕ)) (c k power : ℕ) (w : List ℕ) (rest : List (List ℕ)) → drop c fs ≡ replicate power w ++ rest → k ≤ power
    → c ≤ length fs → (c + k ≤ length fs) × (start_at fs (c + k) ≡ start_at fs c + k * length w)
words_on fs c zero power w rest e h l =
    let z : c + 0 ≡ c = omega arith in
    (omega arith, rw z (omega arith))
words_on fs c (suc k) zero w rest e h l = absurd (omega arith)
words_on fs c (suc k) (suc power) w rest e h l =
    let (m, n) = end_next c fs e in
    let d : drop (suc c) fs ≡ replicate power w ++ rest = ap (λ j. drop j fs) (sym (add-one c)) ∙ sym (drop-drop 1 c fs) ∙ ap (drop 1) e in
    let (u, v) = words_on fs (suc c) k power w rest d (omega arith) m in
    let z : c + suc k ≡ suc c + k = omega arith in
    (omega arith, rw z (omega arith))

-- one word of a group
pub group_first : {t : List ℕ} {i size power : ℕ} → NextGroup t i size power → i + size ≤ length t
group_first {t} {i} {size} {power} g =
    let p : 1 * size ≤ power * size = mul-le-mul_right size g.some in
    omega (arith, g.fits)

module _ {t : List ℕ} {count i : ℕ} (a : At t count i) where
  -- a factor has at least one symbol
  pub at_count : count ≤ i
  at_count = omega (arith, end_apart 0 count (factors t) (factors_falling t) (omega arith) a.within, a.at)

  left : drop count (factors t) ≡ factors (drop i t)
  left = sym (factors_after count t) ∙ ap (λ j. factors (drop j t)) a.at

  pub at_words : {size power : ℕ} → NextGroup t i size power → (k : ℕ) → k ≤ power → At t (count + k) (i + k * size)
  at_words {size} {power} g k h =
      let n : length (take size (drop i t)) ≡ size = word_length t i size (group_first g) in
      let rest = factors (drop (i + power * size) t) in
      let (u, v) = words_on (factors t) count k power (take size (drop i t)) rest (left ∙ next_words g) h a.within in
      record { within = u; at = v ∙ rw (n, a.at) refl }

  at_next : i < length t → At t (count + 1) (i + longest_at t i)
  at_next h =
      let n : length (take (longest_at t i) (drop i t)) ≡ longest_at t i = word_length t i (longest_at t i) (longest_at_fits t i h) in
      let (u, v) = end_next count (factors t) (left ∙ chain_suffix t i h) in
      record { within = omega arith; at = ap (start_at (factors t)) (add-one count) ∙ v ∙ rw (n, a.at) refl }

  -- the last factor has ended
  pub at_end : (q : ℕ) → length t ≤ i → i ≤ q → EndsBy (factors t) q count i
  at_end q h l =
      let n = end_apart count (length (factors t)) (factors t) (factors_falling t) a.within (omega arith) in
      record { within = a.within; at = a.at; before = l; last = λ m. absurd (omega (arith, n, end_all t, a.at)) }

  pub at_last : {next : ℕ} (q : ℕ) → i ≤ q → At t (count + 1) next → q < next → EndsBy (factors t) q count i
  at_last q l b h =
      record { within = a.within; at = a.at; before = l; last = λ m. omega (arith, ap (start_at (factors t)) (add-one count), b.at) }

-- place q lies in a group
module _ {t : List ℕ} {count i size power : ℕ} (a : At t count i) (g : NextGroup t i size power) (q : ℕ) (l : i ≤ q) (h : q < i + power * size) where
  few : (q - i) / size < power
  few = (div-lt_iff_lt-mul g.factor).1 (omega arith)

  pub at_inside : EndsBy (factors t) q (count + (q - i) / size) (i + (q - i) / size * size)
  at_inside =
      let k = (q - i) / size in
      let e : count + k + 1 ≡ count + (k + 1) = omega arith in
      at_last (at_words a g k (omega (arith, few))) q (omega (arith, div-mul-le_self (q - i) size))
      (rw (← e) at (at_words a g (k + 1) (omega (arith, few)))) (omega (arith, lt-div-mul-add {a = q - i} g.factor))

-- what group after group joins to the ends by q
module _ (ends : Ends) (q i l e : ℕ) where
  pub ends_past : q < i → ends_with ends q i l e ≡ ends
  unfolding ends_with
  ends_past h = rw (lt-ltb q i h)

  pub ends_whole : i ≤ q → i + e * l ≤ q → ends_with ends q i l e ≡ record { count = ends.count + e; end = i + e * l }
  unfolding ends_with
  ends_whole h k = rw (le-ltb q i h, le-leb (i + e * l) q k)

  pub ends_inside : i ≤ q → q < i + e * l → ends_with ends q i l e ≡ record { count = ends.count + (q - i) / l; end = i + (q - i) / l * l }
  unfolding ends_with
  ends_inside h k = rw (le-ltb q i h, lt-leb (i + e * l) q k)

-- the factors before place i: all end by q, or those that do are counted
pub record Counted (t : List ℕ) (q i : ℕ) (ends : Ends) : Type 0 where
  pub before : i ≤ q → At t ends.count i × (ends.end ≡ i)
  pub past : q < i → EndsBy (factors t) q ends.count ends.end

pub counted_none : (t : List ℕ) (q : ℕ) → Counted t q 0 (record { count = 0; end = 0 })
counted_none t q = record { before = λ h. (at_start t, refl); past = λ h. absurd (omega arith) }

module _ {t : List ℕ} {q i : ℕ} {ends : Ends} (c : Counted t q i ends) where
  pub counted_few : ends.count ≤ i
  counted_few = go (le_or_lt i q)
    where
      go : (i ≤ q) ⊎ (q < i) → ends.count ≤ i
      go (inl h) = at_count (c.before h).0
      go (inr h) =
          let e = c.past h in
          omega (arith, at_count (record { within = e.within; at = e.at }), e.before)

  pub counted_more : {l e : ℕ} → NextGroup t i l e → Counted t q (i + e * l) (ends_with ends q i l e)
  counted_more {l} {e} g = go (le_or_lt i q) (le_or_lt (i + e * l) q)
    where
      go : (i ≤ q) ⊎ (q < i) → (i + e * l ≤ q) ⊎ (q < i + e * l) → Counted t q (i + e * l) (ends_with ends q i l e)
      go (inr h) k = rw (ends_past ends q i l e h) (record { before = λ m. absurd (omega arith); past = λ m. c.past h })
      go (inl h) (inl k) =
          rw (ends_whole ends q i l e h k)
          (record { before = λ m. (at_words (c.before h).0 g e (omega arith), refl); past = λ m. absurd (omega arith) })
      go (inl h) (inr k) =
          rw (ends_inside ends q i l e h k)
          (record { before = λ m. absurd (omega arith); past = λ m. at_inside (c.before h).0 g q h k })

  pub counted_all : length t ≤ i → EndsBy (factors t) q ends.count ends.end
  counted_all h = go (le_or_lt i q)
    where
      go : (i ≤ q) ⊎ (q < i) → EndsBy (factors t) q ends.count ends.end
      go (inl k) = rw (c.before k).1 (at_end (c.before k).0 q h k)
      go (inr k) = c.past k

-- the entry of a stored Lyndon array
module _ (o s table : List ℕ) (i : ℕ) (e : take (length s) table ≡ lyndon_array (ranked o s)) (h : i < length s) where
  long : length (ranked o s) ≡ length s
  long = length_ranked o s

  inside : i < length (ranked o s)
  inside = rw long h

  pub entry_within : i < length table
  entry_within = omega (arith, stored_long (length s) table (lyndon_array (ranked o s)) (lyndon_array_length (ranked o s) ∙ long) e)

  entry_is : get_or table i 0 ≡ longest_at (ranked o s) i
  entry_is = stored_entry (ranked o s) table (rw long e) i inside

  pub entry_fits : i + get_or table i 0 ≤ length s
  entry_fits = omega (arith, entry_is, longest_at_fits (ranked o s) i inside, long)

  pub entry_some : 0 < get_or table i 0
  entry_some = omega (arith, entry_is, longest_at_some (ranked o s) i inside)

  pub at_entry : {count : ℕ} → At (ranked o s) count i → At (ranked o s) (count + 1) (i + get_or table i 0)
  at_entry a = rw entry_is (at_next a inside)
