-- The decimal text of a number: how many digits it has, that it reads back as the number, and that no other text does.
use mathlib.Core.Bool.{Bool}
use mathlib.Core.List.{List, [], ◌∷◌, ◌++◌}
use mathlib.Core.Logic.{◌⊎◌, inl, inr}
use mathlib.Core.Path.{◌≡◌, refl, sym, ap, ◌∙◌}
use Prim.Native.Nat.{ℕ, zero, suc, ◌+◌, ◌-◌, ◌*◌, ◌/◌, ◌%◌, ◌^◌, ◌≤◌, ◌<◌}
use native.Mathlib.Nat.{pow-le-pow_right, pow-succ', mul-le-mul_right}
use native.Mathlib.Omega.{arith}
use borrow.Author.Tests.{lt-ltb, ltb-true}
use lib.Dec.{ltb}
use lib.ListN.{length, take, get_or, length-append, get_or-append}
use lib.Seq.{take-suc, take_all, length-take-le, get_or-take, get_or_at}
use Rattle.words.specs.Bounded.{smallest}
use Rattle.words.proofs.Bounded.{le_or_lt, le_cases, smallest_le, smallest_passes, smallest_most}
use Rattle.decimal.specs.Decimal.{last_digits, digit_count, decimal, read_behind, read, Digit, Digits}

-- the number of digits
power_above : (n : ℕ) → n < 10 ^ suc n
power_above zero = omega arith
power_above (suc n) = omega (arith, power_above n)

abbrev holds : ℕ → ℕ → Bool
holds n k = ltb n (10 ^ suc k)

pub count_holds : (n : ℕ) → n < 10 ^ digit_count n
unfolding digit_count
count_holds n = go (le_cases (smallest_le (holds n) n))
  where
    go : (smallest (holds n) n ≡ n) ⊎ (smallest (holds n) n < n) → n < 10 ^ suc (smallest (holds n) n)
    go (inl e) = rw e (power_above n)
    go (inr h) = ltb-true n (10 ^ suc (smallest (holds n) n)) (smallest_passes (holds n) n h)

pub count_least : (n k : ℕ) → n < 10 ^ suc k → digit_count n ≤ suc k
unfolding digit_count
count_least n k h = omega (arith, smallest_most (holds n) n k (lt-ltb n (10 ^ suc k) h))

pub count_some : (n : ℕ) → 0 < digit_count n
unfolding digit_count
count_some n = omega arith

pub count_one : (n : ℕ) → n < 10 → digit_count n ≡ 1
count_one n h = omega (arith, count_some n, count_least n 0 (omega arith))

pub count_more : (n : ℕ) → 10 ≤ n → digit_count n ≡ suc (digit_count (n / 10))
count_more n h = omega (arith, count_least n (digit_count (n / 10)) (omega (arith, count_holds (n / 10))), go (digit_count n) (count_holds n))
  where
    go : (d : ℕ) → n < 10 ^ d → suc (digit_count (n / 10)) ≤ d
    go zero l = absurd (omega arith)
    go (suc zero) l = absurd (omega arith)
    go (suc (suc d)) l = omega (arith, count_least (n / 10) d (omega arith))

count_above : (n k : ℕ) → 0 < n → digit_count n ≡ suc k → 10 ^ k ≤ n
count_above n k h e = go k e (le_or_lt (10 ^ k) n)
  where
    go : (k : ℕ) → digit_count n ≡ suc k → (10 ^ k ≤ n) ⊎ (n < 10 ^ k) → 10 ^ k ≤ n
    go k e (inl l) = l
    go zero e (inr l) = absurd (omega arith)
    go (suc k) e (inr l) = absurd (omega (arith, count_least n k l))

-- the digits
pub length_last : (k n : ℕ) → length (last_digits k n) ≡ k
length_last zero n = refl
length_last (suc k) n = length-append (last_digits k (n / 10)) ((48 + n % 10) ∷ []) ∙ omega (arith, length_last k (n / 10))

pub length_decimal : (n : ℕ) → length (decimal n) ≡ digit_count n
unfolding decimal
length_decimal n = length_last (digit_count n) n

last_digits_lem : (k n i : ℕ) → i < k → Digit (get_or (last_digits k n) i 0)
last_digits_lem zero n i h = absurd (omega arith)
last_digits_lem (suc k) n i h = go (le_or_lt k i) (last_digits_lem k (n / 10) i)
  where
    front : List ℕ
    front = last_digits k (n / 10)

    go : (k ≤ i) ⊎ (i < k) → (i < k → Digit (get_or front i 0)) → Digit (get_or (last_digits (suc k) n) i 0)
    go (inl l) ih = rw (get_or_at front (48 + n % 10) [] 0 i (omega (arith, length_last k (n / 10)))) (omega arith)
    go (inr l) ih = rw (get_or-append front ((48 + n % 10) ∷ []) 0 i (omega (arith, length_last k (n / 10)))) (ih l)

first_digit : (k n : ℕ) → 10 ^ k ≤ n → n < 10 ^ suc k → 48 < get_or (last_digits (suc k) n) 0 0
first_digit zero n h l = omega arith
first_digit (suc k) n h l =
    rw (get_or-append (last_digits (suc k) (n / 10)) ((48 + n % 10) ∷ []) 0 0 (omega (arith, length_last (suc k) (n / 10))))
    (first_digit k (n / 10) (omega arith) (omega arith))

-- reading
read_snoc : (m : ℕ) (cs : List ℕ) (c : ℕ) → read_behind m (cs ++ (c ∷ [])) ≡ 10 * read_behind m cs + (c - 48)
read_snoc m [] c = refl
read_snoc m (x ∷ cs) c = read_snoc (10 * m + (x - 48)) cs c

read_last : (k n : ℕ) → n < 10 ^ k → read (last_digits k n) ≡ n
read_last zero n h = omega arith
read_last (suc k) n h = read_snoc 0 (last_digits k (n / 10)) (48 + n % 10) ∙ omega (arith, read_last k (n / 10) (omega arith))

read_above : (m : ℕ) (cs : List ℕ) → m * 10 ^ length cs ≤ read_behind m cs
read_above m [] = omega arith
read_above m (c ∷ cs) = rw (pow-succ' 10 (length cs)) (omega (arith, read_above (10 * m + (c - 48)) cs))

read_below : (m : ℕ) (cs : List ℕ) → Digits cs → read_behind m cs < suc m * 10 ^ length cs
read_below m [] d = omega arith
read_below m (c ∷ cs) d =
    let e : suc (10 * m + (c - 48)) ≤ 10 * suc m = omega (arith, d 0 (omega arith)) in
    rw (pow-succ' 10 (length cs))
    (omega (arith, read_below (10 * m + (c - 48)) cs (λ k h. d (suc k) (omega arith)), mul-le-mul_right (10 ^ length cs) e))

pub read_nine : (cs : List ℕ) → length cs ≤ 9 → Digits cs → read cs < 1000000000
read_nine cs h d = omega (arith, read_below 0 cs d, pow-le-pow_right {n = 10} (omega arith) h)

-- digits are those of the number that they are read as
last_only : (k : ℕ) (cs : List ℕ) → length cs ≡ k → Digits cs → cs ≡ last_digits k (read cs)
last_only zero [] e d = refl
last_only zero (c ∷ cs) e d = absurd (omega arith)
last_only (suc k) cs e d =
    let c = get_or cs k 0 in
    let w = take k cs in
    let n : length w ≡ k = length-take-le k cs (omega arith) in
    let p : cs ≡ w ++ (c ∷ []) = sym (take_all (suc k) cs (omega arith)) ∙ take-suc cs k 0 (omega arith) in
    let r : read cs ≡ 10 * read w + (c - 48) = ap read p ∙ read_snoc 0 w c in
    let dc = d k (omega arith) in
    let ih = last_only k w n (λ i h. rw (get_or-take k cs i 0 (omega arith)) (d i (omega arith))) in
    let q : read cs / 10 ≡ read w = omega arith in
    let x : 48 + read cs % 10 ≡ c = omega arith in
    p ∙ rw (q, x) (ap (λ u. u ++ (c ∷ [])) ih)

-- the theorem: `decimal n` is a text of n, and the only one
decimal_zero : decimal 0 ≡ 48 ∷ []
unfolding decimal digit_count
decimal_zero = refl

no_leading_zero : (n : ℕ) → get_or (decimal n) 0 0 ≡ 48 → decimal n ≡ 48 ∷ []
unfolding decimal
no_leading_zero zero e = decimal_zero
no_leading_zero (suc n) e = absurd (go (digit_count (suc n)) refl)
  where
    go : (d : ℕ) → digit_count (suc n) ≡ d → ⊥
    go zero q = omega (arith, count_some (suc n))
    go (suc k) q =
        let h = count_holds (suc n) in
        omega (arith, first_digit k (suc n) (count_above (suc n) k (omega arith) q) (rw q at h), rw q at e)

-- The text of a number: digits that read back as it, with no leading zero but in `0` itself.
pub record DecimalText (n : ℕ) (cs : List ℕ) : Type 0 where
  pub some : 0 < length cs
  pub digits : Digits cs
  pub reads : read cs ≡ n
  pub leading : get_or cs 0 0 ≡ 48 → cs ≡ 48 ∷ []

pub decimal_text : (n : ℕ) → DecimalText n (decimal n)
unfolding decimal
decimal_text n =
    record {
      some = omega (arith, count_some n, length_decimal n);
      digits = λ k h. last_digits_lem (digit_count n) n k (omega (arith, length_decimal n));
      reads = read_last (digit_count n) n (count_holds n);
      leading = no_leading_zero n;
    }

pub decimal_only : (n : ℕ) (cs : List ℕ) → DecimalText n cs → cs ≡ decimal n
unfolding decimal
decimal_only n [] t = absurd (omega (arith, t.some))
decimal_only n (c ∷ cs) t = go (le_or_lt c 48)
  where
    d : Digit c
    d = t.digits 0 (omega arith)

    go : (c ≤ 48) ⊎ (48 < c) → c ∷ cs ≡ decimal n
    go (inl h) =
        let e : c ∷ cs ≡ 48 ∷ [] = t.leading (omega (arith, d)) in
        let z : 0 ≡ n = sym (ap read e) ∙ t.reads in
        e ∙ sym decimal_zero ∙ ap decimal z
    go (inr h) =
        last_only (suc (length cs)) (c ∷ cs) refl t.digits
        ∙ ap (λ m. last_digits (suc (length cs)) m) t.reads ∙ ap (λ k. last_digits k n) (sym (size (le_or_lt (digit_count n) (length cs))))
      where
        m : ℕ
        m = 10 * 0 + (c - 48)

        above : 10 ^ length cs ≤ n
        above =
            let one : 1 ≤ m = omega arith in
            omega (arith, read_above m cs, mul-le-mul_right (10 ^ length cs) one, t.reads)

        below : n < 10 ^ suc (length cs)
        below =
            let ten : suc m ≤ 10 = omega (arith, d) in
            omega (arith, read_below m cs (λ k l. t.digits (suc k) (omega arith)), mul-le-mul_right (10 ^ length cs) ten, t.reads)

        size : (digit_count n ≤ length cs) ⊎ (length cs < digit_count n) → digit_count n ≡ suc (length cs)
        size (inl l) = absurd (omega (arith, count_holds n, pow-le-pow_right {n = 10} (omega arith) l, above))
        size (inr l) = omega (arith, count_least n (length cs) below)
