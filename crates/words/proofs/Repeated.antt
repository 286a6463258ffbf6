-- What a shorter word repeated is, by places: its word's length is a period of it, and a pattern with a period d that divides its length is
-- its first d symbols repeated. So `repeated` tests `Repeated`.
use mathlib.Core.Bool.{Bool, true, false}
use mathlib.Core.List.{List, [], ◌∷◌, ◌++◌, append_assoc, append-nil}
use mathlib.Core.Path.{◌≡◌, refl, sym, ap, ◌∙◌}
use Prim.Native.Nat.{ℕ, zero, suc, ◌+◌, ◌*◌, ◌/◌, ◌≤◌, ◌<◌}
use native.Mathlib.Nat.{mul-div_cancel}
use native.Mathlib.Omega.{arith}
use lib.ListN.{length, take, drop, get_or, replicate, length-append, length-take, length-drop, take-append-drop, get_or-append, replicate-append-replicate}
use lib.Seq.{take_all, take-append_seam, get_or-append-add, get_or-take, get_or-drop, ext_get_or}
use borrow.Author.Tests.{ltb-true, lt-ltb}
use Rattle.words.specs.Bounded.{smallest}
use Rattle.words.specs.Factors.{join}
use Rattle.words.specs.Order.{same}
use Rattle.words.specs.Rotation.{Repeated, repeated}
use Rattle.words.proofs.Bounded.{smallest_passes, smallest_most}
use Rattle.words.proofs.Order.{same_true, true_same}
use Rattle.words.proofs.Factors.{join_append}

-- each symbol comes again after d places
abbrev pub Period : List ℕ → ℕ → Type 0
Period s d = (i : ℕ) → i + d < length s → get_or s (i + d) 0 ≡ get_or s i 0

module _ (y : List ℕ) where
  pub repeat_length : (k : ℕ) → length (join (replicate k y)) ≡ k * length y
  repeat_length zero = omega arith
  repeat_length (suc k) = omega (arith, length-append y (join (replicate k y)), repeat_length k)

  repeat_last : (k : ℕ) → y ++ join (replicate k y) ≡ join (replicate k y) ++ y
  repeat_last zero = append-nil y
  repeat_last (suc k) = ap (λ u. y ++ u) (repeat_last k) ∙ sym (append_assoc y (join (replicate k y)) y)

  repeat_period : (k : ℕ) → Period (join (replicate k y)) (length y)
  repeat_period zero i h = absurd (omega arith)
  repeat_period (suc k) i h =
      let rest : List ℕ = join (replicate k y) in
      let e : i + length y ≡ length y + i = omega arith in
      ap (λ u. get_or (y ++ rest) u 0) e ∙ get_or-append-add y rest i 0
      ∙ sym (get_or-append rest y 0 i (omega (arith, length-append y rest))) ∙ ap (λ u. get_or u i 0) (sym (repeat_last k))

-- a period that divides the length
pub period_repeat : (k p : ℕ) (s : List ℕ) → length s ≡ k * p → Period s p → s ≡ join (replicate k (take p s))
period_repeat zero p [] e h = refl
period_repeat zero p (x ∷ xs) e h = absurd (omega arith)
period_repeat (suc zero) p s e h = sym (append-nil (take p s) ∙ take_all p s (omega arith))
period_repeat (suc (suc k)) p s e h =
    let n = length-drop p s in
    let again : Period (drop p s) p = λ i l.
    let a : p + (i + p) ≡ p + i + p = omega arith in
    get_or-drop p s (i + p) 0 ∙ ap (λ u. get_or s u 0) a ∙ h (p + i) (omega arith) ∙ sym (get_or-drop p s i 0) in
    let same : take p (drop p s) ≡ take p s =
    ext_get_or 0 _ _ (omega (arith, length-take p (drop p s), length-take p s)) (λ i l.
    let b : p + i ≡ i + p = omega arith in
    let m = length-take p (drop p s) in
    get_or-take p (drop p s) i 0 (omega arith) ∙ get_or-drop p s i 0 ∙ ap (λ u. get_or s u 0) b ∙ h i (omega arith) ∙ sym (get_or-take p s i 0 (omega arith))) in
    sym (take-append-drop p s) ∙ ap (λ u. take p s ++ u) (rw same at (period_repeat (suc k) p (drop p s) (omega arith) again))

-- a shorter word fits twice or more
two_or_more : (k : ℕ) {n d : ℕ} → n ≡ k * d → d < n → 2 ≤ k
two_or_more zero e h = absurd (omega arith)
two_or_more (suc zero) e h = absurd (omega arith)
two_or_more (suc (suc k)) e h = omega arith

pub repeated_front : (s : List ℕ) (k d : ℕ) → d < length s → length s ≡ k * d → s ≡ join (replicate k (take d s)) → Repeated s
repeated_front s k d h e q =
    record {
      word = take d s;
      times = k;
      shorter = omega (arith, length-take d s);
      twice = two_or_more k e h;
      whole = q;
    }

-- a repeated word, written once and twice
module _ {s : List ℕ} (h : Repeated s) where
  pub repeated_length : length s ≡ h.times * length h.word
  repeated_length = ap length h.whole ∙ repeat_length h.word h.times

  pub repeated_some : 0 < length h.word
  repeated_some = go (length h.word) refl
    where
      go : (d : ℕ) → length h.word ≡ d → 0 < length h.word
      go zero e = absurd (let q = ap (λ d. h.times * d) e in omega (arith, h.shorter, repeated_length))
      go (suc d) e = omega arith

  pub repeated_period : Period (s ++ s) (length h.word)
  repeated_period =
      let y = h.word in
      let k = h.times in
      let e : s ++ s ≡ join (replicate (k + k) y) =
      ap (λ u. u ++ u) h.whole ∙ sym (join_append (replicate k y) (replicate k y)) ∙ ap join (replicate-append-replicate k k y) in
      rw e (repeat_period y (k + k))

-- the test
abbrev test : List ℕ → ℕ → Bool
test s d = same s (join (replicate (length s / d) (take d s)))

pub repeated_true : (s : List ℕ) → repeated s ≡ true → Repeated s
unfolding repeated
repeated_true s e =
    let d = smallest (test s) (length s) in
    let l = ltb-true d (length s) e in
    let q : s ≡ join (replicate (length s / d) (take d s)) = same_true s _ (smallest_passes (test s) (length s) l) in
    let n = length-take d s in
    let m : length (take d s) ≡ d = omega arith in
    repeated_front s (length s / d) d l (ap length q ∙ repeat_length (take d s) (length s / d) ∙ ap (λ u. length s / d * u) m) q

pub true_repeated : (s : List ℕ) → Repeated s → repeated s ≡ true
unfolding repeated
true_repeated s h =
    lt-ltb (smallest (test s) (length s)) (length s)
    (omega (arith, smallest_most (test s) (length s) (length h.word) (true_same s _ whole), h.shorter))
  where
    front : (k : ℕ) → 2 ≤ k → s ≡ join (replicate k h.word) → take (length h.word) s ≡ h.word
    front zero l q = absurd (omega arith)
    front (suc k) l q = rw q (take-append_seam h.word (join (replicate k h.word)))

    whole : s ≡ join (replicate (length s / length h.word) (take (length h.word) s))
    whole =
        let e : length s / length h.word ≡ h.times = ap (λ n. n / length h.word) (repeated_length h) ∙ mul-div_cancel h.times (repeated_some h) in
        rw (e, front h.times h.twice h.whole) h.whole

pub false_repeated : (s : List ℕ) → (Repeated s → ⊥) → repeated s ≡ false
false_repeated s h = go (repeated s) refl
  where
    go : (b : Bool) → repeated s ≡ b → repeated s ≡ false
    go true e = absurd (h (repeated_true s e))
    go false e = e
