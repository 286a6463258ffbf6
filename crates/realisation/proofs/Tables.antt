-- The stretches of every reach table nest: a Lyndon substring that starts inside a factor ends inside it.
use mathlib.Core.List.{List, [], ◌∷◌, ◌++◌}
use mathlib.Core.Path.{◌≡◌, sym, ap, ◌∙◌}
use Prim.Native.Nat.{ℕ, ◌+◌, ◌-◌, ◌≤◌, ◌<◌}
use native.Mathlib.Omega.{arith}
use lib.ListN.{length, take, drop, length-append, take-append-drop}
use lib.Seq.{drop-drop}
use Rattle.words.proofs.Below.{word_length}
use Rattle.words.proofs.Factors.{Within, within, factors_falling, join_factors}
use Rattle.words.proofs.Tables.{longest_at_some, longest_at_fits, longest_at_word, chain_suffix, lyndon_array_entry, lyndon_array_length}
use Rattle.words.specs.Factors.{join, factors}
use Rattle.words.specs.Tables.{longest_at, lyndon_array}
use Rattle.realisation.specs.Nested.{Nests, end_of}

module _ (s : List ℕ) (i j : ℕ) (h : i < length s) (l : i < j) (r : j < i + longest_at s i) where
  abbrev first : List ℕ
  first = take (longest_at s i) (drop i s)

  abbrev before : List ℕ
  before = take (j - i) (drop i s)

  abbrev word : List ℕ
  word = take (longest_at s j) (drop j s)

  placed : j < length s
  placed = omega (arith, longest_at_fits s i h)

  found : Within (factors (drop i s)) before word (drop (longest_at s j) (drop j s))
  found =
      let e : i + (j - i) ≡ j = omega arith in
      let d : drop (j - i) (drop i s) ≡ drop j s = drop-drop (j - i) i s ∙ ap (λ k. drop k s) e in
      within (factors (drop i s)) (factors_falling (drop i s)) before word (drop (longest_at s j) (drop j s)) (longest_at_word s j placed)
      (join_factors (drop i s) ∙ sym (take-append-drop (j - i) (drop i s)) ∙ ap (λ u. before ++ u) (d ∙ sym (take-append-drop (longest_at s j) (drop j s))))

  ends_inside : j + longest_at s j ≤ i + longest_at s i
  ends_inside = go found.before (sym (chain_suffix s i h) ∙ found.parts) found.front
    where
      size : length first ≡ longest_at s i
      size = word_length s i (longest_at s i) (longest_at_fits s i h)

      ahead : length before ≡ j - i
      ahead = word_length s i (j - i) (omega (arith, longest_at_fits s i h))

      go : (fs : List (List ℕ)) → first ∷ factors (drop (i + longest_at s i) s) ≡ fs ++ found.factor ∷ found.after → before ≡ join fs ++ found.left
          → j + longest_at s j ≤ i + longest_at s i
      go [] e q =
          let f : first ≡ found.factor = cc in
          let m = ap length (f ∙ found.inside) in
          let l = word_length s j (longest_at s j) (longest_at_fits s j placed) in
          omega (arith, m, size, ahead, ap length q, l, length-append found.left (word ++ found.right), length-append word found.right)
      go (g ∷ fs) e q =
          let f : first ≡ g = cc in
          absurd (omega (arith, ap length f, size, ahead, ap length q, length-append (g ++ join fs) found.left, length-append g (join fs)))

pub array_nests : (s : List ℕ) → Nests (lyndon_array s)
array_nests s =
    record {
      some = λ i h. omega (arith, lyndon_array_entry s i (within_s i h), longest_at_some s i (within_s i h));
      within = λ i h. omega (arith, lyndon_array_length s, lyndon_array_entry s i (within_s i h), longest_at_fits s i (within_s i h));
      inside = nested;
    }
  where
    within_s : (i : ℕ) → i < length (lyndon_array s) → i < length s
    within_s i h = omega (arith, lyndon_array_length s)

    nested : (i j : ℕ) → i < length (lyndon_array s) → i < j → j < end_of (lyndon_array s) i → end_of (lyndon_array s) j ≤ end_of (lyndon_array s) i
    nested i j h l r =
        let k = within_s i h in
        let e = lyndon_array_entry s i k in
        let q : j < i + longest_at s i = omega arith in
        let d : j < length s = omega (arith, longest_at_fits s i k) in
        omega (arith, e, lyndon_array_entry s j d, ends_inside s i j k l q)
