-- What the calls for the trigger word make of the facts that they find out. What was found under the ranks handed down holds under the
-- order, which ranks every pattern as they do.
use mathlib.Core.List.{List, [], ◌∷◌}
use mathlib.Core.Path.{◌≡◌, sym, ap, ◌∙◌}
use Prim.Native.Nat.{ℕ, zero, suc, ◌+◌, ◌-◌, ◌≤◌}
use native.Mathlib.Omega.{arith}
use lib.ListN.{length, take, drop}
use Rattle.longest.specs.Best.{Measures, longest_of}
use Rattle.longest.specs.declared.Longest.{Longest}
use Rattle.ranks.proofs.Ranked.{length_ranked}
use Rattle.ranks.specs.Inner.{Handed}
use Rattle.ranks.specs.Ranks.{Bytes, ranked}
use Rattle.refusals.proofs.First.{First, none, first_is, an_order, not_long}
use Rattle.refusals.specs.Refusals.{first_of, unless_refused, max_pattern, not_order, pattern_too_long}
use Rattle.words.proofs.Longest.{longest_word_lem}
use Rattle.words.proofs.Substrings.{longest_listed}
use Rattle.words.specs.Tables.{lyndon_starts, longest, longest_starts, longest_word}
use Rattle.lyndon_trigger.specs.Calls.{word_place, WordCut}

module _ {order ranks : List ℕ} (t : Handed order ranks) (s : List ℕ) where
  pub place_found : Bytes s → length s ≤ max_pattern → (found : Longest) (run : ℕ) → Measures (ranked ranks s) found run
      → (found.start, found.length) ≡ word_place s order
  unfolding longest_of longest_word
  place_found b h found run m =
      let f : First (not_order order ∷ pattern_too_long s ∷ []) 0 = an_order t (not_long s h none) in
      ap (λ r. (r.start, r.length)) m.best ∙ ap longest_word (t.same s b) ∙ ap (λ n. unless_refused n (longest_word (ranked order s)) (0, 0)) (sym (first_is f))

-- the word lies within the pattern
word_within : (s : List ℕ) → (longest_word s).0 + (longest_word s).1 ≤ length s
unfolding longest_word longest_starts lyndon_starts longest
word_within [] = omega arith
word_within (x ∷ xs) = ((longest_listed (x ∷ xs) (longest_word (x ∷ xs)).0).0 (longest_word_lem (x ∷ xs) (omega arith)).0).fits

module _ (s order : List ℕ) (start size : ℕ) (is : (start, size) ≡ word_place s order) where
  pub place_within : start + size ≤ length s
  place_within = go (first_of (not_order order ∷ pattern_too_long s ∷ [])) is
    where
      go : (k : ℕ) → (start, size) ≡ unless_refused k (longest_word (ranked order s)) (0, 0) → start + size ≤ length s
      go zero e = omega (arith, word_within (ranked order s), length_ranked order s, ap (λ p. p.0) e, ap (λ p. p.1) e)
      go (suc k) e = omega (arith, ap (λ p. p.0) e, ap (λ p. p.1) e)

  pub word_cut : (at : ℕ × ℕ) → WordCut s order at (take (start + size - start) (drop start s)) (at.0, start + at.1)
  word_cut at =
      let n : start + size - start ≡ size = omega arith in
      record {
        bytes = ap (λ k. take k (drop start s)) n ∙ ap (λ p. take p.1 (drop p.0 s)) is;
        place = ap (λ p. (at.0, p.0 + at.1)) is;
      }
