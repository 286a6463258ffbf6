-- What the call for the longest words makes of the facts that its ways out show. What was found under the ranks handed down holds under the
-- order, which ranks every pattern as they do.
use mathlib.Core.Bool.{false}
use mathlib.Core.List.{List}
use mathlib.Core.Path.{◌≡◌, sym, ap, ◌∙◌}
use Prim.Native.Nat.{ℕ, suc, ◌≤◌, ◌<◌}
use native.Mathlib.Omega.{arith}
use lib.ListN.{length}
use Rattle.longest.specs.Best.{Measures, longest_of}
use Rattle.longest.specs.declared.Longest.{Longest}
use Rattle.ranks.specs.Inner.{Handed}
use Rattle.ranks.specs.Ranks.{Bytes, is_order, ranked}
use Rattle.refusals.proofs.First.{First, none, first_is, not_order_lem, an_order, not_long, too_short_lem, not_short}
use Rattle.refusals.specs.Refusals.{unless_refused, row_after, max_pattern}
use Rattle.rows.specs.Row.{written}
use Rattle.words.specs.Tables.{longest, longest_starts}
use Rattle.lyndon_words.specs.Calls.{starts_refusals, StartsListed}

module _ (s order row : List ℕ) where
  starts_refused : {k : ℕ} → First (starts_refusals s order row) (suc k) → StartsListed s order row row (record { refusal = suc k; length = 0; count = 0 })
  starts_refused f =
      let e = sym (first_is f) in
      record {
        refusal = e;
        size = ap (λ n. unless_refused n (longest (ranked order s)) 0) e;
        count = ap (λ n. unless_refused n (length (longest_starts (ranked order s))) 0) e;
        leaves = ap (λ n. row_after n (longest_starts (ranked order s)) row) e;
      }

  -- 13 is tested before all else, whatever the pattern and the row are; the check finds this at the way out
  pub starts_not_order : is_order order ≡ false → StartsListed s order row row (record { refusal = 13; length = 0; count = 0 })
  starts_not_order e = starts_refused (not_order_lem order e)

module _ {order ranks : List ℕ} (t : Handed order ranks) (s row : List ℕ) where
  module _ (b : Bytes s) (h : length s ≤ max_pattern) (found : Longest) (run : ℕ) (m : Measures (ranked ranks s) found run) where
    size : found.length ≡ longest (ranked order s)
    unfolding longest_of
    size = ap (λ r. r.length) m.best ∙ ap longest (t.same s b)

    count : found.count ≡ length (longest_starts (ranked order s))
    unfolding longest_of
    count = ap (λ r. r.count) m.best ∙ ap (λ u. length (longest_starts u)) (t.same s b)

    pub starts_short : length row < found.count → StartsListed s order row row (record { refusal = 8; length = 0; count = 0 })
    starts_short l =
        starts_refused s order row (an_order t (not_long s h (too_short_lem (length (longest_starts (ranked order s))) (length row) (omega (arith, count)))))

    pub starts_done : {row' : List ℕ} → found.count ≤ length row → row' ≡ written (longest_starts (ranked ranks s)) row
        → StartsListed s order row row' (record { refusal = 0; length = found.length; count = found.count })
    starts_done l w =
        let f : First (starts_refusals s order row) 0 =
        an_order t (not_long s h (not_short (length (longest_starts (ranked order s))) (length row) (omega (arith, count)) none)) in
        let q = sym (first_is f) in
        record {
          refusal = q;
          size = size ∙ ap (λ n. unless_refused n (longest (ranked order s)) 0) q;
          count = count ∙ ap (λ n. unless_refused n (length (longest_starts (ranked order s))) 0) q;
          leaves = w ∙ ap (λ u. written (longest_starts u) row) (t.same s b) ∙ ap (λ n. row_after n (longest_starts (ranked order s)) row) q;
        }
