-- The factors of bytes under an order, and those of their ranks, are at the same places: a split of the bytes is a factorisation under the order
-- exactly when its ranks are one of the ranks. So the bytes have exactly one, `factors_by`.
use mathlib.Core.List.{List, [], ◌∷◌, map}
use mathlib.Core.Logic.{◌↔◌}
use mathlib.Core.Path.{◌≡◌, refl, sym, ap, ◌∙◌}
use Prim.Native.Nat.{ℕ, suc, ◌+◌}
use native.Mathlib.Omega.{arith}
use lib.ListN.{length, get_or, length-map, get_or-map}
use Rattle.words.specs.Factors.{Factorisation, factors, join, groups_from, starts_with}
use Rattle.words.specs.Tables.{groups}
use Rattle.words.proofs.Factors.{factorisation, join_factors}
use Rattle.words.proofs.Spelled.{groups_spelled}
use Rattle.ranks.specs.Ranks.{Bytes, ranked, FactorisationBy, factors_by}
use Rattle.ranks.specs.Inner.{Ranks}
use Rattle.ranks.proofs.Ranked.{length_ranked, ranked_only}
use Rattle.ranks.proofs.Shared.{same_ranked}
use Rattle.ranks.proofs.Smaller.{by_less, less_by, lyndon_to, lyndon_by}
use Rattle.ranks.proofs.Words.{AllBytes, all_bytes, bytes_join, bytes_word, all_spelled, ranked_join, ranked_spelled, ranked_all_only}

-- the factors' ranks are the factors of the ranks
pub ranked_factors : (o s : List ℕ) → map (ranked o) (factors_by o s) ≡ factors (ranked o s)
unfolding factors_by
ranked_factors o s = ranked_spelled o s (groups (ranked o s)) ∙ groups_spelled (ranked o s)

pub bytes_factors : (o s : List ℕ) → Bytes s → AllBytes (factors_by o s)
unfolding factors_by
bytes_factors o s h = all_spelled s h (groups (ranked o s))

-- the ranks of the k-th word
at : (o : List ℕ) (fs : List (List ℕ)) (k : ℕ) → get_or (map (ranked o) fs) k [] ≡ ranked o (get_or fs k [])
at o fs k = get_or-map (ranked o) fs k []

module _ {o : List ℕ} (v : Ranks o) where
  qualities : (s : List ℕ) (fs : List (List ℕ)) → Bytes s → FactorisationBy o s fs → Factorisation (ranked o s) (map (ranked o) fs)
  qualities s fs h d =
      let n = length-map fs (ranked o) in
      let all : AllBytes fs = all_bytes fs (rw d.joined h) in
      record {
        words = λ k l. rw (at o fs k) (lyndon_to o (get_or fs k []) (d.words k (omega arith)));
        falling =
            λ k l m.
            d.falling k (omega arith)
            (less_by v (get_or fs k []) (get_or fs (suc k) []) (bytes_word fs all k (omega arith)) (bytes_word fs all (suc k) (omega arith))
            (rw (at o fs k, at o fs (suc k)) at m));
        joined = sym (ranked_join o fs) ∙ ap (ranked o) d.joined;
      }

  qualities_by : (s : List ℕ) (fs : List (List ℕ)) → Bytes s → Factorisation (ranked o s) (map (ranked o) fs) → join fs ≡ s → FactorisationBy o s fs
  qualities_by s fs h d j =
      let n = length-map fs (ranked o) in
      let all : AllBytes fs = all_bytes fs (rw j h) in
      record {
        words = λ k l. (lyndon_by v (get_or fs k []) (bytes_word fs all k l)).1 (rw (at o fs k) at (d.words k (omega arith)));
        falling =
            λ k l m.
            d.falling k (omega arith) (rw (at o fs k, at o fs (suc k)) (by_less o (get_or fs k []) (get_or fs (suc k) []) m));
        joined = j;
      }

  pub factorisation_by : (s : List ℕ) (fs : List (List ℕ)) → Bytes s
      → FactorisationBy o s fs ↔ (Factorisation (ranked o s) (map (ranked o) fs) × (join fs ≡ s))
  factorisation_by s fs h = (λ d. (qualities s fs h d, d.joined), λ d. qualities_by s fs h d.0 d.1)

  pub join_factors_by : (s : List ℕ) → Bytes s → join (factors_by o s) ≡ s
  join_factors_by s h =
      ranked_only v (join (factors_by o s)) s (bytes_join (factors_by o s) (bytes_factors o s h)) h
      (ranked_join o (factors_by o s) ∙ ap join (ranked_factors o s) ∙ join_factors (ranked o s))

  -- exactly one
  pub factors_by_lem : (s : List ℕ) (fs : List (List ℕ)) → Bytes s → FactorisationBy o s fs ↔ (fs ≡ factors_by o s)
  factors_by_lem s fs h = (only, λ e. rw e has)
    where
      has : FactorisationBy o s (factors_by o s)
      has =
          (factorisation_by s (factors_by o s) h).1
          ((factorisation (ranked o s) (map (ranked o) (factors_by o s))).1 (ranked_factors o s), join_factors_by s h)

      only : FactorisationBy o s fs → fs ≡ factors_by o s
      only d =
          ranked_all_only v fs (factors_by o s) (all_bytes fs (rw d.joined h)) (bytes_factors o s h)
          ((factorisation (ranked o s) (map (ranked o) fs)).0 (qualities s fs h d) ∙ sym (ranked_factors o s))

  -- the groups are at the same places
  pub ranked_starts : (f : List ℕ) (fs : List (List ℕ)) → Bytes f → AllBytes fs → starts_with (ranked o f) (map (ranked o) fs) ≡ starts_with f fs
  ranked_starts f [] p q = refl
  ranked_starts f (g ∷ fs) p q = same_ranked v f g p q.0

  pub ranked_groups : (i : ℕ) (fs : List (List ℕ)) → AllBytes fs → groups_from i (map (ranked o) fs) ≡ groups_from i fs
  ranked_groups i [] h = refl
  ranked_groups i (f ∷ fs) h =
      rw (ranked_starts f fs h.0 h.1, length_ranked o f, ranked_groups (i + length f) fs h.1)

  pub groups_by : (s : List ℕ) → Bytes s → groups (ranked o s) ≡ groups_from 0 (factors_by o s)
  unfolding groups
  groups_by s h = ap (groups_from 0) (sym (ranked_factors o s)) ∙ ranked_groups 0 (factors_by o s) (bytes_factors o s h)
