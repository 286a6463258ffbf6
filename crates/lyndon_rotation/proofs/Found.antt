-- What `least_rotation` makes of the facts that its ways out show. What was found under the ranks handed down holds under the order, which ranks
-- every pattern as they do.
use mathlib.Core.Bool.{true, false}
use mathlib.Core.List.{List}
use mathlib.Core.Path.{◌≡◌, sym, ap, ◌∙◌}
use Prim.Native.Nat.{ℕ, suc, ◌≤◌, ◌<◌}
use native.Mathlib.Omega.{arith}
use lib.ListN.{length}
use Rattle.ranks.proofs.Ranked.{length_ranked}
use Rattle.ranks.proofs.Repeated.{repeated_ranked}
use Rattle.ranks.specs.Inner.{Handed}
use Rattle.ranks.specs.Ranks.{Bytes, ranked}
use Rattle.refusals.proofs.First.{First, none, holds, passes, first_is, an_order, too_long, not_long}
use Rattle.refusals.specs.Refusals.{unless_refused, max_pattern, pattern_repeated}
use Rattle.words.proofs.UniqueLeast.{unique_least}
use Rattle.words.specs.Rotation.{least_rotation, repeated}
use Rattle.lyndon_rotation.specs.Calls.{rotation_refusals, RotationFound}

rotation_refused : {order s : List ℕ} {k : ℕ} → First (rotation_refusals s order) (suc k) → RotationFound s order (record { refusal = suc k; start = 0 })
rotation_refused {order} {s} {k} f =
    let e = sym (first_is f) in
    record { refusal = e; start = ap (λ n. unless_refused n (least_rotation (ranked order s)) 0) e; unique = λ z. absurd (omega (arith, z)) }

module _ {order ranks : List ℕ} (t : Handed order ranks) (s : List ℕ) where
  pub rotation_long : max_pattern < length s → RotationFound s order (record { refusal = 1; start = 0 })
  rotation_long h = rotation_refused (an_order t (too_long s h))

  module _ (b : Bytes s) (h : length s ≤ max_pattern) where
    pub rotation_repeated : repeated (ranked ranks s) ≡ true → RotationFound s order (record { refusal = 10; start = 0 })
    rotation_repeated q =
        rotation_refused (an_order t (not_long s h (holds {r = pattern_repeated s} (sym (repeated_ranked t.known s b) ∙ q))))

    pub rotation_found : repeated (ranked ranks s) ≡ false → (k : ℕ) → k ≡ least_rotation (ranked ranks s)
        → RotationFound s order (record { refusal = 0; start = k })
    rotation_found single k q =
        let f : First (rotation_refusals s order) 0 =
        an_order t (not_long s h (passes {r = pattern_repeated s} (sym (repeated_ranked t.known s b) ∙ single) none)) in
        let p = sym (first_is f) in
        let same = t.same s b in
        let least = q ∙ ap least_rotation same in
        record {
          refusal = p;
          start = least ∙ ap (λ n. unless_refused n (least_rotation (ranked order s)) 0) p;
          unique = λ z some. (unique_least (ranked order s) k).1 (omega (arith, length_ranked order s), sym (ap repeated same) ∙ single, least);
        }
