-- Two strings share as many leading bytes as their ranks do, and are the same where their ranks are.
use mathlib.Core.Bool.{Bool, true, false}
use mathlib.Core.List.{List}
use mathlib.Core.Path.{◌≡◌, refl, sym, ap, ◌∙◌}
use Prim.Native.Nat.{ℕ, ◌≤◌}
use native.Mathlib.Omega.{arith}
use lib.ListN.{take}
use Rattle.words.specs.Order.{same, shared}
use Rattle.words.proofs.Order.{same_true, true_same, false_same, same_false}
use Rattle.words.proofs.Shared.{shared_longest}
use Rattle.ranks.specs.Ranks.{Bytes, ranked}
use Rattle.ranks.specs.Inner.{Ranks}
use Rattle.ranks.proofs.Ranked.{length_ranked, ranked_take, ranked_only, bytes_take}

-- equal bytes have equal ranks, in any list
pub shared_least : (o a b : List ℕ) → shared a b ≤ shared (ranked o a) (ranked o b)
shared_least o a b =
    let k = shared a b in
    let (x, y, e) = (shared_longest a b k).1 (omega arith) in
    (shared_longest (ranked o a) (ranked o b) k).0
    (omega (arith, length_ranked o a), omega (arith, length_ranked o b), sym (ranked_take o k a) ∙ ap (ranked o) e ∙ ranked_take o k b)

module _ {o : List ℕ} (v : Ranks o) (a b : List ℕ) (p : Bytes a) (q : Bytes b) where
  from : (k : ℕ) → k ≤ shared (ranked o a) (ranked o b) → k ≤ shared a b
  from k h =
      let (x, y, e) = (shared_longest (ranked o a) (ranked o b) k).1 h in
      (shared_longest a b k).0 (
        omega (arith, length_ranked o a),
        omega (arith, length_ranked o b),
        ranked_only v (take k a) (take k b) (bytes_take k a p) (bytes_take k b q) (ranked_take o k a ∙ e ∙ sym (ranked_take o k b)),
      )

  pub shared_ranked : shared (ranked o a) (ranked o b) ≡ shared a b
  shared_ranked = omega (arith, shared_least o a b, from (shared (ranked o a) (ranked o b)) (omega arith))

  pub same_ranked : same (ranked o a) (ranked o b) ≡ same a b
  same_ranked = go (same a b) refl
    where
      go : (r : Bool) → same a b ≡ r → same (ranked o a) (ranked o b) ≡ r
      go true e = true_same (ranked o a) (ranked o b) (ap (ranked o) (same_true a b e))
      go false e = false_same (ranked o a) (ranked o b) (λ r. same_false a b e (ranked_only v a b p q r))
