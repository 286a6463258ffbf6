-- What `is_lyndon` found of a string that it accepts, under the ranks handed down, holds under the order, which ranks every string as they do.
use mathlib.Core.Bool.{Bool, false}
use mathlib.Core.List.{List}
use mathlib.Core.Path.{◌≡◌, sym, ap, ◌∙◌}
use Prim.Native.Nat.{ℕ, ◌≤◌}
use lib.ListN.{length}
use Rattle.ranks.specs.Inner.{Handed}
use Rattle.ranks.specs.Ranks.{Bytes, ranked}
use Rattle.refusals.proofs.First.{First, none, first_is, an_order, not_long}
use Rattle.refusals.specs.Refusals.{unless_refused, max_pattern}
use Rattle.words.specs.Order.{lyndon}
use Rattle.lyndon_test.specs.Calls.{lyndon_refusals, LyndonTold}

told_first : {order w : List ℕ} {k : ℕ} → First (lyndon_refusals w order) k → (b : Bool) → b ≡ unless_refused k (lyndon (ranked order w)) false
    → LyndonTold w order (record { refusal = k; yes = b })
told_first {order} {w} f b q =
    let e = sym (first_is f) in
    record { refusal = e; yes = q ∙ ap (λ n. unless_refused n (lyndon (ranked order w)) false) e }

module _ {order ranks : List ℕ} (t : Handed order ranks) (w : List ℕ) where
  pub told_yes : Bytes w → length w ≤ max_pattern → (b : Bool) → b ≡ lyndon (ranked ranks w) → LyndonTold w order (record { refusal = 0; yes = b })
  told_yes bytes h b q = told_first (an_order t (not_long w h none)) b (q ∙ ap lyndon (t.same w bytes))
