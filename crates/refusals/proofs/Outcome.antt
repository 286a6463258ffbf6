-- The outcome of a call by the first of its refusals that holds: refused, with the row as before, or accepted, with the result written.
use mathlib.Core.Bool.{false}
use mathlib.Core.List.{List, ◌∷◌}
use mathlib.Core.Path.{◌≡◌, sym, ap, ◌∙◌}
use Prim.Native.Nat.{ℕ, suc}
use Rattle.ranks.specs.Inner.{Handed}
use Rattle.ranks.specs.Ranks.{is_order}
use Rattle.refusals.proofs.First.{First, first_is, not_order_lem, first_order}
use Rattle.refusals.specs.Refusals.{Refusal, not_order, unless_refused, row_after}
use Rattle.rows.specs.Row.{written}
use Rattle.refusals.specs.Filled.{Filled, Fills}

module _ {rs : List Refusal} {out row : List ℕ} {things : ℕ} where
  pub fills_refused : {k : ℕ} → First rs (suc k) → Fills rs out things row row (record { refusal = suc k; count = 0 })
  fills_refused f =
      let e = sym (first_is f) in
      record { refusal = e; count = ap (λ n. unless_refused n things 0) e; leaves = ap (λ n. row_after n out row) e }

  pub fills_accepted : {row' : List ℕ} {n : ℕ} → First rs 0 → n ≡ things → row' ≡ written out row
      → Fills rs out things row row' (record { refusal = 0; count = n })
  fills_accepted f q w =
      let e = sym (first_is f) in
      record {
        refusal = e;
        count = q ∙ ap (λ n. unless_refused n things 0) e;
        leaves = w ∙ ap (λ n. row_after n out row) e;
      }

-- 13 stands before the other refusals of a call: refused by it, or as by the others alone
module _ (order : List ℕ) {rs : List Refusal} {out row : List ℕ} {things : ℕ} where
  pub fills_not_order : is_order order ≡ false → Fills (not_order order ∷ rs) out things row row (record { refusal = 13; count = 0 })
  fills_not_order e = fills_refused (not_order_lem order e)

module _ {order ranks : List ℕ} (t : Handed order ranks) {rs : List Refusal} {out row : List ℕ} {things : ℕ} where
  pub fills_order : {row' : List ℕ} {r : Filled} → Fills rs out things row row' r
      → Fills (not_order order ∷ rs) out things row row' r
  fills_order f =
      let q = sym (first_order t rs) in
      record {
        refusal = f.refusal ∙ q;
        count = f.count ∙ ap (λ n. unless_refused n things 0) q;
        leaves = f.leaves ∙ ap (λ n. row_after n out row) q;
      }
