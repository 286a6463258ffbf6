-- Sixteen entries of a row, one by one: one more is tested.
use mathlib.Core.Bool.{Bool, true, ◌&&◌}
use mathlib.Core.List.{List}
use mathlib.Core.Path.{◌≡◌, ◌∙◌}
use Prim.Native.Nat.{ℕ, ◌+◌}
use native.Mathlib.Omega.{arith}
use lib.Dec.{eqb}
use lib.ListN.{get_or}
use borrow.Author.Tests.{eqb-true}
use Rattle.words.proofs.Bounded.{and_true}
use Rattle.rows.proofs.Fill.{Right, right_one, right_join}

-- they are tested; `all` says whether all before are right
pub block_test : {f : ℕ → ℕ} (row : List ℕ) (at k y : ℕ) (all : Bool) → (all ≡ true → Right f row at (at + k)) → y ≡ f (at + k)
    → (all && eqb (get_or row (at + k) 0) y) ≡ true → Right f row at (at + (k + 1))
block_test {f} row at k y all g e t =
    let (p, q) = and_true all (eqb (get_or row (at + k) 0) y) t in
    right_join f row at (at + k) (at + (k + 1)) (g p)
    (right_one f row (at + k) (at + (k + 1)) (omega arith) (eqb-true (get_or row (at + k) 0) y q ∙ e))
