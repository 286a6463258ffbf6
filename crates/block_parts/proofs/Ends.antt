-- The end of a block: what the test says of a place, and that it is none where two bytes or more are left.
use mathlib.Core.Bool.{Bool, true, false, ◌&&◌, ◌||◌}
use mathlib.Core.List.{List, []}
use mathlib.Core.Logic.{◌⊎◌, inl, inr}
use mathlib.Core.Path.{◌≡◌, refl, ap}
use Prim.Native.Nat.{ℕ, ◌-◌, ◌≤◌, ◌<◌}
use native.Mathlib.Omega.{arith}
use borrow.Author.Tests.{leb-true, le-leb}
use lib.Dec.{leb}
use lib.ListN.{length, drop, length-drop}
use Rattle.decimal.specs.Decimal.{codes}
use Rattle.words.specs.Order.{same}
use Rattle.words.proofs.Bounded.{and_true}
use Rattle.words.proofs.Order.{same_true, false_same}
use Rattle.block_parts.specs.Block.{ends_at}

pub true_and : {a b : Bool} → a ≡ true → b ≡ true → (a && b) ≡ true
true_and e f = rw (e, f) refl

pub ends_true : (end : ℕ) (block : List ℕ) → ends_at end block ≡ true → (end ≤ length block) × ((drop end block ≡ []) ⊎ (drop end block ≡ codes "\n"))
ends_true end block e = (leb-true end (length block) p.0, go (same xs []) refl)
  where
    xs : List ℕ
    xs = drop end block

    p : (leb end (length block) ≡ true) × ((same xs [] || same xs (codes "\n")) ≡ true)
    p = and_true (leb end (length block)) (same xs [] || same xs (codes "\n")) e

    go : (b : Bool) → same xs [] ≡ b → (drop end block ≡ []) ⊎ (drop end block ≡ codes "\n")
    go true q = inl (same_true xs [] q)
    go false q = inr (same_true xs (codes "\n") (rw q at p.1))

pub true_ends : (end : ℕ) (block : List ℕ) → end ≤ length block → (drop end block ≡ []) ⊎ (drop end block ≡ codes "\n") → ends_at end block ≡ true
true_ends end block h (inl e) = true_and (le-leb end (length block) h) (rw e refl)
true_ends end block h (inr e) = true_and (le-leb end (length block) h) (rw e refl)

pub ends_later : (end : ℕ) (block : List ℕ) → end ≤ length block → 1 < length block - end → false ≡ ends_at end block
ends_later end block h f =
    let n = length-drop end block in
    let first = false_same (drop end block) [] (λ e. omega (arith, ap length e)) in
    let second = false_same (drop end block) (codes "\n") (λ e. omega (arith, ap length e)) in
    rw (le-leb end (length block) h, first, second) refl
