-- The laws by which a loop fills a row with groups.
use mathlib.Core.Path.{◌≡◌, refl, ap, ◌∙◌}
use mathlib.Core.List.{List, [], ◌∷◌, ◌++◌}
use Prim.Native.Nat.{ℕ, zero, suc, ◌+◌, ◌*◌, ◌<◌}
use native.Mathlib.Nat.{le_of_suc-le-suc, not-suc-le-zero}
use native.Mathlib.Omega.{arith}
use lib.ListN.{length, get_or, drop, set}
use Rattle.records.specs.declared.Group.{Group}
use Rattle.records.specs.Groups.{group_at, groups_of, filled}

pub none_filled : (ns : List ℕ) (row : List Group) → filled 0 ns row ≡ row
unfolding filled
none_filled ns row = refl

shift : (a b c i : ℕ) (ns : List ℕ) → group_at (suc i) (a ∷ b ∷ c ∷ ns) ≡ group_at i ns
shift a b c i ns =
    let e : 3 * suc i ≡ suc (suc (suc (3 * i))) = omega arith in
    let f : 3 * suc i + 1 ≡ suc (suc (suc (3 * i + 1))) = omega arith in
    let g : 3 * suc i + 2 ≡ suc (suc (suc (3 * i + 2))) = omega arith in
    λ j. record { start = get_or (a ∷ b ∷ c ∷ ns) (e j) 0; length = get_or (a ∷ b ∷ c ∷ ns) (f j) 0; power = get_or (a ∷ b ∷ c ∷ ns) (g j) 0 }

store : (i : ℕ) (ns : List ℕ) (row : List Group) → 3 * i + 2 < length ns → i < length row → set (groups_of i ns ++ drop i row) i (group_at i ns) ≡ groups_of (suc i) ns ++ drop (suc i) row
store i ns [] n h = absurd (not-suc-le-zero h)
store i [] (y ∷ ys) n h = absurd (omega arith)
store i (a ∷ []) (y ∷ ys) n h = absurd (omega arith)
store i (a ∷ b ∷ []) (y ∷ ys) n h = absurd (omega arith)
store zero (a ∷ b ∷ c ∷ ns) (y ∷ ys) n h = refl
store (suc i) (a ∷ b ∷ c ∷ ns) (y ∷ ys) n h =
    ap (λ (g : Group). (record { start = a; length = b; power = c }) ∷ set (groups_of i ns ++ drop i ys) i g) (shift a b c i ns) ∙ ap (λ (l : List Group). (record { start = a; length = b; power = c }) ∷ l) (store i ns ys (omega arith) (le_of_suc-le-suc h))

-- one more group is stored
pub one_filled : (i : ℕ) (ns : List ℕ) (row : List Group) → 3 * i + 2 < length ns → i < length row → set (filled i ns row) i (group_at i ns) ≡ filled (i + 1) ns row
unfolding filled
one_filled i ns row n h = let e : suc i ≡ i + 1 = omega arith in store i ns row n h ∙ ap (λ (k : ℕ). groups_of k ns ++ drop k row) e
