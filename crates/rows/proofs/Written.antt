-- Parts written to a row one behind the other are their joining written at the place of the first.
use mathlib.Core.List.{List, [], ◌∷◌, ◌++◌, append_assoc}
use mathlib.Core.Path.{◌≡◌, sym, ap, ◌∙◌}
use Prim.Native.Nat.{ℕ, ◌+◌, ◌≤◌, ◌<◌}
use native.Mathlib.Omega.{arith}
use lib.ListN.{length, take, drop, set, length-append, length-drop, length-set}
use lib.Seq.{drop-drop, drop_at, take_at, length-take-le}
use Rattle.rows.specs.Row.{written_at}
use Rattle.rows.proofs.Wrote.{set_written}

pub written_append : (at : ℕ) (xs ys row : List ℕ) → at + length xs ≤ length row
    → written_at (at + length xs) ys (written_at at xs row) ≡ written_at at (xs ++ ys) row
written_append at xs ys row h =
    rw (sym (append_assoc front xs back), take_at (front ++ xs) back n size, drop_at (front ++ xs) back n size)
    (append_assoc front xs (ys ++ drop (length ys) back) ∙ ap (λ t. front ++ t) (sym (append_assoc xs ys (drop (length ys) back)) ∙ rest))
  where
    n : ℕ
    n = at + length xs

    front : List ℕ
    front = take at row

    back : List ℕ
    back = drop (length xs) (drop at row)

    size : length (front ++ xs) ≡ n
    size = length-append front xs ∙ ap (λ k. k + length xs) (length-take-le at row (omega arith))

    rest : (xs ++ ys) ++ drop (length ys) back ≡ (xs ++ ys) ++ drop (length (xs ++ ys)) (drop at row)
    rest = rw (drop-drop (length ys) (length xs) (drop at row), length-append xs ys)

pub written_two : (row : List ℕ) (at x y : ℕ) → at + 1 < length row → set (set row at x) (at + 1) y ≡ written_at at (x ∷ y ∷ []) row
written_two row at x y h =
    set_written (set row at x) (at + 1) y (omega (arith, length-set row at x))
    ∙ ap (written_at (at + 1) (y ∷ [])) (set_written row at x (omega arith))
    ∙ written_append at (x ∷ []) (y ∷ []) row (omega arith)

pub length_written_at : (at : ℕ) (out row : List ℕ) → at + length out ≤ length row → length (written_at at out row) ≡ length row
length_written_at at out row h =
    let a = length-append (take at row) (out ++ drop (length out) (drop at row)) in
    let b = length-append out (drop (length out) (drop at row)) in
    omega (arith, a, b, length-take-le at row (omega arith), length-drop (length out) (drop at row), length-drop at row)
