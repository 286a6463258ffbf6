-- What is written for a leaf, and for a node once both its halves are written.
use mathlib.Core.List.{List, [], ◌∷◌}
use mathlib.Core.Path.{◌≡◌, sym, ap, ◌∙◌}
use Prim.Native.Nat.{ℕ, ◌+◌, ◌-◌, ◌*◌, ◌≤◌, ◌<◌}
use native.Mathlib.Omega.{arith}
use lib.ListN.{length, take, drop, get_or, set}
use lib.Seq.{drop-cons}
use Rattle.words.specs.Tables.{LyndonAt}
use Rattle.words.specs.Tree.{tree_nodes, node_numbers}
use Rattle.words.proofs.Tree.{tree_one, tree_count, numbers_count}
use Rattle.rows.specs.Row.{written_at}
use Rattle.rows.proofs.Written.{written_append, written_two}
use Rattle.tree.proofs.Halves.{part_numbers, part_length, Halves}

numbers_length : {word : List ℕ} {n i : ℕ} → LyndonAt word n i → length (part_numbers word i n) + 2 ≡ 4 * n
numbers_length {word} {n} {i} h =
    let w : List ℕ = take n (drop i word) in
    let size = part_length h in
    omega (arith, size, tree_count i w h.word.some, numbers_count (tree_nodes i w))

leaf_numbers : {word : List ℕ} {i : ℕ} → LyndonAt word 1 i → part_numbers word i 1 ≡ i ∷ 1 ∷ []
leaf_numbers {word} {i} h = rw (drop-cons word i 0 (omega (arith, h.fits))) (ap node_numbers (tree_one i (get_or word i 0)))

pub leaf_written : {word : List ℕ} {i n : ℕ} → LyndonAt word n i → n ≡ 1 → (row : List ℕ) (at : ℕ) → at + 1 < length row
    → set (set row at i) (at + 1) n ≡ written_at at (part_numbers word i n) row
leaf_written {word} {i} {n} h e row at l = rw e (written_two row at i 1 l ∙ ap (λ t. written_at at t row) (sym (leaf_numbers (rw e at h))))

pub node_written : {word : List ℕ} {i n r : ℕ} → Halves word i n r → (row : List ℕ) (at next : ℕ) (half whole : List ℕ)
    → at + 4 * n ≤ length row + 2
    → next + 2 ≡ at + 2 + 4 * (n - r)
    → half ≡ written_at (at + 2) (part_numbers word i (n - r)) (set (set row at i) (at + 1) n)
    → whole ≡ written_at next (part_numbers word (i + (n - r)) r) half
    → whole ≡ written_at at (part_numbers word i n) row
node_written {word} {i} {n} {r} h row at next half whole room e p q =
    q ∙ ap (written_at next v) (p ∙ left) ∙ ap (λ k. written_at k v (written_at at front row)) place
    ∙ written_append at front v row (omega (arith, place, count, right)) ∙ ap (λ t. written_at at t row) (sym h.numbers)
  where
    u : List ℕ
    u = part_numbers word i (n - r)

    v : List ℕ
    v = part_numbers word (i + (n - r)) r

    front : List ℕ
    front = i ∷ n ∷ u

    count : length u + 2 ≡ 4 * (n - r)
    count = numbers_length h.left

    right : length v + 2 ≡ 4 * r
    right = numbers_length h.right

    place : next ≡ at + length front
    place = omega (arith, count)

    left : written_at (at + 2) u (set (set row at i) (at + 1) n) ≡ written_at at front row
    left =
        ap (written_at (at + 2) u) (written_two row at i n (omega (arith, h.some, h.fewer)))
        ∙ written_append at (i ∷ n ∷ []) u row (omega (arith, h.some, h.fewer))
