-- The two halves of a node of the Lyndon tree, as parts of the word that the node is a part of.
use mathlib.Core.List.{List, [], ◌∷◌, ◌++◌}
use mathlib.Core.Path.{◌≡◌, refl, sym, ap, ◌∙◌}
use Prim.Native.Nat.{ℕ, ◌+◌, ◌-◌, ◌≤◌, ◌<◌}
use native.Mathlib.Omega.{arith}
use lib.ListN.{length, take, drop, length-drop}
use lib.Seq.{take-take, drop-drop, length-take-le}
use Rattle.words.specs.Factors.{factors}
use Rattle.words.specs.Tables.{LyndonAt, last_length}
use Rattle.words.specs.Tree.{Node, split, tree_nodes, node_numbers}
use Rattle.ranks.specs.Ranks.{ranked}
use Rattle.ranks.proofs.Ranked.{length_ranked, ranked_part}
use Rattle.words.proofs.Below.{drop_take}
use Rattle.words.proofs.Tree.{split_some, split_below, split_last, split_left, split_right, tree_node}

-- the numbers of the nodes of the part of this start and length
abbrev pub part_numbers : List ℕ → ℕ → ℕ → List ℕ
part_numbers word i n = node_numbers (tree_nodes i (take n (drop i word)))

-- the part's last r symbols are its longest proper suffix that is a Lyndon word
pub record Halves (word : List ℕ) (i n r : ℕ) : Type 0 where
  pub some : 0 < r
  pub fewer : r < n
  pub left : LyndonAt word (n - r) i
  pub right : LyndonAt word r (i + (n - r))
  pub numbers : part_numbers word i n ≡ i ∷ n ∷ (part_numbers word i (n - r) ++ part_numbers word (i + (n - r)) r)

pub part_length : {word : List ℕ} {n i : ℕ} → LyndonAt word n i → length (take n (drop i word)) ≡ n
part_length {word} {n} {i} h = length-take-le n (drop i word) (omega (arith, h.fits, length-drop i word))

pub part_inside : (o word : List ℕ) {n i : ℕ} → LyndonAt (ranked o word) n i → i + n ≤ length word
part_inside o word h = omega (arith, h.fits, length_ranked o word)

numbers_append : (ms ns : List Node) → node_numbers (ms ++ ns) ≡ node_numbers ms ++ node_numbers ns
numbers_append [] ns = refl
numbers_append (m ∷ ms) ns = ap {B = List ℕ} (λ t. m.start ∷ m.size ∷ t) (numbers_append ms ns)

-- a suffix of a part is a part
part_suffix : (word : List ℕ) (i n m k : ℕ) → m + k ≡ n → i + n ≤ length word → drop m (take n (drop i word)) ≡ take k (drop (i + m) word)
part_suffix word i n m k e h =
    drop_take (drop i word) m k n e (omega (arith, length-drop i word)) ∙ ap (take k) (drop-drop m i word)

halves : {word : List ℕ} {i n : ℕ} → LyndonAt word n i → 1 < n
    → (r : ℕ) → r ≡ last_length (factors (take (i + n - (i + 1)) (drop (i + 1) word))) → Halves word i n r
halves {word} {i} {n} h l r e =
    record {
      some = omega (arith, last, below, size);
      fewer = omega (arith, last, some, size);
      left = record { fits = omega (arith, h.fits); word = rw m (rw front at (split_left h.word more)) };
      right = record { fits = omega (arith, h.fits, last, size); word = rw m (rw back at (split_right w more)) };
      numbers = ap node_numbers (tree_node i w more) ∙ rw (m, size, numbers_append, front, back) refl;
    }
  where
    w : List ℕ
    w = take n (drop i word)

    size : length w ≡ n
    size = part_length h

    more : 1 < length w
    more = omega (arith, size)

    some : 0 < split w
    some = split_some w

    below : split w < length w
    below = split_below w more

    rest : drop 1 w ≡ take (i + n - (i + 1)) (drop (i + 1) word)
    rest = part_suffix word i n 1 (i + n - (i + 1)) (omega arith) h.fits

    last : split w + r ≡ length w
    last = ap (λ k. split w + k) (e ∙ ap (λ t. last_length (factors t)) (sym rest)) ∙ split_last w more

    m : n - r ≡ split w
    m = omega (arith, last, size)

    front : take (split w) w ≡ take (split w) (drop i word)
    front = take-take (split w) n (drop i word) (omega (arith, below, size))

    back : drop (split w) w ≡ take r (drop (i + split w) word)
    back = part_suffix word i n (split w) r (last ∙ size) h.fits

-- the same, where the last factor is that of the ranks of the part
pub part_halves : (o word : List ℕ) {i n : ℕ} → LyndonAt (ranked o word) n i → 1 < n
    → (r : ℕ) → r ≡ last_length (factors (ranked o (take (i + n - (i + 1)) (drop (i + 1) word)))) → Halves (ranked o word) i n r
part_halves o word {i} {n} h l r e = halves h l r (e ∙ ap (λ t. last_length (factors t)) (ranked_part o (i + n - (i + 1)) (i + 1) word))
