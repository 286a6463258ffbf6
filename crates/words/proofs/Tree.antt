-- Section 9: the Lyndon tree. A Lyndon word w of two symbols or more is u v with v its longest proper suffix that is a Lyndon word;
-- then u is a Lyndon word too, v is the last factor of w without its first symbol, and the nodes of w are w, those of u and those of v.
use mathlib.Core.Bool.{Bool, true, false, cond}
use mathlib.Core.List.{List, [], ◌∷◌, ◌++◌, append_assoc, append-nil}
use mathlib.Core.Path.{◌≡◌, refl, sym, ap, ◌∙◌}
use Prim.Native.Nat.{ℕ, zero, suc, ◌+◌, ◌-◌, ◌*◌, ◌≤◌, ◌<◌}
use native.Mathlib.Omega.{arith}
use lib.Dec.{leb}
use lib.ListN.{length, take, drop, get_or, length-append, length-drop, take-append-drop, drop_of_length-le}
use lib.Seq.{drop-append_seam, take-append_seam, length-take-le, drop-drop, drop_at, drop-cons}
use borrow.Author.Tests.{leb-false, lt-leb}
use Rattle.words.specs.Order.{Less, Lyndon, lyndon}
use Rattle.words.specs.Factors.{join, factors}
use Rattle.words.specs.Tables.{LyndonAt, last_length}
use Rattle.words.specs.Tree.{Node, split, nodes_to, tree_nodes, node_numbers}
use Rattle.words.proofs.Bounded.{smallest_most, smallest_passes}
use Rattle.words.proofs.Order.{Le, Three, smaller, equal, greater, three, le_trans, le_prefix, less_le, le_refl}
use Rattle.words.proofs.Lyndon.{length_some, lyndon_some, lyndon_less, lyndon_one, lyndon_join, lyndon_true, true_lyndon}
use Rattle.words.proofs.Factors.{all_le_right, Falling, join_append, factors_falling, join_factors, falling_right}
use Rattle.words.proofs.Substrings.{last_parts, last_longest, last_suffix}

-- v is the longest: no smaller place above 0 has a Lyndon suffix
pub split_longest : (w : List ℕ) (k : ℕ) → 0 < k → Lyndon (drop k w) → split w ≤ k
unfolding split
split_longest w zero n h = absurd (omega arith)
split_longest w (suc k) n h =
    omega (arith, smallest_most (λ j. lyndon (drop (suc j) w)) (length w - 1) k (true_lyndon (drop (suc k) w) h))

pub split_some : (w : List ℕ) → 0 < split w
unfolding split
split_some w = omega arith

-- the last symbol is a Lyndon suffix
pub split_below : (w : List ℕ) → 1 < length w → split w < length w
split_below w h =
    let n = length w - 1 in
    let last : drop n w ≡ get_or w n 0 ∷ [] =
    drop-cons w n 0 (omega arith) ∙ ap (λ u. get_or w n 0 ∷ u) (drop_of_length-le w {i = suc n} (omega arith)) in
    omega (arith, split_longest w n (omega arith) (rw last (lyndon_one (get_or w n 0))))

pub split_right : (w : List ℕ) → 1 < length w → Lyndon (drop (split w) w)
unfolding split
split_right w h =
    lyndon_true _ (smallest_passes (λ j. lyndon (drop (suc j) w)) (length w - 1) (let b = split_below w h in omega arith))

pub split_last : (w : List ℕ) → 1 < length w → split w + last_length (factors (drop 1 w)) ≡ length w
split_last w h = omega (arith, short, long)
  where
    t : List ℕ
    t = drop 1 w

    short : split w + last_length (factors t) ≤ length w
    short =
        let (u, v, e, word, size) = last_suffix t (length_some t (omega (arith, length-drop 1 w))) in
        let at : drop (1 + length u) w ≡ v = sym (drop-drop (length u) 1 w) ∙ ap (drop (length u)) e ∙ drop-append_seam u v in
        let m = split_longest w (1 + length u) (omega arith) (rw at word) in
        omega (arith, m, size, length-drop 1 w, ap length e, length-append u v)

    long : length w ≤ split w + last_length (factors t)
    long =
        let k = split w - 1 in
        let m : 1 + k ≡ split w = omega (arith, split_some w) in
        let cut : t ≡ take k t ++ drop (split w) w =
        sym (take-append-drop k t) ∙ ap (λ x. take k t ++ x) (drop-drop k 1 w ∙ ap (λ n. drop n w) m) in
        omega (arith, last_longest t (take k t) (drop (split w) w) cut (split_right w h), length-drop (split w) w)

pub split_left : {w : List ℕ} → Lyndon w → 1 < length w → Lyndon (take (split w) w)
split_left {w} h l = go (factors u) refl
  where
    u : List ℕ
    u = take (split w) w

    v : List ℕ
    v = drop (split w) w

    size : length u ≡ split w
    size = length-take-le (split w) w (omega (arith, split_below w l))

    below : Less w v
    below =
        lyndon_less h u v (length_some u (omega (arith, size, split_some w))) (lyndon_some (split_right w l)) (sym (take-append-drop (split w) w))

    -- more factors than one: k is the last, and either it joins with v or v is not above it
    more : (f : List ℕ) (before : List (List ℕ)) (k : List ℕ) → Falling (f ∷ (before ++ k ∷ [])) → f ++ join (before ++ k ∷ []) ≡ u → ⊥
    more f before k falls e = go (three k v)
      where
        j : List ℕ
        j = join before

        front : f ++ (j ++ k) ≡ u
        front = rw (join_append before (k ∷ []), append-nil k) at e

        whole : w ≡ (f ++ j) ++ (k ++ v)
        whole = sym (take-append-drop (split w) w) ∙ ap (λ x. x ++ v) (sym front) ∙ simp append_assoc refl

        last : Lyndon k
        last = (falling_right before (k ∷ []) falls.2).0

        first : Le f w
        first = rw (whole ∙ append_assoc f j (k ++ v)) (le_prefix f (j ++ (k ++ v)))

        low : Le v k → ⊥
        low q = le_trans v f w (le_trans v k f q (all_le_right f before (k ∷ []) falls.1).0) first below

        go : Three k v → ⊥
        go (smaller q) =
            let at : drop (length (f ++ j)) w ≡ k ++ v = ap (drop (length (f ++ j))) whole ∙ drop-append_seam (f ++ j) (k ++ v) in
            let word : Lyndon (drop (length (f ++ j)) w) = rw at (lyndon_join last (split_right w l) q) in
            let m = split_longest w (length (f ++ j)) (omega (arith, falls.0.some, length-append f j)) word in
            omega (arith, m, size, last.some, ap length front, length-append f (j ++ k), length-append j k, length-append f j)
        go (equal q) = low (rw q (le_refl v))
        go (greater q) = low (less_le v k q)

    go : (fs : List (List ℕ)) → factors u ≡ fs → Lyndon u
    go [] e = absurd (omega (arith, size, split_some w, ap length (rw e at (join_factors u))))
    go (f ∷ []) e = rw (← join_factors u, e, append-nil f) (rw e at (factors_falling u)).0
    go (f ∷ g ∷ gs) e =
        let (before, k, p) = last_parts g gs in
        let q : factors u ≡ f ∷ (before ++ k ∷ []) = e ∙ ap {B = List (List ℕ)} (λ r. f ∷ r) p in
        absurd (more f before k (rw q at (factors_falling u)) (rw q at (join_factors u)))

-- depth enough is enough
pub nodes_depth : (d e i : ℕ) (w : List ℕ) → 0 < length w → length w ≤ d → length w ≤ e → nodes_to d i w ≡ nodes_to e i w
nodes_depth zero e i w n h k = absurd (omega arith)
nodes_depth (suc d) zero i w n h k = absurd (omega arith)
nodes_depth (suc d) (suc e) i w n h k = go (leb (length w) 1) refl (λ j u a b c. nodes_depth d e j u a b c)
  where
    m : ℕ
    m = split w

    go : (b : Bool) → leb (length w) 1 ≡ b
        → ((j : ℕ) (u : List ℕ) → 0 < length u → length u ≤ d → length u ≤ e → nodes_to d j u ≡ nodes_to e j u)
        → record { start = i; size = length w } ∷ cond b [] (nodes_to d i (take m w) ++ nodes_to d (i + m) (drop m w))
        ≡ record { start = i; size = length w } ∷ cond b [] (nodes_to e i (take m w) ++ nodes_to e (i + m) (drop m w))
    go true q ih = refl
    go false q ih =
        let more = leb-false (length w) 1 q in
        let some = split_some w in
        let below = split_below w more in
        let a = length-take-le m w (omega arith) in
        let b = length-drop m w in
        rw (ih i (take m w) (omega arith) (omega arith) (omega arith), ih (i + m) (drop m w) (omega arith) (omega arith) (omega arith)) refl

pub tree_one : (i x : ℕ) → tree_nodes i (x ∷ []) ≡ record { start = i; size = 1 } ∷ []
unfolding tree_nodes
tree_one i x = refl

pub tree_node : (i : ℕ) (w : List ℕ) → 1 < length w
    → tree_nodes i w ≡ record { start = i; size = length w } ∷ (tree_nodes i (take (split w) w) ++ tree_nodes (i + split w) (drop (split w) w))
unfolding tree_nodes
tree_node i w h =
    let n = length w in
    let m = split w in
    let some = split_some w in
    let below = split_below w h in
    let a = length-take-le m w (omega arith) in
    let b = length-drop m w in
    let left = nodes_depth n (length (take m w)) i (take m w) (omega arith) (omega arith) (omega arith) in
    let right = nodes_depth n (length (drop m w)) (i + m) (drop m w) (omega arith) (omega arith) (omega arith) in
    nodes_depth n (suc n) i w (omega arith) (omega arith) (omega arith) ∙ rw (lt-leb n 1 h, left, right) refl

-- what holds of single symbols, and of each word where it holds of its two parts, holds of all words but the empty one
pub tree_induction : (P : List ℕ → Type 0) → ((x : ℕ) → P (x ∷ []))
    → ((w : List ℕ) → 1 < length w → P (take (split w) w) → P (drop (split w) w) → P w) → (w : List ℕ) → 0 < length w → P w
tree_induction P one more w h = go (length w) w h (omega arith)
  where
    go : (n : ℕ) (w : List ℕ) → 0 < length w → length w ≤ n → P w
    go zero w h l = absurd (omega arith)
    go (suc n) [] h l = absurd (omega arith)
    go (suc n) (x ∷ []) h l = one x
    go (suc n) (x ∷ y ∷ r) h l =
        let w = x ∷ y ∷ r in
        let some = split_some w in
        let below = split_below w (omega arith) in
        let a = length-take-le (split w) w (omega arith) in
        let b = length-drop (split w) w in
        more w (omega arith) (go n (take (split w) w) (omega arith) (omega arith)) (go n (drop (split w) w) (omega arith) (omega arith))

pub tree_count : (i : ℕ) (w : List ℕ) → 0 < length w → length (tree_nodes i w) + 1 ≡ 2 * length w
tree_count i₀ w₀ h₀ = tree_induction P (λ x i. rw (tree_one i x) refl) more w₀ h₀ i₀
  where
    P : List ℕ → Type 0
    P w = (i : ℕ) → length (tree_nodes i w) + 1 ≡ 2 * length w

    more : (w : List ℕ) → 1 < length w → P (take (split w) w) → P (drop (split w) w) → P w
    more w l left right i =
        let m = split w in
        let both : length w ≡ length (take m w) + length (drop m w) = sym (ap length (take-append-drop m w)) ∙ length-append (take m w) (drop m w) in
        rw (tree_node i w l, length-append (tree_nodes i (take m w)) (tree_nodes (i + m) (drop m w))) (omega (arith, both, left i, right (i + m)))

pub numbers_count : (ns : List Node) → length (node_numbers ns) ≡ 2 * length ns
numbers_count [] = refl
numbers_count (n ∷ ns) = omega (arith, numbers_count ns)

-- each node is a Lyndon substring of s, in which w stands from place i on
abbrev pub AllAt : List ℕ → List Node → Type 0
AllAt s [] = Unit {0}
AllAt s (n ∷ ns) = LyndonAt s n.size n.start × AllAt s ns

all_at_append : (s : List ℕ) (ms ns : List Node) → AllAt s ms → AllAt s ns → AllAt s (ms ++ ns)
all_at_append s [] ns a b = b
all_at_append s (m ∷ ms) ns a b = (a.0, all_at_append s ms ns a.1 b)

all_at_get : (s : List ℕ) (ns : List Node) → AllAt s ns → (k : ℕ) (d : Node) → k < length ns
    → LyndonAt s (get_or ns k d).size (get_or ns k d).start
all_at_get s [] a k d l = absurd (omega arith)
all_at_get s (n ∷ ns) a zero d l = a.0
all_at_get s (n ∷ ns) a (suc k) d l = all_at_get s ns a.1 k d (omega arith)

pub tree_words_in : (s w : List ℕ) → Lyndon w → (a c : List ℕ) → s ≡ a ++ (w ++ c) → (i : ℕ) → length a ≡ i → AllAt s (tree_nodes i w)
tree_words_in s w₀ h₀ = tree_induction P one more w₀ h₀.some h₀
  where
    P : List ℕ → Type 0
    P w = Lyndon w → (a c : List ℕ) → s ≡ a ++ (w ++ c) → (i : ℕ) → length a ≡ i → AllAt s (tree_nodes i w)

    own : (w : List ℕ) → Lyndon w → (a c : List ℕ) → s ≡ a ++ (w ++ c) → (i : ℕ) → length a ≡ i → LyndonAt s (length w) i
    own w h a c e i q =
        let word : take (length w) (drop i s) ≡ w =
        ap (λ x. take (length w) (drop i x)) e ∙ ap (take (length w)) (drop_at a (w ++ c) i q) ∙ take-append_seam w c in
        record { fits = omega (arith, q, ap length e, length-append a (w ++ c), length-append w c); word = rw word h }

    one : (x : ℕ) → P (x ∷ [])
    one x h a c e i q = rw (tree_one i x) (own (x ∷ []) h a c e i q, tt)

    more : (w : List ℕ) → 1 < length w → P (take (split w) w) → P (drop (split w) w) → P w
    more w l left right h a c e i q =
        let m = split w in
        let u = take m w in
        let v = drop m w in
        let parts : s ≡ a ++ (u ++ (v ++ c)) =
        e ∙ ap (λ x. a ++ (x ++ c)) (sym (take-append-drop m w)) ∙ ap (λ x. a ++ x) (append_assoc u v c) in
        let size : length (a ++ u) ≡ i + m = omega (arith, q, length-append a u, length-take-le m w (omega (arith, split_below w l))) in
        let moved : s ≡ (a ++ u) ++ (v ++ c) = parts ∙ sym (append_assoc a u (v ++ c)) in
        rw (tree_node i w l) (
          own w h a c e i q,
          all_at_append s (tree_nodes i u) (tree_nodes (i + m) v) (left (split_left h l) a (v ++ c) parts i q)
              (right (split_right w l) (a ++ u) c moved (i + m) size),
        )

pub tree_words : (w : List ℕ) → Lyndon w → (k : ℕ) (d : Node) → k < length (tree_nodes 0 w)
    → LyndonAt w (get_or (tree_nodes 0 w) k d).size (get_or (tree_nodes 0 w) k d).start
tree_words w h k d l = all_at_get w (tree_nodes 0 w) (tree_words_in w w h [] [] (sym (append-nil w)) 0 refl) k d l
