-- The Lyndon tree of a Lyndon word, as the list of its nodes: parent, all of u, all of v.
-- It is meant for Lyndon words. proofs/Theorems proves the rule w = u v without the bound on the depth that the recursion carries.
use Rattle.std.specs.Prelude.{cond, List, [], ◌∷◌, ◌++◌, ℕ, zero, suc, ◌+◌, ◌-◌, leb, length, take, drop}
use Rattle.words.specs.Bounded.{smallest}
use Rattle.words.specs.Order.{lyndon}

-- Node: a part of the word.
pub record Node : Type 0 where
  pub start : ℕ
  pub size : ℕ

-- Where v starts, the longest proper suffix that is a Lyndon word: the smallest place above 0 whose suffix is one.
unfoldable pub split : List ℕ → ℕ
split w = suc (smallest (λ k. lyndon (drop (suc k) w)) (length w - 1))

-- The nodes of a word that stands from place i on, down to the given depth.
abbrev pub nodes_to : ℕ → ℕ → List ℕ → List Node
nodes_to zero i w = []
nodes_to (suc depth) i w =
    let m = split w in
    let below = nodes_to depth i (take m w) ++ nodes_to depth (i + m) (drop m w) in
    record { start = i; size = length w } ∷ cond (leb (length w) 1) [] below

-- A tree is no deeper than its word is long.
unfoldable pub tree_nodes : ℕ → List ℕ → List Node
tree_nodes i w = nodes_to (length w) i w

-- Nodes in a row of numbers, two each.
abbrev pub node_numbers : List Node → List ℕ
node_numbers [] = []
node_numbers (n ∷ ns) = n.start ∷ n.size ∷ node_numbers ns
