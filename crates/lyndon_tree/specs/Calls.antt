-- What the call for the tree answers and leaves in the lent row, for every input: the refusals in their order, then the nodes.
use Rattle.std.specs.Prelude.{List, [], ◌∷◌, ℕ, length}
use Rattle.ranks.specs.Ranks.{ranked}
use Rattle.words.specs.Tree.{tree_nodes, node_numbers}
use Rattle.refusals.specs.Filled.{Filled, Fills}
use Rattle.refusals.specs.Refusals.{not_order, word_too_long, not_lyndon, too_short}

-- lyndon_tree
abbrev pub TreeListed : List ℕ → List ℕ → List ℕ → List ℕ → Filled → Type 0
TreeListed w order row row' r =
    Fills (not_order order ∷ word_too_long w ∷ not_lyndon (ranked order w) ∷ too_short (length (node_numbers (tree_nodes 0 (ranked order w)))) (length row) ∷ [])
    (node_numbers (tree_nodes 0 (ranked order w))) (length (tree_nodes 0 (ranked order w))) row row' r
