-- What `lyndon_tree` makes of the facts that its ways out show. What was found under the ranks handed down holds under the order, which ranks
-- every word as they do.
use mathlib.Core.Bool.{true, false}
use mathlib.Core.List.{List}
use mathlib.Core.Path.{◌≡◌, sym, ap, ◌∙◌}
use Prim.Native.Nat.{ℕ, ◌+◌, ◌-◌, ◌*◌, ◌≤◌, ◌<◌}
use native.Mathlib.Omega.{arith}
use lib.ListN.{length, take}
use lib.Seq.{take_all}
use borrow.Author.Tests.{lt-ltb, le-ltb}
use Rattle.ranks.proofs.Ranked.{length_ranked}
use Rattle.ranks.specs.Inner.{Handed}
use Rattle.ranks.specs.Ranks.{Bytes, ranked}
use Rattle.refusals.proofs.First.{none, holds, passes, too_short_lem, not_short}
use Rattle.refusals.proofs.Outcome.{fills_refused, fills_accepted, fills_order}
use Rattle.refusals.specs.Refusals.{word_too_long, not_lyndon}
use Rattle.rows.specs.Row.{written_at}
use Rattle.words.proofs.Lyndon.{lyndon_true}
use Rattle.words.proofs.Tree.{tree_count, numbers_count}
use Rattle.words.specs.Order.{lyndon}
use Rattle.words.specs.Tables.{LyndonAt}
use Rattle.words.specs.Tree.{tree_nodes, node_numbers}
use Rattle.lyndon_tree.specs.Calls.{TreeListed}

module _ {order ranks : List ℕ} (t : Handed order ranks) (w row : List ℕ) where
  pub tree_long : 256 < length w → TreeListed w order row row (record { refusal = 6; count = 0 })
  tree_long h = fills_order t (fills_refused (holds {r = word_too_long w} (lt-ltb 256 (length w) h)))

  module _ (b : Bytes w) (h : length w ≤ 256) where
    pub tree_not_lyndon : false ≡ lyndon (ranked ranks w) → TreeListed w order row row (record { refusal = 7; count = 0 })
    tree_not_lyndon l =
        let no = sym (l ∙ ap lyndon (t.same w b)) in
        fills_order t (fills_refused (passes {r = word_too_long w} (le-ltb 256 (length w) h) (holds {r = not_lyndon (ranked order w)} (rw no))))

    module _ (l : true ≡ lyndon (ranked ranks w)) where
      yes : lyndon (ranked order w) ≡ true
      yes = sym (l ∙ ap lyndon (t.same w b))

      nodes : length (tree_nodes 0 (ranked order w)) + 1 ≡ 2 * length w
      nodes = omega (arith, tree_count 0 (ranked order w) (lyndon_true (ranked order w) yes).some, length_ranked order w)

      numbers : length (node_numbers (tree_nodes 0 (ranked order w))) + 2 ≡ 4 * length w
      numbers = omega (arith, numbers_count (tree_nodes 0 (ranked order w)), nodes)

      pub tree_short : length row < 2 * (2 * length w - 1) → TreeListed w order row row (record { refusal = 8; count = 0 })
      tree_short m =
          fills_order t
          (fills_refused
          (passes {r = word_too_long w} (le-ltb 256 (length w) h)
          (passes {r = not_lyndon (ranked order w)} (rw yes)
          (too_short_lem (length (node_numbers (tree_nodes 0 (ranked order w)))) (length row) (omega (arith, numbers))))))

      pub tree_done : {row' : List ℕ} → 2 * (2 * length w - 1) ≤ length row
          → row' ≡ written_at 0 (node_numbers (tree_nodes 0 (take (length w) (ranked ranks w)))) row
          → TreeListed w order row row' (record { refusal = 0; count = 2 * length w - 1 })
      tree_done m n =
          let all : take (length w) (ranked ranks w) ≡ ranked order w =
          take_all (length w) (ranked ranks w) (omega (arith, length_ranked ranks w)) ∙ t.same w b in
          fills_order t
          (fills_accepted
          (passes {r = word_too_long w} (le-ltb 256 (length w) h)
          (passes {r = not_lyndon (ranked order w)} (rw yes)
          (not_short (length (node_numbers (tree_nodes 0 (ranked order w)))) (length row) (omega (arith, numbers)) none)))
          (omega (arith, nodes)) (n ∙ ap (λ u. written_at 0 (node_numbers (tree_nodes 0 u)) row) all))

-- a word that has a tree
pub tree_word : (o w : List ℕ) → true ≡ lyndon (ranked o w) → LyndonAt (ranked o w) (length w) 0
tree_word o w l =
    let e = length_ranked o w in
    record { fits = omega (arith, e); word = rw (take_all (length w) (ranked o w) (omega (arith, e))) (lyndon_true (ranked o w) (sym l)) }
