-- Smaller under an order, Lyndon words and factors of bytes under it, are those of the ranks.
use mathlib.Core.List.{List, [], ◌∷◌}
use mathlib.Core.Logic.{inl, inr, ◌↔◌}
use mathlib.Core.Path.{ap}
use Prim.Native.Nat.{ℕ}
use native.Mathlib.Omega.{arith}
use lib.ListN.{drop}
use Rattle.words.specs.Order.{Less, Lyndon}
use Rattle.ranks.specs.Ranks.{Bytes, rank, ranked, LessBy, LyndonBy}
use Rattle.ranks.specs.Inner.{Ranks}
use Rattle.ranks.proofs.Ranked.{length_ranked, ranked_drop, bytes_tail, bytes_head, bytes_drop}

pub by_less : (o a b : List ℕ) → LessBy o a b → Less (ranked o a) (ranked o b)
by_less o [] [] h = h
by_less o [] (y ∷ b) h = tt
by_less o (x ∷ a) [] h = h
by_less o (x ∷ a) (y ∷ b) (inl h) = inl h
by_less o (x ∷ a) (y ∷ b) (inr h) = inr (ap (rank o) h.0, by_less o a b h.1)

pub lyndon_to : (o w : List ℕ) → LyndonBy o w → Lyndon (ranked o w)
lyndon_to o w h =
    record {
      some = omega (arith, length_ranked o w, h.some);
      least = λ k a b. rw (← ranked_drop o k w) (by_less o w (drop k w) (h.least k a (omega (arith, length_ranked o w))));
    }

module _ {o : List ℕ} (v : Ranks o) where
  pub less_by : (a b : List ℕ) → Bytes a → Bytes b → Less (ranked o a) (ranked o b) → LessBy o a b
  less_by [] [] p q h = h
  less_by [] (y ∷ b) p q h = tt
  less_by (x ∷ a) [] p q h = h
  less_by (x ∷ a) (y ∷ b) p q (inl h) = inl h
  less_by (x ∷ a) (y ∷ b) p q (inr h) =
      inr (v.apart x y (bytes_head x a p) (bytes_head y b q) h.0, less_by a b (bytes_tail x a p) (bytes_tail y b q) h.1)

  pub smaller_by : (a b : List ℕ) → Bytes a → Bytes b → LessBy o a b ↔ Less (ranked o a) (ranked o b)
  smaller_by a b p q = (by_less o a b, less_by a b p q)

  pub lyndon_by : (w : List ℕ) → Bytes w → LyndonBy o w ↔ Lyndon (ranked o w)
  lyndon_by w p = (lyndon_to o w, from)
    where
      from : Lyndon (ranked o w) → LyndonBy o w
      from h =
          record {
            some = omega (arith, length_ranked o w, h.some);
            least =
                λ k a b.
                less_by w (drop k w) p (bytes_drop k w p) (rw (ranked_drop o k w) (h.least k a (omega (arith, length_ranked o w))));
          }
