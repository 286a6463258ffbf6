-- Whether a string is a Lyndon word, by its first group of factors: it is one exactly when the first factor is the whole of it. The tree's call
-- goes by this too.
use mathlib.Core.Bool.{true, false}
use mathlib.Core.List.{List, [], ◌++◌, append-nil}
use mathlib.Core.Logic.{◌⊎◌, inl, inr}
use mathlib.Core.Path.{◌≡◌, sym, ap, ◌∙◌}
use Prim.Native.Nat.{ℕ, zero, suc, ◌+◌, ◌*◌, ◌<◌}
use native.Mathlib.Omega.{arith}
use lib.Dec.{eqb}
use lib.ListN.{length, take, drop, replicate}
use lib.Seq.{take_all, length-take-le}
use borrow.Author.Tests.{eq-eqb, ne_eqb}
use Rattle.ranks.proofs.Ranked.{length_ranked}
use Rattle.ranks.specs.Ranks.{ranked}
use Rattle.scan.proofs.Next.{next_words}
use Rattle.scan.proofs.Pass.{length_fits}
use Rattle.scan.specs.Group.{NextGroup}
use Rattle.words.proofs.Bounded.{le_cases}
use Rattle.words.proofs.Factors.{longest_prefix_le, longest_prefix_max, longest_prefix_lyndon}
use Rattle.words.proofs.Lyndon.{true_lyndon, false_lyndon, length_some}
use Rattle.words.proofs.Substrings.{factors_head}
use Rattle.words.specs.Factors.{factors, longest_prefix}
use Rattle.words.specs.Order.{Lyndon, lyndon}

-- the first factor is the whole word
module _ (w : List ℕ) where
  whole_word : (size power : ℕ) → NextGroup w 0 size power → eqb size (length w) ≡ lyndon w
  whole_word size power g = at (le_cases (omega (arith, first, longest_prefix_le w)))
    where
      go : (e : ℕ) → 0 < e → (fs : List (List ℕ)) → factors w ≡ replicate e (take size w) ++ fs → longest_prefix w ≡ length (take size w)
      go zero n fs q = absurd (omega arith)
      go (suc e) n fs q = (factors_head w (take size w) (replicate e (take size w) ++ fs) q).0

      first : longest_prefix w ≡ size
      first =
          go power g.some (factors (drop (0 + power * size) w)) (next_words g)
          ∙ length-take-le size w (omega (arith, length_fits g, g.fits))

      at : (size ≡ length w) ⊎ (size < length w) → eqb size (length w) ≡ lyndon w
      at (inl e) =
          let h : Lyndon w = rw (first, take_all size w (omega arith)) at (longest_prefix_lyndon w (length_some w (omega (arith, g.factor)))) in
          eq-eqb size (length w) e ∙ sym (true_lyndon w h)
      at (inr l) =
          ne_eqb size (length w) (λ e. omega arith)
          ∙ sym (false_lyndon w (λ h. omega (arith, first, longest_prefix_max w w [] (sym (append-nil w)) h)))

module _ (o w : List ℕ) where
  pub empty_not_lyndon : length w ≡ 0 → false ≡ lyndon (ranked o w)
  empty_not_lyndon e = sym (false_lyndon (ranked o w) (λ h. omega (arith, h.some, length_ranked o w)))

  pub whole_lyndon : (size power : ℕ) → NextGroup (ranked o w) 0 size power → eqb size (length w) ≡ lyndon (ranked o w)
  whole_lyndon size power g = ap (eqb size) (sym (length_ranked o w)) ∙ whole_word (ranked o w) size power g

  pub all_lyndon : (size power : ℕ) → NextGroup (ranked o w) 0 size power → size ≡ length w → true ≡ lyndon (ranked o w)
  all_lyndon size power g e = sym (eq-eqb size (length w) e) ∙ whole_lyndon size power g

  pub part_not_lyndon : (size power : ℕ) → NextGroup (ranked o w) 0 size power → (size ≡ length w → ⊥) → false ≡ lyndon (ranked o w)
  part_not_lyndon size power g e = sym (ne_eqb size (length w) e) ∙ whole_lyndon size power g
