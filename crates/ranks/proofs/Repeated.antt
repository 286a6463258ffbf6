-- Whether a pattern is a shorter word repeated does not depend on the order of its symbols.
use mathlib.Core.Bool.{Bool}
use mathlib.Core.List.{List}
use mathlib.Core.Logic.{◌↔◌}
use mathlib.Core.Path.{◌≡◌, sym, ap, ap₂, ◌∙◌, fun_ext}
use Prim.Native.Nat.{ℕ, ◌/◌}
use lib.Dec.{ltb}
use lib.ListN.{length, take, replicate}
use Rattle.words.specs.Bounded.{smallest}
use Rattle.words.specs.Factors.{join}
use Rattle.words.specs.Order.{same}
use Rattle.words.specs.Rotation.{Repeated, repeated}
use Rattle.words.proofs.Repeated.{repeated_true, true_repeated}
use Rattle.ranks.specs.Ranks.{Bytes, ranked}
use Rattle.ranks.specs.Inner.{Ranks}
use Rattle.ranks.proofs.Ranked.{length_ranked, ranked_take, bytes_take}
use Rattle.ranks.proofs.Shared.{same_ranked}
use Rattle.ranks.proofs.Words.{bytes_join, all_replicate, ranked_join, ranked_replicate}

-- the pattern is its first d symbols repeated
abbrev test : List ℕ → ℕ → Bool
test s d = same s (join (replicate (length s / d) (take d s)))

module _ {o : List ℕ} (v : Ranks o) (s : List ℕ) (h : Bytes s) where
  test_ranked : (d : ℕ) → test (ranked o s) d ≡ test s d
  test_ranked d =
      let n = length s / d in
      let e : join (replicate (length (ranked o s) / d) (take d (ranked o s))) ≡ ranked o (join (replicate n (take d s))) =
      rw (length_ranked o s, ← ranked_take o d s, ← ranked_replicate o n (take d s)) (sym (ranked_join o (replicate n (take d s)))) in
      ap (same (ranked o s)) e
      ∙ same_ranked v s (join (replicate n (take d s))) h (bytes_join (replicate n (take d s)) (all_replicate n (take d s) (bytes_take d s h)))

  pub repeated_ranked : repeated (ranked o s) ≡ repeated s
  unfolding repeated
  repeated_ranked = ap₂ (λ t n. ltb (smallest t n) n) (fun_ext test_ranked) (length_ranked o s)

  pub repeated_by : Repeated (ranked o s) ↔ Repeated s
  repeated_by =
      (λ d. repeated_true s (sym repeated_ranked ∙ true_repeated (ranked o s) d), λ d. repeated_true (ranked o s) (repeated_ranked ∙ true_repeated s d))
