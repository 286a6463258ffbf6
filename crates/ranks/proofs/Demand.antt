-- Demands 2 and 3 under an order: the one pins `factors_by`; the other follows from that of the ranks, and so pins the answer.
use mathlib.Core.List.{List, ◌++◌, map, map-append}
use mathlib.Core.Logic.{◌↔◌}
use mathlib.Core.Path.{◌≡◌, refl, sym, ap, ap₂, ◌∙◌}
use Prim.Native.Nat.{ℕ, ◌≤◌}
use native.Mathlib.Omega.{arith}
use lib.ListN.{length, take, drop}
use Rattle.words.specs.Demand.{DemandThree}
use Rattle.words.specs.Edit.{edited}
use Rattle.words.specs.Factors.{factors, Group, spelled}
use Rattle.words.specs.Tables.{groups}
use Rattle.words.proofs.Answer.{Answer, answer}
use Rattle.words.proofs.Demand.{demand_three_lem}
use Rattle.words.proofs.Only.{demand_three_only}
use Rattle.ranks.specs.Ranks.{Bytes, ranked, factors_by}
use Rattle.ranks.specs.Demand.{DemandTwoBy, DemandThreeBy}
use Rattle.ranks.specs.Inner.{Ranks}
use Rattle.ranks.proofs.Factors.{ranked_factors, bytes_factors, factors_by_lem}
use Rattle.ranks.proofs.Ranked.{length_ranked, ranked_drop, ranked_edited, bytes_drop}
use Rattle.ranks.proofs.Words.{bytes_edited, all_append, all_take, all_spelled, ranked_first, ranked_spelled, ranked_all_only}

-- demand 3 of an answer
abbrev pub MeetsThreeBy : List ℕ → List ℕ → ℕ → ℕ → List ℕ → Answer → Type 0
MeetsThreeBy o s from to b a =
    DemandThreeBy o s from to b a.kept a.resume a.group_count a.longest a.start_count a.groups a.starts

module _ {o : List ℕ} (v : Ranks o) where
  pub demand_two_by : (s : List ℕ) → Bytes s → DemandTwoBy o s (factors_by o s)
  demand_two_by s h = record { qualities = (factors_by_lem v s (factors_by o s) h).1 refl; only = λ gs d. (factors_by_lem v s gs h).0 d }

  -- of the groups reported, spelled out
  pub demand_two_groups : (s : List ℕ) (gs : List Group) → Bytes s → gs ≡ groups (ranked o s) → DemandTwoBy o s (spelled s gs)
  unfolding factors_by
  demand_two_groups s gs h e = rw e (demand_two_by s h)

  module _ (s : List ℕ) (from to : ℕ) (b : List ℕ) (p : Bytes s) (q : Bytes b) where
    -- the factors of the edited ranks are the ranks of the edited pattern's factors
    edited_factors : map (ranked o) (factors_by o (edited s from to b)) ≡ factors (edited (ranked o s) from to (ranked o b))
    edited_factors = ranked_factors o (edited s from to b) ∙ ap factors (ranked_edited o s from to b)

    parts : (kept resume : ℕ) (gs : List Group)
        → map (ranked o) (take kept (factors_by o s) ++ (spelled (edited s from to b) gs ++ factors_by o (drop resume s)))
        ≡ take kept (factors (ranked o s)) ++ (spelled (edited (ranked o s) from to (ranked o b)) gs ++ factors (drop resume (ranked o s)))
    parts kept resume gs =
        let t = edited s from to b in
        let first : map (ranked o) (take kept (factors_by o s)) ≡ take kept (factors (ranked o s)) =
        ranked_first o kept (factors_by o s) ∙ ap (take kept) (ranked_factors o s) in
        let middle : map (ranked o) (spelled t gs) ≡ spelled (edited (ranked o s) from to (ranked o b)) gs =
        ranked_spelled o t gs ∙ ap (λ u. spelled u gs) (ranked_edited o s from to b) in
        let ending : map (ranked o) (factors_by o (drop resume s)) ≡ factors (drop resume (ranked o s)) =
        ranked_factors o (drop resume s) ∙ ap factors (ranked_drop o resume s) in
        map-append (ranked o) (take kept (factors_by o s)) (spelled t gs ++ factors_by o (drop resume s))
        ∙ ap₂ (λ x y. x ++ y) first (map-append (ranked o) (spelled t gs) (factors_by o (drop resume s)) ∙ ap₂ (λ x y. x ++ y) middle ending)

    pub demand_three_by : {kept resume group_count size start_count : ℕ} {gs : List Group} {starts : List ℕ}
        → DemandThree (ranked o s) from to (ranked o b) kept resume group_count size start_count gs starts
        → DemandThreeBy o s from to b kept resume group_count size start_count gs starts
    demand_three_by {kept} {resume} {gs = gs} d =
        record {
          exactly =
              ranked_all_only v _ (factors_by o (edited s from to b))
              (all_append (take kept (factors_by o s)) _ (all_take kept (factors_by o s) (bytes_factors o s p))
              (all_append (spelled (edited s from to b) gs) _ (all_spelled (edited s from to b) (bytes_edited s from to b p q) gs)
              (bytes_factors o (drop resume s) (bytes_drop resume s p))))
              (bytes_factors o (edited s from to b) (bytes_edited s from to b p q))
              (parts kept resume gs ∙ d.exactly ∙ sym edited_factors);
          of_ranks = d;
        }

    pub answer_by : from ≤ to → to ≤ length s → (a : Answer) → MeetsThreeBy o s from to b a ↔ (a ≡ answer (ranked o s) from to (ranked o b))
    answer_by h k a =
        let l : to ≤ length (ranked o s) = omega (arith, length_ranked o s) in (
          λ d. demand_three_only (ranked o s) from to (ranked o b) h l a d.of_ranks,
          λ e. rw e (demand_three_by (demand_three_lem (ranked o s) from to (ranked o b) h l)),
        )
