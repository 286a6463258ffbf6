-- What the two calls by tables make of the facts that their ways out show.
use mathlib.Core.Bool.{true, false}
use mathlib.Core.List.{List, [], ◌∷◌}
use mathlib.Core.Path.{◌≡◌, sym, ap, ◌∙◌}
use Prim.Native.Nat.{ℕ, ◌*◌, ◌/◌, ◌≤◌, ◌<◌}
use native.Mathlib.Omega.{arith}
use lib.ListN.{length, take}
use Rattle.ranks.proofs.Ranked.{length_ranked}
use Rattle.ranks.specs.Inner.{Handed}
use Rattle.ranks.specs.Ranks.{Bytes, ranked}
use Rattle.refusals.proofs.First.{none, not_long, past_end_lem, not_past, too_short_lem, not_short, table_short, table_wrong, table_right}
use Rattle.refusals.proofs.Outcome.{fills_refused, fills_accepted, fills_order}
use Rattle.refusals.specs.Filled.{Filled, Fills}
use Rattle.refusals.specs.Refusals.{max_pattern, not_order, pattern_too_long, past_end, not_table, too_short}
use Rattle.rows.specs.Row.{written}
use Rattle.scan.proofs.Pass.{length_numbers}
use Rattle.words.specs.Factors.{Group, group_numbers}
use Rattle.words.specs.Order.{same}

-- a call by a table of the ranks, which answers the groups of a part of them that ends or starts at q
module _ (order : List ℕ) (table_of : List ℕ → List ℕ)
    (long : (s : List ℕ) → length (table_of s) ≡ length s) (part_of : List ℕ → List Group) (s table row : List ℕ) (q : ℕ) where
  abbrev Called : List ℕ → Filled → Type 0
  Called row' r =
      let u = ranked order s in
      Fills (not_order order ∷ pattern_too_long s ∷ past_end s q ∷ not_table (table_of u) table ∷ too_short (length (group_numbers (part_of u))) (length row) ∷ [])
      (group_numbers (part_of u)) (length (part_of u)) row row' r

  size : length (table_of (ranked order s)) ≡ length s
  size = long (ranked order s) ∙ length_ranked order s

  module _ {ranks : List ℕ} (t : Handed order ranks) (h : length s ≤ max_pattern) where
    pub part_past : length s < q → Called row (record { refusal = 2; count = 0 })
    part_past l = fills_order t (fills_refused (not_long s h (past_end_lem s q l)))

    module _ (l : q ≤ length s) where
      pub part_table_short : length table < length s → Called row (record { refusal = 5; count = 0 })
      part_table_short m =
          fills_order t (fills_refused (not_long s h (not_past s q l (table_short (table_of (ranked order s)) table (length s) size m))))

      module _ (m : length s ≤ length table) (b : Bytes s) where
        pub part_table_wrong : same (take (length s) table) (table_of (ranked ranks s)) ≡ false → Called row (record { refusal = 5; count = 0 })
        part_table_wrong k =
            let d = ap (λ u. same (take (length s) table) (table_of u)) (sym (t.same s b)) ∙ k in
            fills_order t (fills_refused (not_long s h (not_past s q l (table_wrong (table_of (ranked order s)) table (length s) size m d))))

        module _ (k : same (take (length s) table) (table_of (ranked ranks s)) ≡ true) where
          right : same (take (length s) table) (table_of (ranked order s)) ≡ true
          right = ap (λ u. same (take (length s) table) (table_of u)) (sym (t.same s b)) ∙ k

          found : part_of (ranked ranks s) ≡ part_of (ranked order s)
          found = ap part_of (t.same s b)

          numbers : length (group_numbers (part_of (ranked order s))) ≡ 3 * length (part_of (ranked ranks s))
          numbers = length_numbers (part_of (ranked order s)) ∙ ap (λ g. 3 * length g) (sym found)

          pub part_short : length row / 3 < length (part_of (ranked ranks s)) → Called row (record { refusal = 8; count = 0 })
          part_short n =
              fills_order t
              (fills_refused
              (not_long s h (not_past s q l (table_right (table_of (ranked order s)) table (length s) size m right
              (too_short_lem (length (group_numbers (part_of (ranked order s)))) (length row) (omega (arith, numbers)))))))

          pub part_done : {row' : List ℕ} {things : ℕ} → 3 * length (part_of (ranked ranks s)) ≤ length row
              → things ≡ length (part_of (ranked ranks s)) → row' ≡ written (group_numbers (part_of (ranked ranks s))) row
              → Called row' (record { refusal = 0; count = things })
          part_done n z w =
              fills_order t
              (fills_accepted
              (not_long s h (not_past s q l (table_right (table_of (ranked order s)) table (length s) size m right
              (not_short (length (group_numbers (part_of (ranked order s)))) (length row) (omega (arith, numbers)) none))))
              (z ∙ ap length found) (w ∙ ap (λ g. written (group_numbers g) row) found))
