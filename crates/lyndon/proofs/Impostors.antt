-- Impostors of `factor`, by demand 2 alone: the record `DemandTwoBy` of what the row spells out is not met; `contract_two` takes it off the contract.
-- Their names say what they do. The pattern is ba, with the two factors b and a in byte order and one in the reverse; a letter stands for its ASCII code.
use mathlib.Core.List.{List, [], ◌∷◌}
use mathlib.Core.Logic.{inl, inr}
use mathlib.Core.Path.{◌≡◌, ap}
use Prim.Native.Nat.{ℕ}
use native.Mathlib.Omega.{arith}
use lib.ListN.{length, get_or}
use Rattle.ranks.proofs.Examples.{reverse}
use Rattle.ranks.specs.Demand.{DemandTwoBy}
use Rattle.ranks.specs.Ranks.{byte_order, LessBy}
use Rattle.refusals.specs.Filled.{Filled}
use Rattle.words.specs.Factors.{spelled, number_groups}
use Rattle.lyndon.specs.Calls.{Factored}

abbrev pattern : List ℕ
pattern = 98 ∷ 97 ∷ []

abbrev Spells : List ℕ → ℕ → List ℕ → Type 0
Spells order count row = DemandTwoBy order pattern (spelled pattern (number_groups count row))

pub contract_two : {order row row' : List ℕ} {r : Filled} → Factored pattern order row row' r → r.refusal ≡ 0 → Spells order r.count row'
contract_two h = h.demand_two

-- of every order
module _ (order : List ℕ) where
  -- the row holds the zeros that it held before
  pub leaves_the_row : Spells order 2 (0 ∷ 0 ∷ 0 ∷ 0 ∷ 0 ∷ 0 ∷ []) → ⊥
  leaves_the_row d = omega (arith, ap length d.qualities.joined)

  -- one group of two is told, or three
  pub invents_groups : (Spells order 1 (0 ∷ 1 ∷ 1 ∷ 1 ∷ 1 ∷ 1 ∷ []) → ⊥) × (Spells order 3 (0 ∷ 1 ∷ 1 ∷ 1 ∷ 1 ∷ 1 ∷ 0 ∷ 1 ∷ 1 ∷ []) → ⊥)
  invents_groups = (λ d. omega (arith, ap length d.qualities.joined), λ d. omega (arith, ap length d.qualities.joined))

  -- the group of aa, as if it were the pattern
  pub repeats_other_factors : Spells order 1 (0 ∷ 1 ∷ 2 ∷ []) → ⊥
  repeats_other_factors d = omega (arith, ap (λ s. get_or s 1 0) d.qualities.joined)

-- the factors of byte order in the reverse, and the other way round
pub keeps_to_byte_order : Spells reverse 2 (0 ∷ 1 ∷ 1 ∷ 1 ∷ 1 ∷ 1 ∷ []) → ⊥
keeps_to_byte_order d = d.qualities.falling 0 (omega arith) (inl (omega arith))

pub takes_the_reverse : Spells byte_order 1 (0 ∷ 2 ∷ 1 ∷ []) → ⊥
unfolding byte_order
takes_the_reverse d = go ((d.qualities.words 0 (omega arith)).least 1 (omega arith) (omega arith))
  where
    go : LessBy byte_order (98 ∷ 97 ∷ []) (97 ∷ []) → ⊥
    go (inl h) = omega (arith, h)
    go (inr h) = omega (arith, h.0)
