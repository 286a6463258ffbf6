-- Demands 2 and 3 of the owner, of patterns under an order.
use Rattle.std.specs.Prelude.{List, ◌++◌, ◌≡◌, ℕ, take, drop}
use Rattle.words.specs.Demand.{DemandThree}
use Rattle.words.specs.Edit.{edited}
use Rattle.words.specs.Factors.{Group, spelled}
use Rattle.ranks.specs.Ranks.{ranked, FactorisationBy, factors_by}

-- Demand 2: the factors reported have the three qualities, and every split with these qualities is the one reported.
pub record DemandTwoBy (order s : List ℕ) (fs : List (List ℕ)) : Type 0 where
  pub qualities : FactorisationBy order s fs
  pub only : (gs : List (List ℕ)) → FactorisationBy order s gs → gs ≡ fs

-- Demand 3, of the ranks; and its words are bytes: the kept ones, those of the middle groups and the resumed ones are the edited pattern's factors.
pub record DemandThreeBy (order s : List ℕ) (from to : ℕ) (b : List ℕ) (kept resume group_count size start_count : ℕ) (groups : List Group) (starts : List ℕ) : Type 0 where
  pub exactly : take kept (factors_by order s) ++ (spelled (edited s from to b) groups ++ factors_by order (drop resume s)) ≡ factors_by order (edited s from to b)
  pub of_ranks : DemandThree (ranked order s) from to (ranked order b) kept resume group_count size start_count groups starts
