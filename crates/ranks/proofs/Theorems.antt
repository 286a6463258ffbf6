-- The theorems about orders, for the auditor: each is a statement over specs/, what `Answer` of `words` defines, and `MeetsThreeBy` of Demand, which
-- is demand 3 of such an answer; and a citation of its proof. They say that what the words on bytes say under an order holds exactly when the plain
-- ones hold of the ranks, that byte order changes nothing, and what does not depend on the order.
use mathlib.Core.Bool.{true}
use mathlib.Core.List.{List, map}
use mathlib.Core.Logic.{◌↔◌}
use mathlib.Core.Path.{◌≡◌, ◌∙◌}
use Prim.Native.Nat.{ℕ, ◌≤◌, ◌<◌}
use native.Mathlib.Omega.{arith}
use lib.ListN.{length}
use Rattle.words.specs.Demand.{DemandTwo}
use Rattle.words.specs.Edit.{edited}
use Rattle.words.specs.Factors.{Factorisation, factors, join, Group, spelled, groups_from}
use Rattle.words.specs.Order.{Less, shared, Lyndon}
use Rattle.words.specs.Rotation.{repeated}
use Rattle.words.specs.Tables.{groups}
use Rattle.words.proofs.Answer.{Answer, answer, MeetsThree}
use Rattle.ranks.specs.Ranks.{Bytes, Order, is_order, byte_order, rank, ranked, LessBy, LyndonBy, FactorisationBy, factors_by}
use Rattle.ranks.specs.Demand.{DemandTwoBy}
use Rattle.ranks.proofs.ByteOrder as bytes
use Rattle.ranks.proofs.Demand as demands
use Rattle.ranks.proofs.Demand.{MeetsThreeBy}
use Rattle.ranks.proofs.Factors as factor_laws
use Rattle.ranks.proofs.Inverse.{stands}
use Rattle.ranks.proofs.Marks.{order_told}
use Rattle.ranks.proofs.Ranked as rank_laws
use Rattle.ranks.proofs.Ranked.{order_ranks}
use Rattle.ranks.proofs.Repeated as repeats
use Rattle.ranks.proofs.Shared as shared_laws
use Rattle.ranks.proofs.Smaller as smaller_laws
use Rattle.ranks.proofs.Words as word_laws

-- the test agrees with the proposition
pub order_test : (order : List ℕ) → (is_order order ≡ true) ↔ Order order
order_test = order_told

-- ranks of bytes are bytes, different bytes have different ranks, and each value is the rank of a byte
pub rank_byte : (order : List ℕ) → Order order → (b : ℕ) → b < 256 → rank order b < 256
rank_byte order v b h = rank_laws.rank_byte v h

pub rank_apart : (order : List ℕ) → Order order → (a b : ℕ) → a < 256 → b < 256 → rank order a ≡ rank order b → a ≡ b
rank_apart order v = (order_ranks v).apart

pub rank_taken : (order : List ℕ) → Order order → (r : ℕ) → r < 256 → (b : ℕ) × (b < 256) × (rank order b ≡ r)
rank_taken order v r h =
    let s = stands r order (omega (arith, v.once r h)) in
    (s.place, omega (arith, s.within, v.size), rank_laws.rank_entry order s.place s.within ∙ s.at)

pub ranked_only : (order : List ℕ) → Order order → (s t : List ℕ) → Bytes s → Bytes t → ranked order s ≡ ranked order t → s ≡ t
ranked_only order v = rank_laws.ranked_only (order_ranks v)

-- what holds of the bytes under an order is what holds of the ranks
pub less_of_ranks : (order : List ℕ) → Order order → (a b : List ℕ) → Bytes a → Bytes b → LessBy order a b ↔ Less (ranked order a) (ranked order b)
less_of_ranks order v = smaller_laws.smaller_by (order_ranks v)

pub lyndon_of_ranks : (order : List ℕ) → Order order → (w : List ℕ) → Bytes w → LyndonBy order w ↔ Lyndon (ranked order w)
lyndon_of_ranks order v = smaller_laws.lyndon_by (order_ranks v)

pub factorisation_of_ranks : (order : List ℕ) → Order order → (s : List ℕ) (fs : List (List ℕ)) → Bytes s
    → FactorisationBy order s fs ↔ (Factorisation (ranked order s) (map (ranked order) fs) × (join fs ≡ s))
factorisation_of_ranks order v = factor_laws.factorisation_by (order_ranks v)

pub factors_of_ranks : (order s : List ℕ) → map (ranked order) (factors_by order s) ≡ factors (ranked order s)
factors_of_ranks = factor_laws.ranked_factors

pub spelled_of_ranks : (order s : List ℕ) (gs : List Group) → map (ranked order) (spelled s gs) ≡ spelled (ranked order s) gs
spelled_of_ranks = word_laws.ranked_spelled

pub groups_of_ranks : (order : List ℕ) → Order order → (s : List ℕ) → Bytes s → groups (ranked order s) ≡ groups_from 0 (factors_by order s)
groups_of_ranks order v = factor_laws.groups_by (order_ranks v)

pub edited_of_ranks : (order s : List ℕ) (from to : ℕ) (b : List ℕ) → ranked order (edited s from to b) ≡ edited (ranked order s) from to (ranked order b)
edited_of_ranks = rank_laws.ranked_edited

-- factors under an order: existence and uniqueness
pub factorisation_unique_by : (order : List ℕ) → Order order → (s : List ℕ) (fs : List (List ℕ)) → Bytes s
    → FactorisationBy order s fs ↔ (fs ≡ factors_by order s)
factorisation_unique_by order v = factor_laws.factors_by_lem (order_ranks v)

pub demand_two_by : (order : List ℕ) → Order order → (s : List ℕ) → Bytes s → DemandTwoBy order s (factors_by order s)
demand_two_by order v = demands.demand_two_by (order_ranks v)

-- the answer to an edit under an order is that to the edit of the ranks, and no other
pub demand_three_of_ranks : (order : List ℕ) → Order order → (s : List ℕ) (from to : ℕ) (b : List ℕ) → Bytes s → Bytes b
    → (a : Answer) → MeetsThreeBy order s from to b a ↔ MeetsThree (ranked order s) from to (ranked order b) a
demand_three_of_ranks order v s from to b p q a = (λ d. d.of_ranks, demands.demand_three_by (order_ranks v) s from to b p q)

pub demand_three_by : (order : List ℕ) → Order order → (s : List ℕ) (from to : ℕ) (b : List ℕ) → Bytes s → Bytes b → from ≤ to → to ≤ length s
    → (a : Answer) → MeetsThreeBy order s from to b a ↔ (a ≡ answer (ranked order s) from to (ranked order b))
demand_three_by order v = demands.answer_by (order_ranks v)

-- with each byte's value as its rank everything is as it is without an order
pub byte_order_lem : Order byte_order
byte_order_lem = bytes.byte_order_is_order

pub byte_order_ranked : (s : List ℕ) → Bytes s → ranked byte_order s ≡ s
byte_order_ranked = rank_laws.byte_ranked

pub byte_order_less : (a b : List ℕ) → Bytes a → Bytes b → LessBy byte_order a b ↔ Less a b
byte_order_less = bytes.byte_less

pub byte_order_lyndon : (w : List ℕ) → Bytes w → LyndonBy byte_order w ↔ Lyndon w
byte_order_lyndon = bytes.byte_lyndon

pub byte_order_factorisation : (s : List ℕ) (fs : List (List ℕ)) → Bytes s → FactorisationBy byte_order s fs ↔ Factorisation s fs
byte_order_factorisation = bytes.byte_factorisation

pub byte_order_factors : (s : List ℕ) → Bytes s → factors_by byte_order s ≡ factors s
byte_order_factors = bytes.byte_factors

pub byte_order_demand_two : (s : List ℕ) (fs : List (List ℕ)) → Bytes s → DemandTwoBy byte_order s fs ↔ DemandTwo s fs
byte_order_demand_two = bytes.byte_demand_two

pub byte_order_demand_three : (s : List ℕ) (from to : ℕ) (b : List ℕ) → Bytes s → Bytes b → (a : Answer)
    → MeetsThreeBy byte_order s from to b a ↔ MeetsThree s from to b a
byte_order_demand_three = bytes.byte_demand_three

-- what does not depend on the order
pub shared_under : (order : List ℕ) → Order order → (a b : List ℕ) → Bytes a → Bytes b → shared (ranked order a) (ranked order b) ≡ shared a b
shared_under order v = shared_laws.shared_ranked (order_ranks v)

pub repeated_under : (order : List ℕ) → Order order → (s : List ℕ) → Bytes s → repeated (ranked order s) ≡ repeated s
repeated_under order v = repeats.repeated_ranked (order_ranks v)
