-- With each byte's value as its rank, everything is as it is without an order.
use mathlib.Core.List.{List, map}
use mathlib.Core.Logic.{◌↔◌}
use mathlib.Core.Path.{◌≡◌}
use Prim.Native.Nat.{ℕ}
use Rattle.words.specs.Demand.{DemandTwo}
use Rattle.words.specs.Factors.{Factorisation, factors, join}
use Rattle.words.specs.Order.{Less, Lyndon}
use Rattle.words.proofs.Answer.{Answer, MeetsThree}
use Rattle.words.proofs.Spelled.{groups_spelled}
use Rattle.ranks.specs.Ranks.{Bytes, Order, byte_order, ranked, LessBy, LyndonBy, FactorisationBy, factors_by}
use Rattle.ranks.specs.Demand.{DemandTwoBy}
use Rattle.ranks.specs.Inner.{Ranks}
use Rattle.ranks.proofs.Demand.{MeetsThreeBy, demand_three_by}
use Rattle.ranks.proofs.Factors.{factorisation_by}
use Rattle.ranks.proofs.Marks.{order_true, byte_order_lem}
use Rattle.ranks.proofs.Ranked.{byte_ranked, order_ranks}
use Rattle.ranks.proofs.Smaller.{smaller_by, lyndon_by}
use Rattle.ranks.proofs.Words.{all_bytes, byte_ranked_all}

pub byte_order_is_order : Order byte_order
byte_order_is_order = order_true byte_order byte_order_lem

ranks : Ranks byte_order
ranks = order_ranks byte_order_is_order

pub byte_less : (a b : List ℕ) → Bytes a → Bytes b → LessBy byte_order a b ↔ Less a b
byte_less a b p q = rw (byte_ranked a p, byte_ranked b q) at (smaller_by ranks a b p q)

pub byte_lyndon : (w : List ℕ) → Bytes w → LyndonBy byte_order w ↔ Lyndon w
byte_lyndon w p = rw (byte_ranked w p) at (lyndon_by ranks w p)

pub byte_factorisation : (s : List ℕ) (fs : List (List ℕ)) → Bytes s → FactorisationBy byte_order s fs ↔ Factorisation s fs
byte_factorisation s fs h = (
  λ d. rw (byte_ranked s h, words d.joined) at ((factorisation_by ranks s fs h).0 d).0,
  λ d. (factorisation_by ranks s fs h).1 (rw (byte_ranked s h, words d.joined) d, d.joined),
)
  where
    words : join fs ≡ s → map (ranked byte_order) fs ≡ fs
    words j = byte_ranked_all fs (all_bytes fs (rw j h))

pub byte_factors : (s : List ℕ) → Bytes s → factors_by byte_order s ≡ factors s
unfolding factors_by
byte_factors s h = rw (byte_ranked s h) (groups_spelled s)

pub byte_demand_two : (s : List ℕ) (fs : List (List ℕ)) → Bytes s → DemandTwoBy byte_order s fs ↔ DemandTwo s fs
byte_demand_two s fs h = (
  λ d. record { qualities = (byte_factorisation s fs h).0 d.qualities; only = λ gs e. d.only gs ((byte_factorisation s gs h).1 e) },
  λ d. record { qualities = (byte_factorisation s fs h).1 d.qualities; only = λ gs e. d.only gs ((byte_factorisation s gs h).0 e) },
)

pub byte_demand_three : (s : List ℕ) (from to : ℕ) (b : List ℕ) → Bytes s → Bytes b → (a : Answer)
    → MeetsThreeBy byte_order s from to b a ↔ MeetsThree s from to b a
byte_demand_three s from to b p q a =
    (λ d. rw (byte_ranked s p, byte_ranked b q) at d.of_ranks, λ d. demand_three_by ranks s from to b p q (rw (byte_ranked s p, byte_ranked b q) d))
