-- How `nests` tests a table from the right: the stretches from i on nest, and those behind i are passed over one after the other.
use mathlib.Core.List.{List}
use Prim.Native.Nat.{ℕ, ◌≤◌, ◌<◌}
use lib.ListN.{length}
use Rattle.realisation.specs.Nested.{end_of}

-- what `Nests` says of the stretches that start at i or behind it
pub record NestsFrom (t : List ℕ) (i : ℕ) : Type 0 where
  pub some : (p : ℕ) → i ≤ p → p < length t → p < end_of t p
  pub within : (p : ℕ) → i ≤ p → p < length t → end_of t p ≤ length t
  pub inside : (p q : ℕ) → i ≤ p → p < length t → p < q → q < end_of t p → end_of t q ≤ end_of t p

-- the stretches behind i that start before j end at j or before it
pub record Passed (t : List ℕ) (i j : ℕ) : Type 0 where
  pub behind : i < j
  pub ends : (k : ℕ) → i < k → k < j → end_of t k ≤ j
