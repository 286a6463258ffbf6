-- A pass of scans over a pattern: each starts at a factor, where the one before it ended.
use mathlib.Core.List.{List}
use mathlib.Core.Logic.{◌⊎◌, inl, inr}
use mathlib.Core.Path.{◌≡◌}
use Prim.Native.Nat.{ℕ, ◌≤◌, ◌<◌}
use native.Mathlib.Omega.{arith}
use lib.ListN.{length}
use Rattle.words.specs.Demand.{FactorStart}
use Rattle.words.proofs.Bounded.{le_cases}
use Rattle.words.proofs.Tables.{front_start}
use Rattle.prefix_table.proofs.Start.{front_factor}

-- i is the start of a factor or the end
pub record Reached (s : List ℕ) (i : ℕ) : Type 0 where
  pub within : i ≤ length s
  pub start : (i ≡ length s) ⊎ FactorStart s i

pub reached_start : (s : List ℕ) → Reached s 0
reached_start s = record { within = omega arith; start = go (le_cases {a = 0} {b = length s} (omega arith)) }
  where
    go : (0 ≡ length s) ⊎ (0 < length s) → (0 ≡ length s) ⊎ FactorStart s 0
    go (inl e) = inl e
    go (inr l) = inr (front_factor (front_start s) l)
