-- One word back from where the scan stands there is a place of it.
use Prim.Native.Nat.{ℕ, ◌+◌, ◌≤◌}
use native.Mathlib.Omega.{arith}
use Rattle.prefix_table.specs.State.{Back}

pub back_one : {i j p : ℕ} → i + p ≤ j → Back i j p p
back_one {i} {j} {p} h = record { others = 0; words = omega arith; inside = h }
