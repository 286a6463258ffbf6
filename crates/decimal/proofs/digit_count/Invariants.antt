-- `decimal::digit_count` meets its contract: each turn takes the last digit off.
use mathlib.Core.Path.{◌≡◌}
use Prim.Native.Nat.{◌≤◌, ◌+◌}
use Rattle.decimal.specs.Decimal.{digit_count}
use Rattle.decimal.proofs.digit_count.Given as goal

abbrev pub invariant-loop-rest : goal.invariant-loop-rest
invariant-loop-rest l = (l.count + l.rest ≤ l.n + 1) × (l.count + digit_count l.rest ≡ digit_count l.n + 1)

abbrev pub decreases-loop-rest : goal.decreases-loop-rest
decreases-loop-rest l = l.rest
