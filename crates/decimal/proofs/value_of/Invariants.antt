-- `decimal::value_of` meets its contract: the digits before the index are read, and the others are left.
use Rattle.std.proofs.Common.{◌≡◌, ◌^◌, ◌<◌, drop}
use Rattle.decimal.specs.Decimal.{read, read_behind}
use Rattle.decimal.proofs.value_of.Given as goal

abbrev pub invariant-loop-d : goal.invariant-loop-d
invariant-loop-d l = (read_behind l.value (drop l.d-index l.digits) ≡ read l.digits) × (l.value < 10 ^ l.d-index)
