-- `order_bytes::bytes_of` meets its contract: the bytes before b stand at their ranks.
use Rattle.ranks.proofs.Inverse.{Inverting}
use Rattle.order_bytes.proofs.bytes_of.Given as goal

abbrev pub invariant-loop-b : goal.invariant-loop-b
invariant-loop-b l = Inverting l.order l.bytes l.b
