-- `order_bytes::replace_ranks` meets its contract: the entries before the index are replaced, those from there on are as they were.
use Rattle.std.proofs.Common.{take}
use Rattle.ranks.proofs.Inverse.{Replaced}
use Rattle.order_bytes.proofs.replace_ranks.Given as goal

abbrev pub invariant-loop-x : goal.invariant-loop-x
invariant-loop-x l = Replaced l.bytes (take l.n l.fn.row) l.x-items l.x-index
