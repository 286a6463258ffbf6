-- `bytes` of the writer meets its contract: the bytes before the one at hand stand in the buffer, and the others are left.
use Prim.Native.Nat.{◌≤◌}
use lib.ListN.{length, drop}
use Rattle.rows.proofs.Puts.{Putting}
use Rattle.rows.proofs.Writer.bytes.Given as goal

abbrev pub invariant-loop-byte : goal.invariant-loop-byte
invariant-loop-byte l = (l.byte-index ≤ length l.bytes) × Putting l.bytes l.initial.next l.initial.buffer l.buffer l.next (drop l.byte-index l.bytes)
