-- `entries::write_lengths` meets its contract: the entries before place k of the block are written.
use Prim.Native.Nat.{◌+◌, ◌-◌}
use Rattle.rows.proofs.Fill.{Filled}
use Rattle.entries.proofs.write_lengths.Given as goal

abbrev pub invariant-loop-k : goal.invariant-loop-k
invariant-loop-k l = Filled (λ x. x + 1 - l.i) (l.at + 16) l.initial.table l.table l.at (l.at + l.k)
