-- `agreeing::agree_blocks` meets its contract: the bytes before place k agree.
use Rattle.std.proofs.Common.{◌-◌, ◌≤◌}
use Rattle.agreeing.specs.Agrees.{Agrees}
use Rattle.agreeing.proofs.agree_blocks.Given as goal

abbrev pub invariant-loop-k : goal.invariant-loop-k
invariant-loop-k l = (l.k ≤ l.len) × Agrees l.a l.i l.b l.j l.k

abbrev pub decreases-loop-k : goal.decreases-loop-k
decreases-loop-k l = l.len - l.k
