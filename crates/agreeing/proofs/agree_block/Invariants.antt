-- `agreeing::agree_block` meets its contract: where all pairs before place k are equal, the bytes agree that far.
use Rattle.std.proofs.Common.{◌≡◌, true}
use Rattle.agreeing.specs.Agrees.{Agrees}
use Rattle.agreeing.proofs.agree_block.Given as goal

abbrev pub invariant-loop-k : goal.invariant-loop-k
invariant-loop-k l = l.same ≡ true → Agrees l.a l.i l.b l.j l.k
