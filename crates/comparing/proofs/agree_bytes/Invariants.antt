-- `comparing::agree_bytes` meets its contract: before place k the bytes agree.
use Rattle.agreeing.specs.Agrees.{Agrees}
use Rattle.comparing.proofs.agree_bytes.Given as goal

abbrev pub invariant-loop-k : goal.invariant-loop-k
invariant-loop-k l = Agrees l.a l.i l.b l.j l.k
