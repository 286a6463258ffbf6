-- `comparing::shared_bytes` meets its contract: the bytes agree up to where it stops.
use Rattle.comparing.proofs.Decided.{shared_told}
use Rattle.comparing.proofs.shared_bytes.Goals as goal

pub returns : goal.returns
returns c = shared_told (rw c.min-end.ensures at c.agree_bytes.ensures)
