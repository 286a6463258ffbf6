-- `block_parts::ends_at` meets its contract: behind the end are none, one or, here, at least two bytes.
use Rattle.std.proofs.Common.{arith, rules}
use Rattle.block_parts.proofs.Ends.{ends_later}
use Rattle.block_parts.proofs.ends_at.Goals as goal

pub returns-in_default : goal.returns-in_default
returns-in_default c =
    let a = c.args in
    ends_later a.end a.block.now (omega arith) (search rules)
