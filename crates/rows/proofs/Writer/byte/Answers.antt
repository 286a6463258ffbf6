-- `byte` of the writer meets its contract: an entry that is set is the one-byte text written there.
use mathlib.Core.Path.{refl}
use native.Mathlib.Omega.{arith}
use lib.ListN.{length-set}
use Rattle.rows.proofs.Wrote.{set_written}
use Rattle.rows.proofs.Writer.byte.Goals as goal

pub returns : goal.returns
returns c =
    let w = c.args.self.now in
    record { same = refl; size = length-set w.buffer.now w.at c.args.byte; next = refl; leaves = set_written w.buffer.now w.at c.args.byte (omega (arith, c.requires)) }
