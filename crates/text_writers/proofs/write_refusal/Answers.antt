-- `text_writers::write_refusal` meets its contract: the word and the number stand one behind the other.
use Rattle.std.proofs.Common.{arith, rules}
use Rattle.text_writers.proofs.Parts.{refusal_put}
use Rattle.text_writers.proofs.write_refusal.Goals as goal

pub returns : goal.returns
returns c =
    let put = refusal_put c.args.number (omega (arith, c.requires)) c.bytes.ensures c.write_last.ensures in
    record { next = put.next; leaves = search (rules, put.leaves) }
