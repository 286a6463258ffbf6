-- `text_lines::write_text` meets its contract: the header stands at the front, and the lines of all groups behind it.
use Rattle.std.proofs.Common.{arith, rules}
use Rattle.text.proofs.Lengths.{length_header}
use Rattle.text_lines.proofs.Lines.{listing_length, listing_put}
use Rattle.text_lines.proofs.write_text.Goals as goal

pub write_header-requires : goal.write_header-requires
write_header-requires c =
    let a = c.args in
    omega (arith, listing_length a.ranks.list.now a.s.now, length_header)

pub write_lines-requires : goal.write_lines-requires
write_lines-requires c =
    let a = c.args in
    (search rules, omega (arith, listing_length a.ranks.list.now a.s.now, length_header))

pub returns : goal.returns
returns c =
    let a = c.args in
    let put = listing_put a.ranks.list.now a.s.now (omega (arith, c.requires)) c.write_header.ensures c.write_lines.ensures in
    record { next = put.next; leaves = search (rules, put.leaves) }
