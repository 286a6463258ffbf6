-- `text_lines::listing_length` meets its contract: the header and the lines.
use Rattle.text_lines.proofs.Most.{suffix_most}
use Rattle.text_lines.proofs.Lines.{listing_length}
use borrow.Author.Rules.{rules}
use native.Mathlib.Omega.{arith}
use Rattle.text_lines.proofs.listing_length.Goals as goal

pub overflow_add-result : goal.overflow_add-result
overflow_add-result c =
    let a = c.args in
    omega (arith, suffix_most a.ranks.list.now a.s.now 0 (search rules) (search rules))

pub returns : goal.returns
returns c =
    let a = c.args in
    omega (arith, listing_length a.ranks.list.now a.s.now)
