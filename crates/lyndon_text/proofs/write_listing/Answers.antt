-- `lyndon_text::write_listing` meets its contract: each way out is the outcome of the first refusal that holds, or of none; a buffer that was not
-- measured has room for any listing of so many bytes.
use Rattle.std.proofs.Common.{◌≤◌, length, arith, rules}
use Rattle.text_lines.proofs.Lines.{listing_most}
use Rattle.text.specs.Listing.{listing_by}
use Rattle.lyndon_text.proofs.Listed.{listed_short, listed}
use Rattle.lyndon_text.proofs.write_listing.Goals as goal
use Rattle.lyndon_text.proofs.write_listing.Goals.{then-text-pattern+else-text-count, else-text-pattern}

pub returns-then-text-count : goal.returns-then-text-count
returns-then-text-count c =
    let a = c.args in
    listed_short c.in_ok-ranks.ensures.accepted a.pattern.now a.text.now (λ i h. omega (arith, c.type_inv.pattern i)) (search rules) (search rules)

pub write_text-requires : goal.write_text-requires
write_text-requires c =
    let a = c.args in
    let ranks = c.in_ok-ranks.ranks.list.now in
    let room : length (listing_by ranks a.pattern.now) ≤ length a.text.now =
    elim c.if-text-pattern.branch [
      | then-text-pattern+else-text-count w ↦ omega (arith, w.listing_length-count.ensures, w.if-text-count.false)
      | else-text-pattern w ↦ omega (arith, w.if-text-pattern.false, listing_most ranks a.pattern.now (search rules))
    ] in
    omega (arith, room)

pub returns : goal.returns
returns c =
    let a = c.args in
    let ranks = c.in_ok-ranks.ranks.list.now in
    let room : length (listing_by ranks a.pattern.now) ≤ length a.text.now =
    grind (arith, listing_most ranks a.pattern.now (search rules)) in
    listed c.in_ok-ranks.ensures.accepted a.pattern.now a.text.now (λ i h. omega (arith, c.type_inv.pattern i)) (search rules) room
    c.write_text.ensures
