-- `text_lines::lines_left` meets its contract: the group at the place is found.
use Rattle.text_lines.proofs.Lines.{found_from}
use Rattle.text_lines.proofs.lines_left.Goals as goal

pub invariant_of-result : goal.invariant_of-result
invariant_of-result c = record { within = c.requires; found = found_from c.group_from-ahead.ensures }
