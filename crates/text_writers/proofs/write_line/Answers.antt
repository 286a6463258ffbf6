-- `text_writers::write_line` meets its contract: the numbers, the word and the shared length stand one behind the other.
use Rattle.text_writers.proofs.Parts.{line_put}
use Rattle.text_writers.proofs.write_line.Goals as goal

pub returns : goal.returns
returns c =
    let l = c.args.line in
    line_put l.start l.power l.word.now l.shared c.requires c.write_field.ensures c.write_field-2.ensures c.write_field-3.ensures
    c.write_word.ensures c.write_last.ensures
