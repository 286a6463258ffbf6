-- `text_fields::write_last` meets its contract: the comma, the number and the line end stand one behind the other.
use Rattle.text_fields.proofs.Last.{last_put}
use Rattle.text_fields.proofs.write_last.Goals as goal

pub returns : goal.returns
returns c = last_put c.args.n c.requires c.byte.ensures c.write_decimal.ensures c.bytes.ensures
