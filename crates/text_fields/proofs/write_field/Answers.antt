-- `text_fields::write_field` meets its contract: the number is written, then the comma.
use Rattle.text_fields.proofs.Last.{field_put}
use Rattle.text_fields.proofs.write_field.Goals as goal

pub returns : goal.returns
returns c = field_put c.args.n c.requires c.write_decimal.ensures c.byte.ensures
