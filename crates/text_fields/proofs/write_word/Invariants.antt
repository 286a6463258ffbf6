-- `text_fields::write_word` meets its contract: the digits of the bytes so far are written, and those of the others are left.
use Rattle.std.proofs.Common.{drop}
use Rattle.text.specs.Hexadecimal.{hexadecimal}
use Rattle.rows.proofs.Writing.{Writing}
use Rattle.text_fields.proofs.write_word.Given as goal

abbrev pub invariant-loop-byte : goal.invariant-loop-byte
invariant-loop-byte l = Writing (hexadecimal l.word) l.initial.out l.out (hexadecimal (drop l.byte-index l.word))
