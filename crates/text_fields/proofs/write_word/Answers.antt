-- `text_fields::write_word` meets its contract: the digits of the bytes so far are written, and those of the others are left.
use Rattle.std.proofs.Common.{arith, ap}
use Rattle.text.specs.Hexadecimal.{hexadecimal}
use Rattle.rows.proofs.Puts.{bytes_end}
use Rattle.rows.proofs.Writing.{writing_none, writing_all}
use Rattle.text_fields.proofs.Word.{word_room, word_turn}
use Rattle.text_fields.proofs.write_word.Goals as goal

pub loop-byte-init : goal.loop-byte-init
loop-byte-init c = writing_none (hexadecimal c.args.word.now) c.args.out.now c.requires

pub byte-requires : goal.byte-requires
byte-requires c = omega (arith, word_room c.args.word.now c.loop-byte.byte-index (omega arith) c.loop-byte.invariant)

pub byte-requires-in-loop-byte : goal.byte-requires-in-loop-byte
byte-requires-in-loop-byte c = omega (arith, word_room c.args.word.now c.loop-byte.byte-index (omega arith) c.loop-byte.invariant)

pub loop-byte-preserved : goal.loop-byte-preserved
loop-byte-preserved c =
    word_turn c.args.word.now c.loop-byte.byte-index (omega arith) c.loop-byte.invariant c.pair_of.result c.pair_of.ensures
    c.byte.ensures c.byte-in-loop-byte.ensures

pub returns : goal.returns
returns c =
    let none = ap hexadecimal (bytes_end c.args.word.now c.loop-byte.byte-index (omega arith)) in
    writing_all (rw none at c.loop-byte.invariant)
