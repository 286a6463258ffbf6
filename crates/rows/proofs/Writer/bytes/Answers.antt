-- `bytes` of the writer meets its contract: the bytes before the one at hand stand in the buffer, and the others are left.
use Rattle.rows.proofs.Wrote.{wrote_length}
use Rattle.rows.proofs.Puts.{putting_none, putting_all, byte_room, byte_turn, bytes_end}
use mathlib.Core.Path.{refl}
use borrow.Author.Rules.{rules}
use native.Mathlib.Omega.{arith}
use Rattle.rows.proofs.Writer.bytes.Goals as goal

pub loop-byte-init : goal.loop-byte-init
loop-byte-init c = (search rules, putting_none c.args.bytes.now c.args.self.now.buffer.now c.args.self.now.at (search rules))

pub bounds-buffer-next : goal.bounds-buffer-next
bounds-buffer-next c =
    omega (arith, byte_room c.args.bytes.now c.loop-byte.byte-index (search rules) c.loop-byte.invariant.1)

pub overflow_add-next : goal.overflow_add-next
overflow_add-next c =
    omega (arith, byte_room c.args.bytes.now c.loop-byte.byte-index (search rules) c.loop-byte.invariant.1, wrote_length c.loop-byte.invariant.1)

pub loop-byte-preserved : goal.loop-byte-preserved
loop-byte-preserved c =
    (search rules, byte_turn c.args.bytes.now c.loop-byte.byte-index (search rules) c.loop-byte.invariant.1)

pub returns : goal.returns
returns c =
    let bytes = c.args.bytes.now in
    let none = bytes_end bytes c.loop-byte.byte-index (search rules) in
    let puts = putting_all (omega (arith, c.requires)) (rw none at c.loop-byte.invariant.1) in
    record { same = refl; size = wrote_length c.loop-byte.invariant.1; next = puts.next; leaves = puts.leaves }
