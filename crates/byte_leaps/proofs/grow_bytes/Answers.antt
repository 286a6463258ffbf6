-- `byte_leaps::grow_bytes` meets its contract: every suffix that starts in the blocks is greater than the word, so it grows to the last byte above c.
use Rattle.std.proofs.Common.{rules}
use Rattle.rising.proofs.Rising.{risen_met, grow_pairs, grow_runs}
use Rattle.byte_leaps.proofs.grow_bytes.Goals as goal

pub returns-then-breaks : goal.returns-then-breaks
returns-then-breaks c =
    let p = c.risen_blocks-k.ensures in
    let e = c.last_other.ensures in
    (e.0, grow_pairs c.requires.1 (risen_met p.risen (λ t m. search rules)) p.within e.0 e.1 e.2)

pub returns : goal.returns
returns c =
    let p = c.risen_blocks-k-2.ensures in
    let e = c.last_other-2.ensures in
    let b = c.breaks in
    (e.0, grow_runs c.requires.1 (b.ensures.1 c.if-breaks.false) (risen_met p.risen (λ t m. search rules)) p.within e.0 e.1 e.2)
