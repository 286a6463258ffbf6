-- `rank_leaps::grow_ranks` meets its contract: the word grows over ranks above its first, or to the last byte that is not its first in blocks that break.
use Rattle.std.proofs.Common.{◌+◌, ◌<◌, ◌≤◌, length, get_or, arith}
use Rattle.ranks.proofs.Ranked.{length_ranked, get_or_ranked}
use Rattle.rank_leaps.proofs.Breaking.{grow_above, grow_broken}
use Rattle.rank_leaps.proofs.grow_ranks.Goals as goal

pub returns-then-breaks : goal.returns-then-breaks
returns-then-breaks c =
    let o = c.args.ranks.list.now in
    let s = c.args.s.now in
    let e = length_ranked o s in
    let h : c.args.i < length s = omega (arith, c.requires.1, c.requires.2.fits, c.requires.2.ends, e) in
    let r = c.ranks_above.ensures in
    (r.0, grow_above c.requires.2 (rw (← get_or_ranked o s c.args.i h) at r.2) r.0 (omega (arith, r.1, e)))

pub returns : goal.returns
returns c =
    let o = c.args.ranks.list.now in
    let s = c.args.s.now in
    let known = c.type_inv.s in
    let h : c.args.i + 8 ≤ length s = omega (arith, c.requires.1, c.requires.2.fits, c.requires.2.ends, length_ranked o s) in
    let b = c.breaks.ensures.1 c.if-breaks.false in
    let p = c.ranks_run-k.ensures in
    let q = c.last_other.ensures in
    let grown = grow_broken o s (get_or s c.args.i 0) c.args.ranks.known (λ t l. omega (arith, known t)) (omega (arith, known c.args.i)) in
    (q.0, grown h (get_or_ranked o s c.args.i (omega arith)) c.requires.2 b p.2 p.3 p.1 q.0 q.1 q.2)
