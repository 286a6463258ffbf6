-- `scan::next_group` meets its contract: both loops keep the state of Duval's scan, and where it stops the group is read off.
use Prim.Native.Nat.{◌-◌, ◌<◌}
use lib.ListN.{length}
use native.Mathlib.Omega.{arith}
use Rattle.words.proofs.Scan.{scan_start}
use Rattle.ranks.specs.Ranks.{ranked}
use Rattle.ranks.proofs.Ranked.{length_ranked, ranks_agree, ranks_below}
use Rattle.scan.proofs.Next.{next_group, turn_same, turn_up, stop_smaller, stop_end, turned}
use borrow.Author.Rules.{rules}
use Rattle.scan.proofs.next_group.Goals as goal
use Rattle.scan.proofs.next_group.Goals.{then-x-y+else-below, else-x-y}

pub loop-j-init : goal.loop-j-init
loop-j-init c =
    let a = c.args in
    let e = length_ranked a.ranks.list.now a.s.now in
    (search rules, search rules, scan_start (ranked a.ranks.list.now a.s.now) a.i (omega arith), e)

pub returns-then-below : goal.returns-then-below
returns-then-below c =
    let a = c.args in
    let l = c.loop-k in
    let h = c.below.ensures.yes c.if-below.true in
    next_group l.invariant.0 (stop_smaller l.invariant.0 (ranks_below a.ranks.list.now a.s.now a.s.now l.k (l.k - l.p) (search rules) (search rules) h))

pub loop-k-preserved : goal.loop-k-preserved
loop-k-preserved c =
    let a = c.args in
    let l = c.loop-k in
    let x : l.k - l.p < length a.s.now = search rules in
    let y : l.k < length a.s.now = search rules in (
      elim c.if-x-y.branch [
        | then-x-y+else-below w ↦
            rw w.p-is (turn_up l.invariant.0 (search rules) (ranks_below a.ranks.list.now a.s.now a.s.now (l.k - l.p) l.k x y (w.below.ensures.no w.if-below.false (turned w.if-x-y.true))))
        | else-x-y w ↦
            rw w.p-is (turn_same l.invariant.0 (search rules) (ranks_agree a.ranks.list.now a.s.now a.s.now (l.k - l.p) l.k x y w.if-x-y.false))
      ],
      l.invariant.1,
    )

pub returns : goal.returns
returns c = next_group c.loop-j.invariant.2 (stop_end c.loop-j.invariant.2 (search rules))
