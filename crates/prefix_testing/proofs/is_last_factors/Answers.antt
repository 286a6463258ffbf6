-- `prefix_testing::is_last_factors` meets its contract: the entries before `start` are right, and that is the start of a factor or the end.
use mathlib.Core.Path.{◌≡◌, refl}
use lib.ListN.{length}
use Rattle.ranks.specs.Ranks.{ranked}
use Rattle.ranks.proofs.Ranked.{length_ranked}
use Rattle.rows.proofs.Fill.{right_none, tested_all, tested_wrong}
use Rattle.prefix_table.specs.State.{last_to}
use Rattle.prefix_table.proofs.Last.{last_table}
use Rattle.prefix_table.proofs.Pass.{reached_start}
use native.Mathlib.Omega.{arith}
use Rattle.prefix_testing.proofs.is_last_factors.Goals as goal

pub loop-start-init : goal.loop-start-init
loop-start-init c =
    let s = ranked c.args.ranks.list.now c.args.s.now in
    (reached_start s, right_none (last_to s) c.args.table.now 0, length_ranked c.args.ranks.list.now c.args.s.now)

pub returns-in_default : goal.returns-in_default
returns-in_default c =
    let s = ranked c.args.ranks.list.now c.args.s.now in
    let w = c.in_default.ensures.wrong refl in
    rw c.loop-start.invariant.2 at (tested_wrong (last_table s) c.args.table.now (omega arith) w.place w.within w.differs)

pub returns : goal.returns
returns c =
    let s = ranked c.args.ranks.list.now c.args.s.now in
    let e : c.loop-start.start ≡ length s = omega arith in
    rw c.loop-start.invariant.2 at (tested_all (last_table s) c.args.table.now (omega arith) (rw e at c.loop-start.invariant.1))
