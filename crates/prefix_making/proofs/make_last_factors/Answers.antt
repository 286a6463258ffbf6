-- `prefix_making::make_last_factors` meets its contract: the entries before i are made, and i is the start of a factor or the end.
use mathlib.Core.Path.{◌≡◌}
use lib.ListN.{length}
use Rattle.ranks.specs.Ranks.{ranked}
use Rattle.ranks.proofs.Ranked.{length_ranked}
use Rattle.rows.proofs.Fill.{filled_none, filled_all}
use Rattle.prefix_table.specs.State.{last_to}
use Rattle.prefix_table.proofs.Last.{last_table}
use Rattle.prefix_table.proofs.Pass.{reached_start}
use native.Mathlib.Omega.{arith}
use Rattle.prefix_making.proofs.make_last_factors.Goals as goal

pub loop-i-init : goal.loop-i-init
loop-i-init c =
    let s = ranked c.args.ranks.list.now c.args.s.now in
    (reached_start s, filled_none (last_to s) (length s) c.args.table.now 0, length_ranked c.args.ranks.list.now c.args.s.now)

pub returns : goal.returns
returns c =
    let b = c.args in
    let s = ranked b.ranks.list.now b.s.now in
    let e : c.loop-i.i ≡ length s = omega arith in
    filled_all (last_table s) c.loop-i.table (omega arith) (rw e at c.loop-i.invariant.1)
