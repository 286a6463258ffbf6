-- `reach_making::make_plain` meets its contract: the entries from i on are made.
use Rattle.words.proofs.Tables.{longest_at_fits}
use Rattle.ranks.specs.Ranks.{ranked}
use Rattle.ranks.proofs.Ranked.{length_ranked}
use Prim.Native.Nat.{◌-◌}
use native.Mathlib.Omega.{arith}
use Rattle.reach_making.proofs.make_plain.Goals as goal

pub merge_at-m-requires : goal.merge_at-m-requires
merge_at-m-requires c =
    let e = length_ranked c.args.ranks.list.now c.args.s.now in
    (omega arith, record { room = omega (arith, c.loop-i.invariant.size); right = λ k b d. c.loop-i.invariant.inside k (omega arith) (omega arith) })

pub overflow_cast-table : goal.overflow_cast-table
overflow_cast-table c =
    let e = length_ranked c.args.ranks.list.now c.args.s.now in
    omega (arith, c.merge_at-m.ensures, longest_at_fits (ranked c.args.ranks.list.now c.args.s.now) (c.loop-i.i - 1) (omega arith))
