-- `wanted_making::write_symbols` meets its contract: the children among the first k places are counted; the symbols from i on are made.
use mathlib.Core.Path.{◌≡◌}
use Prim.Native.Nat.{◌+◌, ◌-◌, ◌<◌}
use lib.ListN.{length}
use Rattle.refusals.specs.Refusals.{max_wanted}
use Rattle.rows.proofs.Fill.{filled_down, filled_all}
use Rattle.wanted_making.proofs.Made.{counted_none, counted_few, counted_some, counted_back}
use Rattle.wanted_making.proofs.Made.{made_below, below_fits, made_last, last_fits, symbols_list}
use native.Mathlib.Omega.{arith}
use Rattle.wanted_making.proofs.write_symbols.Goals as goal

pub loop-k-init : goal.loop-k-init
loop-k-init c = counted_none c.args.table.now (max_wanted + 1) (omega (arith, c.requires.0))

pub overflow_add-children-in-loop-k : goal.overflow_add-children-in-loop-k
overflow_add-children-in-loop-k c =
    let i = c.loop-k.k in
    let h : i < length c.args.table.now = omega arith in
    omega (arith, counted_few c.requires.2 h c.loop-k.invariant)

pub overflow_sub-earlier : goal.overflow_sub-earlier
overflow_sub-earlier c =
    let i = c.loop-i.i - 1 in
    let h : i < length c.args.table.now = omega arith in
    omega (arith, counted_some c.requires.2 h (omega arith) c.loop-i.invariant.0)

pub overflow_add-pattern-then-end-n : goal.overflow_add-pattern-then-end-n
overflow_add-pattern-then-end-n c =
    let i = c.loop-i.i - 1 in
    let h : i < length c.args.table.now = omega arith in
    omega (arith, below_fits c.requires.2 h (omega arith) c.loop-i.invariant.0 c.loop-i.invariant.1 (omega arith))

pub overflow_add-pattern : goal.overflow_add-pattern
overflow_add-pattern c = omega (arith, overflow_add-pattern-then-end-n c)

pub overflow_cast-pattern : goal.overflow_cast-pattern
overflow_cast-pattern c = omega (arith, overflow_add-pattern-then-end-n c)

pub loop-i-preserved-then-end-n : goal.loop-i-preserved-then-end-n
loop-i-preserved-then-end-n c =
    let i = c.loop-i.i - 1 in
    let h : i < length c.args.table.now = omega arith in
    let e = made_below c.requires.2 h (omega arith) c.loop-i.invariant.0 c.loop-i.invariant.1 (omega arith) in
    let some = counted_some c.requires.2 h (omega arith) c.loop-i.invariant.0 in
    let counted = counted_back c.requires.2 h (omega arith) c.loop-i.invariant.0 in
    (counted _ (omega (arith, some)), filled_down c.loop-i.invariant.1 (omega arith) i _ (omega (arith, e)) h (omega arith))

pub overflow_cast-pattern-else-end-n : goal.overflow_cast-pattern-else-end-n
overflow_cast-pattern-else-end-n c =
    let i = c.loop-i.i - 1 in
    let h : i < length c.args.table.now = omega arith in
    omega (arith, last_fits c.requires.2 h (omega arith) c.loop-i.invariant.0 (omega arith))

pub loop-i-preserved : goal.loop-i-preserved
loop-i-preserved c =
    let i = c.loop-i.i - 1 in
    let h : i < length c.args.table.now = omega arith in
    let e = made_last c.requires.2 h (omega arith) c.loop-i.invariant.0 (omega arith) in
    let some = counted_some c.requires.2 h (omega arith) c.loop-i.invariant.0 in
    let counted = counted_back c.requires.2 h (omega arith) c.loop-i.invariant.0 in
    (counted _ (omega (arith, some)), filled_down c.loop-i.invariant.1 (omega arith) i _ (omega (arith, e)) h (omega arith))

pub returns : goal.returns
returns c =
    let e : c.loop-i.i ≡ 0 = omega arith in
    filled_all (symbols_list c.args.table.now) c.loop-i.pattern (omega arith) (rw e at c.loop-i.invariant.1)
