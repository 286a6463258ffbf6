-- `reach_testing::test_plain` meets its contract: the entries from i on are right.
use mathlib.Core.Path.{◌≡◌, refl}
use lib.ListN.{length}
use Rattle.words.specs.Tables.{longest_at}
use Rattle.words.proofs.Bounded.{true_false}
use Rattle.ranks.specs.Ranks.{ranked}
use Rattle.ranks.proofs.Ranked.{length_ranked}
use Rattle.rows.proofs.Fill.{right_one, right_join}
use Prim.Native.Nat.{◌-◌}
use native.Mathlib.Omega.{arith}
use Rattle.reach_testing.proofs.test_plain.Goals as goal

pub loop-i-init : goal.loop-i-init
loop-i-init c = λ k a b. absurd (omega (arith, length_ranked c.args.ranks.list.now c.args.s.now))

pub merge_at-m-requires : goal.merge_at-m-requires
merge_at-m-requires c =
    let e = length_ranked c.args.ranks.list.now c.args.s.now in
    (omega arith, record { room = omega arith; right = λ k a b. c.loop-i.invariant k (omega arith) b })

pub returns-then-entry-m : goal.returns-then-entry-m
returns-then-entry-m c =
    let e = length_ranked c.args.ranks.list.now c.args.s.now in (
      c.loop-i.i - 1,
      record {
        within = omega arith;
        right = λ q. absurd (true_false refl q);
        differs = λ q. (omega arith, λ f. c.if-entry-m.true (omega (arith, f, c.merge_at-m.ensures, c.entry.ensures)));
      },
    )

pub returns-then-budget-cost : goal.returns-then-budget-cost
returns-then-budget-cost c =
    let i = c.loop-i.i in
    let s = ranked c.args.ranks.list.now c.args.s.now in
    let table = c.args.table.now in
    let e = length_ranked c.args.ranks.list.now c.args.s.now in
    let one = right_one (longest_at s) table (i - 1) i (omega arith) (omega (arith, c.merge_at-m.ensures, c.entry.ensures, c.if-entry-m.false)) in
    let right = right_join (longest_at s) table (i - 1) i (length s) one c.loop-i.invariant in
    record { within = omega arith; right = λ q. record { room = omega arith; right = right }; differs = λ q. absurd (true_false q refl) }

pub returns : goal.returns
returns c =
    let f : c.loop-i.i ≡ 0 = omega arith in
    let e = length_ranked c.args.ranks.list.now c.args.s.now in
    record { within = omega arith; right = λ q. record { room = omega arith; right = rw f at c.loop-i.invariant }; differs = λ q. absurd (true_false q refl) }
