-- `reach_compare::beside_anew` meets its contract: where the first symbols differ they say which word is smaller.
use mathlib.Core.Path.{sym, ◌∙◌}
use Prim.Native.Nat.{◌<◌}
use lib.ListN.{length}
use native.Mathlib.Omega.{arith}
use Rattle.ranks.specs.Ranks.{ranked}
use Rattle.ranks.proofs.Ranked.{length_ranked}
use Rattle.memo.proofs.Together.{alike_none}
use Rattle.reach_compare.proofs.Bytes.{below_smaller, below_apart, first_differ}
use Rattle.reach_compare.proofs.beside_anew.Goals as goal

pub returns-then-c-d : goal.returns-then-c-d
returns-then-c-d c =
    let o = c.args.ranks.list.now in
    let s = c.args.s.now in
    let n = c.if-c-d.true in
    let b = c.below in
    let p : c.args.i < length s = omega arith in
    let q : c.args.j < length s = omega arith in
    record {
      agree = alike_none c.args.i c.args.j (omega (arith, length_ranked o s));
      less = below_smaller o s c.args.i c.args.j p q n b.result b.ensures
          ∙ sym (first_differ (ranked o s) c.args.i c.args.j c.args.y c.requires.0 c.requires.1 (rw (length_ranked o s) c.requires.2)
          (below_apart o s c.args.i c.args.j p q n b.result b.ensures));
    }
