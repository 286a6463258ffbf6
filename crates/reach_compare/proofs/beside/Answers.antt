-- `reach_compare::beside` meets its contract: what is known of the ranks holds of the bytes.
use borrow.Author.Rules.{rules}
use native.Mathlib.Omega.{arith}
use Rattle.agreeing.proofs.Alike.{agrees_less}
use Rattle.reach_compare.proofs.Bytes.{alike_bytes}
use Rattle.reach_compare.proofs.beside.Goals as goal

pub beside_from-requires : goal.beside_from-requires
beside_from-requires c =
    let known = alike_bytes c.args.ranks.list.now c.args.s.now c.args.i c.args.j c.args.ranks.known (λ i h. omega (arith, c.type_inv.s i)) (omega arith) c.requires.3 in
    (search rules, omega arith, agrees_less known _ (omega arith))
