use Rattle.std.proofs.Common.{◌≡◌, take, length, sym, ◌∙◌, arith, length-take}
use Rattle.std.proofs.lemmas.Grind.{common_steps}
use lib.Seq.{ext_get_or}
use Rattle.ranks.specs.Ranks.{ranked}
use Rattle.ranks.proofs.Ranked.{length_ranked, get_or_ranked}
use Rattle.order_bytes.proofs.replace_ranks.Goals as goal

pub returns : goal.returns
returns c =
    let o = c.args.bytes.now in
    let d = take c.args.n c.args.row.now in
    let size : length d ≡ c.args.n = omega (arith, length-take c.args.n c.args.row.now) in
    let w = c.loop-x.invariant in
    let long = length_ranked o d in
    let e : c.loop-x.x-items ≡ ranked o d =
    ext_get_or 0 _ _ (w.size ∙ sym long) (λ j l. w.done j (omega (arith, w.size)) ∙ sym (get_or_ranked o d j (omega (arith, w.size)))) in
    grind (arith, common_steps)
