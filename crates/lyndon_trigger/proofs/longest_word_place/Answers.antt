-- `lyndon_trigger::longest_word_place` meets its contract: what is measured is the place of the first of the longest words.
use Rattle.std.proofs.Common.{arith, rules}
use Rattle.lyndon_trigger.proofs.Simple.{place_found}
use Rattle.lyndon_trigger.proofs.longest_word_place.Goals as goal

pub returns : goal.returns
returns c =
    let m = c.measure in
    place_found c.in-Ok.ensures.accepted c.args.pattern.now (λ i h. omega (arith, c.type_inv.pattern i)) (search rules) m.result.found m.result.run
    m.ensures
