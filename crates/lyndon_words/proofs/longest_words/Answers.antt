-- `lyndon_words::longest_words` meets its contract: each way out is the outcome of the first refusal that holds, or of none.
use Rattle.std.proofs.Common.{arith, rules}
use Rattle.lyndon_words.proofs.Simple.{starts_short, starts_done}
use Rattle.lyndon_words.proofs.longest_words.Goals as goal

pub returns-then-starts-best : goal.returns-then-starts-best
returns-then-starts-best c =
    let a = c.args in
    let m = c.measure-best in
    starts_short c.in_ok-ranks.ensures.accepted a.pattern.now a.starts.now (λ i h. omega (arith, c.type_inv.pattern i)) (search rules) m.result.found
    m.result.run m.ensures (search rules)

pub returns : goal.returns
returns c =
    let a = c.args in
    let m = c.measure-best in
    starts_done c.in_ok-ranks.ensures.accepted a.pattern.now a.starts.now (λ i h. omega (arith, c.type_inv.pattern i)) (search rules) m.result.found
    m.result.run m.ensures (search rules) c.write_longest.ensures
