-- `lyndon_trigger::longest_word` meets its contract: the word lies within the pattern, and the part is cut at its place.
use Rattle.std.proofs.Common.{arith}
use Rattle.lyndon_trigger.proofs.Simple.{place_within, word_cut}
use Rattle.lyndon_trigger.proofs.longest_word.Goals as goal

pub overflow_add-result : goal.overflow_add-result
overflow_add-result c =
    let w = c.longest_word_place-word in
    omega (arith, place_within c.args.pattern.now c.args.order.now w.result.start w.result.length w.ensures)

pub slice_bounds-result-end : goal.slice_bounds-result-end
slice_bounds-result-end c =
    let w = c.longest_word_place-word in
    omega (arith, place_within c.args.pattern.now c.args.order.now w.result.start w.result.length w.ensures)

pub returns : goal.returns
returns c =
    let w = c.longest_word_place-word in
    word_cut c.args.pattern.now c.args.order.now w.result.start w.result.length w.ensures c.args.pattern.ref_ptr
