-- `lyndon_wanted::realise_array` meets its contract: each way out is the outcome of the first refusal that holds, or of none.
use native.Mathlib.Omega.{arith}
use Rattle.ranks.proofs.Marks.{order_true}
use Rattle.lyndon_wanted.proofs.Realised.{wanted_none, wanted_short, wanted_written, wanted_replaced}
use borrow.Author.Rules.{rules}
use Rattle.lyndon_wanted.proofs.realise_array.Goals as goal

pub returns-then-not-nests : goal.returns-then-not-nests
returns-then-not-nests c = wanted_none c.in_ok-ranks.ensures.accepted c.args.wanted.now c.args.pattern.now (search rules) (c.nests.ensures.no c.if-not-nests.true)

pub returns-then-pattern-wanted : goal.returns-then-pattern-wanted
returns-then-pattern-wanted c =
    wanted_short c.in_ok-ranks.ensures.accepted c.args.wanted.now c.args.pattern.now (search rules) (c.nests.ensures.yes c.if-not-nests.false) (search rules)

pub write_symbols-requires : goal.write_symbols-requires
write_symbols-requires c = (search rules, search rules, c.nests.ensures.yes c.if-not-nests.false)

pub bytes_of-bytes-requires : goal.bytes_of-bytes-requires
bytes_of-bytes-requires c = order_true _ c.in_ok-ranks.ensures.accepted.is

pub returns-then-ranks-gt0 : goal.returns-then-ranks-gt0
returns-then-ranks-gt0 c =
    wanted_replaced c.in_ok-ranks.ensures.accepted c.args.wanted.now c.args.pattern.now (search rules) (c.nests.ensures.yes c.if-not-nests.false) (search rules)
    c.bytes_of-bytes.ensures c.write_symbols.ensures c.replace_ranks.ensures

pub returns-else-ranks-gt0 : goal.returns-else-ranks-gt0
returns-else-ranks-gt0 c =
    wanted_written c.in_ok-ranks.ensures.accepted c.args.wanted.now c.args.pattern.now (search rules) (c.nests.ensures.yes c.if-not-nests.false) (search rules)
    (omega arith) c.write_symbols.ensures
