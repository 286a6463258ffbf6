-- `longest::better` meets its contract: the longer of the two, or both.
use Rattle.std.proofs.Common.{sym}
use Rattle.std.proofs.lemmas.Cmp.{ranked}
use Rattle.std.specs.declared.cmp.Ordering.TheVariants.{Less, Equal, Greater}
use Rattle.longest.proofs.Seen.{better_longer, better_shorter, better_equal}
use Rattle.longest.proofs.better.Goals as goal

pub returns-in-Less : goal.returns-in-Less
returns-in-Less c =
    let a = c.args in
    sym (better_longer a.best a.start a.length a.power (ranked a.best.length a.length Less c.in-Less.ensures))

pub returns-in-Equal : goal.returns-in-Equal
returns-in-Equal c =
    let a = c.args in
    sym (better_equal a.best a.start a.length a.power (ranked a.best.length a.length Equal c.in-Equal.ensures))

pub returns-in-Greater : goal.returns-in-Greater
returns-in-Greater c =
    let a = c.args in
    sym (better_shorter a.best a.start a.length a.power (ranked a.best.length a.length Greater c.in-Greater.ensures))
