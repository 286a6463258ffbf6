-- `comparing::agree` meets its contract: strings of different lengths differ, and others are the same where they share all of it.
use mathlib.Core.Path.{sym}
use Rattle.comparing.proofs.Decided.{same_lengths, same_shared}
use borrow.Author.Rules.{rules}
use Rattle.comparing.proofs.agree.Goals as goal

pub returns-then-a-b : goal.returns-then-a-b
returns-then-a-b c =
    let a = c.args in
    sym (same_lengths a.a.now a.b.now (search rules))

pub returns : goal.returns
returns c = same_shared c.shared_bytes.ensures (search rules)
