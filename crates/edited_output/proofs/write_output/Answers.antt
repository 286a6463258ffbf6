-- `edited_output::write_output` meets its contract: too long a pattern, a malformed edit.csv, or an edit.
use Rattle.edited_output.proofs.Files.{prints_long, prints_malformed, prints_edit}
use borrow.Author.Rules.{rules}
use Rattle.edited_output.proofs.write_output.Goals as goal

pub returns-then-pattern-gt-MAX_PATTERN : goal.returns-then-pattern-gt-MAX_PATTERN
returns-then-pattern-gt-MAX_PATTERN c = prints_long _ _ _ (search rules) c.write_refused.ensures

pub returns-in_default : goal.returns-in_default
returns-in_default c =
    let none = c.in_default.ensures in
    prints_malformed _ _ _ (search rules) none c.write_refused-in_default.ensures

pub returns : goal.returns
returns c =
    let says = c.in-Some.ensures in
    prints_edit _ _ _ (search rules) says c.write_answer.ensures
