-- `edit_file::first_field` meets its contract: a number that the text starts with has all its leading digits, and no others.
use Rattle.edit_file.proofs.Fields.{at_close, closes}
use borrow.Author.Rules.{rules}
use native.Mathlib.Omega.{arith}
use Rattle.edit_file.proofs.first_field.Goals as goal

pub returns-then-count-gt5 : goal.returns-then-count-gt5
returns-then-count-gt5 c =
    λ cs n rest d e. omega (arith, at_close rest c.requires c.leading_digits-count.ensures d e)

pub returns-then-text-count : goal.returns-then-text-count
returns-then-text-count c =
    λ cs n rest d e. omega (arith, at_close rest c.requires c.leading_digits-count.ensures d e)

pub returns-then-text-count-2 : goal.returns-then-text-count-2
returns-then-text-count-2 c =
    λ cs n rest d e. c.if-text-count-2.true (at_close rest c.requires c.leading_digits-count.ensures d e).closed

pub returns : goal.returns
returns c =
    closes c.leading_digits-count.ensures c.args.close (search rules) (search rules) (search rules) (search rules) c.value_of.ensures
