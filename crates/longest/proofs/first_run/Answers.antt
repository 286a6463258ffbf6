-- `longest::first_run` meets its contract: a longer word begins a run of its own.
use mathlib.Core.Path.{refl}
use borrow.Author.Rules.{rules}
use borrow.Author.Tests.{lt-ltb, le-ltb}
use Rattle.longest.proofs.first_run.Goals as goal

pub returns-then-longest-length : goal.returns-then-longest-length
returns-then-longest-length c =
    let a = c.args in
    rw (lt-ltb a.longest a.length (search rules)) refl

pub returns : goal.returns
returns c =
    let a = c.args in
    rw (le-ltb a.longest a.length (search rules)) refl
