-- `longest_writing::write_longest` meets its contract: one run is all starts, or all starts are listed off the groups.
use mathlib.Core.Path.{ap}
use lib.ListN.{length}
use Rattle.ranks.specs.Ranks.{ranked}
use Rattle.ranks.proofs.Ranked.{length_ranked}
use Rattle.longest_writing.proofs.Writes.{longest_count, starts_longest, listed_written, run_written}
use borrow.Author.Rules.{rules}
use native.Mathlib.Omega.{arith}
use Rattle.longest_writing.proofs.write_longest.Goals as goal

pub write_run-requires : goal.write_run-requires
write_run-requires c =
    (search rules, omega (arith, c.requires.1.fits, c.requires.0, length_ranked c.args.ranks.list.now c.args.s.now))

pub write_starts-requires : goal.write_starts-requires
write_starts-requires c =
    let p = ranked c.args.ranks.list.now c.args.s.now in
    let best = c.requires.1.best in (search rules, search rules, omega (arith, ap length (starts_longest p best), longest_count p best, c.requires.2))

pub returns-then-run-found : goal.returns-then-run-found
returns-then-run-found c =
    run_written (ranked c.args.ranks.list.now c.args.s.now) c.requires.1 c.args.row.now (search rules) c.write_run.ensures.1

pub returns-else-run-found : goal.returns-else-run-found
returns-else-run-found c =
    listed_written (ranked c.args.ranks.list.now c.args.s.now) c.requires.1 c.args.row.now c.write_starts.ensures.1
