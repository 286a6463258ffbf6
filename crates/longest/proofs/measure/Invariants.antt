-- `longest::measure` meets its contract: `best` is the longest of the groups that were gone over, and `run` the power of its group.
use mathlib.Core.Path.{◌≡◌}
use lib.ListN.{length}
use Rattle.ranks.specs.Ranks.{ranked}
use Rattle.words.specs.Tables.{suffix_groups}
use Rattle.scan.proofs.Left.{Left}
use Rattle.longest.proofs.Seen.{Measured}
use Rattle.longest.proofs.measure.Given as goal

abbrev pub invariant-loop-g : goal.invariant-loop-g
invariant-loop-g l =
    let s = ranked l.ranks.list.now l.s in
    let it = l.g-iterator in
    (left : Left s (suffix_groups (ranked it.ranks.list.now it.s.now) it.at)) × Measured s l.best l.run left.at × (length s ≡ length l.s)
