-- `rotation::least_start` meets its contract: the pass is at the least start or before it.
use mathlib.Core.Path.{◌≡◌}
use Prim.Native.Nat.{◌≤◌}
use lib.ListN.{length}
use Rattle.ranks.specs.Ranks.{ranked}
use Rattle.words.specs.Rotation.{least_rotation}
use Rattle.words.specs.Tables.{suffix_groups}
use Rattle.scan.proofs.Left.{Left}
use Rattle.rotation.proofs.least_start.Given as goal

abbrev pub invariant-loop-g : goal.invariant-loop-g
invariant-loop-g l =
    let s = ranked l.ranks.list.now l.s in
    let it = l.g-iterator in
    (left : Left s (suffix_groups (ranked it.ranks.list.now it.s.now) it.at)) × (left.at ≤ least_rotation s) × (length s ≡ length l.s)
