-- `cuts::stored_ends` meets its contract: each turn passes one factor, whose length stands in the table.
use mathlib.Core.Path.{◌≡◌}
use Prim.Native.Nat.{◌-◌, ◌≤◌}
use lib.ListN.{length}
use Rattle.ranks.specs.Ranks.{ranked}
use Rattle.cuts.proofs.Along.{At}
use Rattle.cuts.proofs.stored_ends.Given as goal

abbrev pub invariant-loop-end : goal.invariant-loop-end
invariant-loop-end l = At (ranked l.ranks l.s) l.count l.end × (l.end ≤ l.q) × (length (ranked l.ranks l.s) ≡ length l.s)

abbrev pub decreases-loop-end : goal.decreases-loop-end
decreases-loop-end l = length l.s - l.end
