-- Before turn i the row has i groups written from its front.
use Rattle.std.proofs.Common.{◌≡◌}
use Rattle.records.specs.Groups.{filled}
use Rattle.records.proofs.store_all.Given as goal

abbrev pub invariant-loop-i : goal.invariant-loop-i
invariant-loop-i l = l.row ≡ filled l.i l.numbers l.fn.row
