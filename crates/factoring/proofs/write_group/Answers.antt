-- `factoring::write_group` meets its contract: its three numbers stand in the row.
use lib.ListN.{length-set}
use native.Mathlib.Omega.{arith}
use Rattle.factoring.proofs.write_group.Goals as goal

pub bounds-row-at-2 : goal.bounds-row-at-2
bounds-row-at-2 c = simp length-set (omega arith)

pub bounds-row-at-3 : goal.bounds-row-at-3
bounds-row-at-3 c = simp length-set (omega arith)
