-- `edit::fill` meets its contract: what it plans are the answer's numbers, and it writes both rows or neither.
use lib.ListN.{length}
use Rattle.ranks.proofs.Ranked.{length_ranked}
use Rattle.edit.proofs.Filled.{rows_asks, fills_no_room, fills_no_starts, fills_rows}
use native.Mathlib.Omega.{arith}
use Rattle.edit.proofs.fill.Goals as goal

pub returns-then-room-p : goal.returns-then-room-p
returns-then-room-p c =
    let p = c.plan-p.ensures in
    fills_no_room c.requires.0 p.seams p.groups p.longest.best c.if-room-p.true

pub returns-then-starts-found : goal.returns-then-starts-found
returns-then-starts-found c =
    let p = c.plan-p.ensures in
    fills_no_starts c.requires.0 p.seams p.groups p.longest.best (omega arith) (omega arith)

pub write_rows-requires : goal.write_rows-requires
write_rows-requires c =
    let p = c.plan-p.ensures in
    let asks = rows_asks c.requires.0 p.seams p.groups {room = c.args.room} {long = length c.args.starts.now} p.longest c.requires.1 (omega arith) (omega arith) in
    (asks.0, asks.1, omega (arith, asks.2, length_ranked c.args.ranks.list.now c.args.t.now), asks.3, asks.4)

pub returns : goal.returns
returns c =
    let p = c.plan-p.ensures in
    let rows = c.write_rows.ensures in
    fills_rows c.requires.0 p.seams p.groups p.longest.best c.if-room-p.false c.if-starts-found.false rows.0 rows.1
