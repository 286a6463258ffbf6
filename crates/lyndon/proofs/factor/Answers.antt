-- `lyndon::factor` meets its contract: each way out is the outcome of the first refusal that holds, or of none; a row whose groups were not counted
-- has room for one to each byte.
use Prim.Native.Nat.{◌*◌, ◌≤◌}
use lib.ListN.{length}
use native.Mathlib.Omega.{arith}
use Rattle.words.specs.Tables.{suffix_groups}
use Rattle.ranks.specs.Ranks.{ranked}
use Rattle.lyndon.proofs.Factoring.{room_counted, room_any, factor_short, factor_done}
use borrow.Author.Rules.{rules}
use Rattle.lyndon.proofs.factor.Goals as goal
use Rattle.lyndon.proofs.factor.Goals.{then-groups-pattern+else-groups-count, else-groups-pattern}

pub returns-then-groups-count : goal.returns-then-groups-count
returns-then-groups-count c =
    factor_short c.in_ok-ranks.ensures.accepted c.args.pattern.now c.args.groups.now
    (λ i h. omega (arith, c.type_inv.pattern i)) (search rules) (search rules)

pub fill_groups-requires : goal.fill_groups-requires
fill_groups-requires c =
    let ranks = c.in_ok-ranks.ranks.list.now in
    let s = c.args.pattern.now in
    let row = c.args.groups.now in
    let room : 3 * length (suffix_groups (ranked ranks s) 0) ≤ length row =
    elim c.if-groups-pattern.branch [
      | then-groups-pattern+else-groups-count w ↦ room_counted ranks s row w.count_groups-count.ensures w.if-groups-count.false
      | else-groups-pattern w ↦ room_any ranks s row w.if-groups-pattern.false
    ] in
    (search rules, search rules, omega (arith, room))

pub returns : goal.returns
returns c =
    let ranks = c.in_ok-ranks.ranks.list.now in
    let s = c.args.pattern.now in
    let row = c.args.groups.now in
    let room : 3 * length (suffix_groups (ranked ranks s) 0) ≤ length row =
    elim c.if-groups-pattern.branch [
      | then-groups-pattern+else-groups-count w ↦ room_counted ranks s row w.count_groups-count.ensures w.if-groups-count.false
      | else-groups-pattern w ↦ room_any ranks s row w.if-groups-pattern.false
    ] in
    factor_done c.in_ok-ranks.ensures.accepted s row (λ i h. omega (arith, c.type_inv.pattern i)) (search rules) room
    c.fill_groups.ensures.0 c.fill_groups.ensures.1
