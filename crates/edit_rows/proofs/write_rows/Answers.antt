-- `edit_rows::write_rows` meets its contract: the groups of the middle, and the starts as one run or in three parts.
use Prim.Native.Nat.{◌≤◌}
use lib.ListN.{length, take}
use native.Mathlib.Omega.{arith}
use Rattle.ranks.specs.Ranks.{ranked}
use Rattle.ranks.proofs.Ranked.{length_ranked, ranked_take}
use Rattle.longest_writing.proofs.Writes.{run_written}
use Rattle.edit_rows.proofs.Rows.{bytes_front, bytes_middle, groups_asks, first_asks, middle_asks, last_asks, parts_written}
use borrow.Author.Rules.{rules}
use Rattle.edit_rows.proofs.write_rows.Goals as goal

pub slice_bounds-fill_groups-end : goal.slice_bounds-fill_groups-end
slice_bounds-fill_groups-end c =
    bytes_middle c.args.ranks.list.now c.args.t.now c.requires.0

pub fill_groups-requires : goal.fill_groups-requires
fill_groups-requires c =
    let o = c.args.ranks.list.now in
    let t = c.args.t.now in
    let short : length (ranked o t) ≤ 65535 = omega (arith, c.requires.2, length_ranked o t) in
    let asks = rw (← ranked_take o c.args.place t) at (groups_asks c.requires.0 short c.requires.3) in
    let long = length_ranked o (take c.args.place t) in
    (omega (arith, asks.0, long), omega (arith, asks.1, long), asks.2)

pub write_run-requires : goal.write_run-requires
write_run-requires c =
    (search rules, omega (arith, c.requires.1.fits, c.requires.2, length_ranked c.args.ranks.list.now c.args.t.now))

pub returns-then-run-found : goal.returns-then-run-found
returns-then-run-found c =
    let a = c.args in
    let o = a.ranks.list.now in
    let groups = rw (ranked_take o a.place a.t.now) at c.fill_groups.ensures.1 in
    (groups, run_written (ranked o a.t.now) c.requires.1 a.starts.now (search rules) c.write_run.ensures.1)

pub slice_bounds-write_starts-end : goal.slice_bounds-write_starts-end
slice_bounds-write_starts-end c =
    bytes_front c.args.ranks.list.now c.args.t.now c.requires.0

pub write_starts-a-requires : goal.write_starts-a-requires
write_starts-a-requires c =
    let o = c.args.ranks.list.now in
    let t = c.args.t.now in
    let short : length (ranked o t) ≤ 65535 = omega (arith, c.requires.2, length_ranked o t) in
    let asks = rw (← ranked_take o c.args.end t) at (first_asks c.requires.0 c.requires.1 short c.args.starts.now c.requires.4) in
    let long = length_ranked o (take c.args.end t) in
    (omega (arith, asks.0, long), omega arith, asks.2)

pub slice_bounds-write_middle-end : goal.slice_bounds-write_middle-end
slice_bounds-write_middle-end c =
    bytes_middle c.args.ranks.list.now c.args.t.now c.requires.0

pub write_middle-b-requires : goal.write_middle-b-requires
write_middle-b-requires c =
    let o = c.args.ranks.list.now in
    let t = c.args.t.now in
    let short : length (ranked o t) ≤ 65535 = omega (arith, c.requires.2, length_ranked o t) in
    let first = rw (ranked_take o c.args.end t) at c.write_starts-a.ensures in
    let asks =
    rw (← ranked_take o c.args.place t) at
    (middle_asks c.requires.0 c.requires.1 short c.args.starts.now c.requires.4 first.0 first.1 c.requires.3) in
    let long = length_ranked o (take c.args.place t) in
    (omega (arith, asks.0, long), omega (arith, asks.1, long), asks.2, asks.3)

pub write_starts-requires : goal.write_starts-requires
write_starts-requires c =
    let o = c.args.ranks.list.now in
    let t = c.args.t.now in
    let short : length (ranked o t) ≤ 65535 = omega (arith, c.requires.2, length_ranked o t) in
    let first = rw (ranked_take o c.args.end t) at c.write_starts-a.ensures in
    let middle = rw (ranked_take o c.args.place t) at c.write_middle-b.ensures in
    let asks = last_asks c.requires.0 c.requires.1 short c.args.starts.now c.requires.4 first.0 first.1 middle.next middle.places in
    (c.requires.2, omega (arith, asks.1, length_ranked o t), asks.2)

pub returns : goal.returns
returns c =
    let o = c.args.ranks.list.now in
    let t = c.args.t.now in
    let short : length (ranked o t) ≤ 65535 = omega (arith, c.requires.2, length_ranked o t) in
    let first = rw (ranked_take o c.args.end t) at c.write_starts-a.ensures in
    let middle = rw (ranked_take o c.args.place t) at c.write_middle-b.ensures in (
      middle.groups,
      parts_written c.requires.0 c.requires.1 short c.args.starts.now c.requires.4 first.0 first.1 middle.next middle.places
          c.write_starts.ensures.1,
    )
