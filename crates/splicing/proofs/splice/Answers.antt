-- `splicing::splice` meets its contract: the three parts stand one behind the other.
use Rattle.std.proofs.Common.{arith, rules}
use lib.ListN.{length-take, length-drop}
use Rattle.splicing.proofs.Spliced.{spliced}
use Rattle.words.proofs.Edit.{length_edited}
use Rattle.splicing.proofs.splice.Goals as goal

pub bytes-requires : goal.bytes-requires
bytes-requires c =
    let e = c.args.edit in
    let n = length_edited e.pattern.now e.from e.to e.block.now c.requires.0 c.requires.1 in
    omega (arith, n, length-take e.from e.pattern.now, c.requires.2)

pub bytes-requires-2 : goal.bytes-requires-2
bytes-requires-2 c =
    let e = c.args.edit in
    let n = length_edited e.pattern.now e.from e.to e.block.now c.requires.0 c.requires.1 in
    omega (arith, n, length-take e.from e.pattern.now, c.requires.2)

pub bytes-requires-3 : goal.bytes-requires-3
bytes-requires-3 c =
    let e = c.args.edit in
    let n = length_edited e.pattern.now e.from e.to e.block.now c.requires.0 c.requires.1 in
    simp (length-take, length-drop) (omega (arith, n, length-take e.from e.pattern.now, c.requires.2))

pub returns : goal.returns
returns c =
    let e = c.args.edit in
    let all =
    spliced e.pattern.now e.from e.to e.block.now (omega (arith, c.requires.2)) c.bytes.ensures c.bytes-2.ensures c.bytes-3.ensures in
    search (rules, all.leaves)
