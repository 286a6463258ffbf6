-- `prefix_making_leaps::make_blocks` meets its contract: a word that has just grown takes in greater bytes; else the period goes on.
use Rattle.ranks.proofs.Ranked.{length_ranked}
use native.Mathlib.Omega.{arith}
use Rattle.prefix_making_leaps.proofs.make_blocks.Goals as goal

pub copied_from-back-requires : goal.copied_from-back-requires
copied_from-back-requires c =
    let m = c.requires.2.scan in
    let e = length_ranked c.args.ranks.list.now c.args.s.now in
    (m.some, omega (arith, m.fits, m.ends))
