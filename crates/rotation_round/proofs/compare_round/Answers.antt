-- `rotation_round::compare_round` meets its contract: the scan stopped before the end, or the pattern's front decides.
use mathlib.Core.Path.{sym, ◌∙◌}
use lib.Seq.{length-take-le}
use Rattle.ranks.specs.Ranks.{Bytes}
use Rattle.comparing.proofs.Decided.{compared_smaller}
use Rattle.rotation_round.proofs.Bytes.{word_inside, bytes_inside, bytes_differ, bytes_front}
use borrow.Author.Rules.{rules}
use native.Mathlib.Omega.{arith}
use Rattle.rotation_round.proofs.compare_round.Goals as goal

pub returns-then-size-rest : goal.returns-then-size-rest
returns-then-size-rest c =
    bytes_inside c.args.ranks.list.now c.args.s.now c.requires (search rules)

pub slice_bounds-compare-end : goal.slice_bounds-compare-end
slice_bounds-compare-end c =
    sym (length-take-le _ c.args.s.now (omega (arith, word_inside c.args.ranks.list.now c.args.s.now c.requires)))

pub returns-then-shared_length-rest : goal.returns-then-shared_length-rest
returns-then-shared_length-rest c =
    let b : Bytes c.args.s.now = λ i l. omega (arith, c.shared_slice_known-1.given i) in
    bytes_differ c.args.ranks.list.now c.args.s.now c.requires c.args.ranks.known b (search rules) (search rules)

pub returns : goal.returns
returns c =
    let b : Bytes c.args.s.now = λ i l. omega (arith, c.shared_slice_known-1.given i) in
    compared_smaller c.args.ranks.list.now _ _ c.compare.ensures
    ∙ bytes_front c.args.ranks.list.now c.args.s.now c.requires c.args.ranks.known b (search rules) (search rules)
