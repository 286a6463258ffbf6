-- `text_lines::lines_length` meets its contract: what was measured and what is left are all lines.
use mathlib.Core.Path.{◌≡◌}
use Prim.Native.Nat.{◌+◌}
use lib.ListN.{length}
use Rattle.ranks.specs.Ranks.{ranked}
use Rattle.words.specs.Factors.{join}
use Rattle.words.specs.Tables.{suffix_groups}
use Rattle.text.specs.Listing.{lines}
use Rattle.text_lines.specs.Texts.{line_texts}
use Rattle.text_lines.proofs.lines_length.Given as goal

abbrev pub invariant-loop-line : goal.invariant-loop-line
invariant-loop-line l =
    let it = l.line-iterator in
    let left = line_texts it.s.now (suffix_groups (ranked it.ranks.list.now it.s.now) it.at) in
    l.total + length (join left) ≡ length (lines l.s (suffix_groups (ranked l.ranks.list.now l.s) l.from))
