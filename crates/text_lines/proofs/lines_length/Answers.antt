-- `text_lines::lines_length` meets its contract: what was measured and what is left are all lines.
use Rattle.std.proofs.Common.{◌≡◌, ap, arith, rules, length}
use Rattle.ranks.specs.Ranks.{ranked}
use Rattle.words.specs.Factors.{join}
use Rattle.words.specs.Tables.{suffix_groups}
use Rattle.text_lines.specs.Texts.{line_texts}
use Rattle.text_lines.proofs.Lines.{lines_joined, first_length}
use Rattle.text_lines.proofs.Most.{suffix_most}
use Rattle.text_lines.proofs.lines_length.Goals as goal

pub loop-line-init : goal.loop-line-init
loop-line-init c =
    let a = c.args in
    let gs = suffix_groups (ranked a.ranks.list.now a.s.now) a.from in
    let it = c.into_iter-line-iterator.result in
    let e : line_texts it.s.now (suffix_groups (ranked it.ranks.list.now it.s.now) it.at) ≡ line_texts a.s.now gs = cc in
    omega (arith, ap length (ap join e), ap length (lines_joined a.s.now gs))

pub line_length-total-requires : goal.line_length-total-requires
line_length-total-requires c =
    let a = c.args in
    let e = first_length _ c.in-Some.ensures.steps in
    omega (arith, e, c.loop-line.invariant, suffix_most a.ranks.list.now a.s.now a.from (search rules) (search rules))

pub overflow_add-total : goal.overflow_add-total
overflow_add-total c =
    let a = c.args in
    let e = first_length _ c.in-Some.ensures.steps in
    omega (arith, e, c.loop-line.invariant, suffix_most a.ranks.list.now a.s.now a.from (search rules) (search rules))

pub loop-line-preserved : goal.loop-line-preserved
loop-line-preserved c =
    let e = first_length _ c.in-Some.ensures.steps in
    omega (arith, e, c.loop-line.invariant)

pub returns : goal.returns
returns c =
    let none = ap length (ap join c.in-None.ensures.steps.0) in
    omega (arith, none, c.loop-line.invariant)
