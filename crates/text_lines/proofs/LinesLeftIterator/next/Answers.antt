-- `next` of the lines meets its contract: at the end no line is left, and before it the line of the group found ahead is the first of those left.
use Rattle.std.proofs.Common.{length, ap, arith}
use Rattle.ranks.specs.Ranks.{ranked}
use Rattle.ranks.proofs.Ranked.{length_ranked}
use Rattle.scan.proofs.Next.{suffix_end}
use Rattle.scan.proofs.Pass.{from_fits, length_fits}
use Rattle.text_lines.specs.Texts.{line_texts}
use Rattle.text_lines.proofs.Lines.{ahead, found_from, line_turn}
use Rattle.text_lines.proofs.LinesLeftIterator.next.Goals as goal

pub returns-then-start-s-clause-steps : goal.returns-then-start-s-clause-steps
returns-then-start-s-clause-steps c =
    let it = c.args.self.now in
    let e = ap (line_texts it.s.now) (suffix_end (ranked it.ranks.list.now it.s.now) it.at (omega (arith, length_ranked it.ranks.list.now it.s.now))) in
    (e, e)

pub overflow_add-end : goal.overflow_add-end
overflow_add-end c =
    let it = c.args.self.now in
    let g = ahead it c.if-start-s.false in
    omega (arith, g.fits, length_fits g, length_ranked it.ranks.list.now it.s.now)

pub overflow_mul-place : goal.overflow_mul-place
overflow_mul-place c =
    let it = c.args.self.now in
    omega (arith, (ahead it c.if-start-s.false).fits, length_ranked it.ranks.list.now it.s.now)

pub overflow_add-place : goal.overflow_add-place
overflow_add-place c =
    let it = c.args.self.now in
    omega (arith, (ahead it c.if-start-s.false).fits, length_ranked it.ranks.list.now it.s.now)

pub shared_length-shared-requires : goal.shared_length-shared-requires
shared_length-shared-requires c =
    let it = c.args.self.now in
    let n = length_ranked it.ranks.list.now it.s.now in
    let g = ahead it c.if-start-s.false in
    (omega (arith, g.fits, n, length_fits g), omega (arith, n, from_fits c.group_from-next.ensures g.fits))

pub invariant_of-self : goal.invariant_of-self
invariant_of-self c =
    let it = c.args.self.now in
    let g = ahead it c.if-start-s.false in
    record { within = omega (arith, g.fits, length_ranked it.ranks.list.now it.s.now); found = found_from c.group_from-next.ensures }

pub returns-clause-steps : goal.returns-clause-steps
returns-clause-steps c =
    let it = c.args.self.now in
    line_turn it.s.now (length_ranked it.ranks.list.now it.s.now) (ahead it c.if-start-s.false) c.group_from-next.ensures c.shared_length-shared.ensures

pub returns-clause-goes : goal.returns-clause-goes
returns-clause-goes c =
    let it = c.args.self.now in
    let n = length_ranked it.ranks.list.now it.s.now in
    let steps = line_turn it.s.now n (ahead it c.if-start-s.false) c.group_from-next.ensures c.shared_length-shared.ensures in
    record { on = λ _. (tt, tt, omega (arith, ap length steps)); keeps = tt; rests = λ _. tt }
