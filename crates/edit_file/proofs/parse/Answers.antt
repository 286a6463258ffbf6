-- `edit_file::parse` meets its contract: the file has its parts where the code cuts it, and in no other places.
use Rattle.edit_file.proofs.Parts.{differ, equal, file_rest, file_end, file_says}
use Rattle.edit_file.proofs.parse.Goals as goal

pub returns-in_err-second : goal.returns-in_err-second
returns-in_err-second c =
    let first = c.in_ok-first.ensures in
    let missing = c.in_err-second.ensures in
    rw c.from_residual-in_err-second.ensures (λ from to f. missing f.second to _ f.to_reads (file_rest first f))

pub returns-then-not-agree : goal.returns-then-not-agree
returns-then-not-agree c =
    λ from to f. differ c.agree.ensures c.if-not-agree.true (file_end c.in_ok-first.ensures c.in_ok-second.ensures f)

pub returns : goal.returns
returns c =
    file_says c.in_ok-first.ensures c.in_ok-second.ensures (equal c.has_header.ensures c.if-not-has_header.false) (equal c.agree.ensures c.if-not-agree.false)
