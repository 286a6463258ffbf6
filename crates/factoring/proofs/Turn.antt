-- One turn of the pass that writes groups: what a row holds once the numbers of the next group are in it.
use mathlib.Core.List.{List}
use mathlib.Core.Path.{◌≡◌}
use Prim.Native.Nat.{ℕ, ◌+◌, ◌*◌}
use lib.ListN.{set}
use Rattle.words.specs.Factors.{group_numbers}
use Rattle.words.specs.Tables.{suffix_groups}
use Rattle.rows.proofs.Wrote.{Wrote}
use Rattle.scan.specs.Group.{NextGroup}
use Rattle.scan.proofs.Pass.{write_turn}

pub group_written : {s out d row row' : List ℕ} {at start size power : ℕ} → NextGroup s start size power → Wrote out d row at (group_numbers (suffix_groups s start))
    → row' ≡ set (set (set row at start) (at + 1) size) (at + 2) power → Wrote out d row' (at + 3) (group_numbers (suffix_groups s (start + power * size)))
group_written g w e = rw e (write_turn g w)
