-- What `fill` and `edit_core::core` are stated by: the answer with the groups as numbers.
use Rattle.std.specs.Prelude.{List, ℕ, ◌+◌}
use Rattle.refusals.specs.Refusals.{Refusal, max_pattern, max_block}
use Rattle.words.specs.Edit.{middle_groups, bits}
use Rattle.words.specs.Factors.{group_numbers}
use Rattle.edit.specs.Core.{Answer, Done, Refused, Fills}

-- No accepted edit has more middle groups: demand 3's bound at the limits.
abbrev pub max_middle : ℕ
max_middle = bits max_pattern + max_block + 1

-- A call with these refusals that writes the groups as numbers, three each.
abbrev pub FillsNumbers : List Refusal → List ℕ → ℕ → ℕ → List ℕ → List ℕ → List ℕ → List ℕ → List ℕ → Answer → Type 0
FillsNumbers refusals s from to b numbers numbers' starts starts' r =
    Fills refusals s from to b (group_numbers (middle_groups s from to b)) numbers numbers' starts starts' r

-- How many groups an answer counts.
abbrev pub count_of : Answer → ℕ
count_of (Done c) = c.groups
count_of (Refused k) = 0
