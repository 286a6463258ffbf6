-- What the call that answers an edit promises, for every input: the answer and both rows by their definitions, and of the same answer
-- demand 3, read off the numbers answered and the rows as they are left.
use Rattle.std.specs.Prelude.{List, ◌∷◌, map, ◌≡◌, ℕ, length, take}
use Rattle.edit.specs.Core.{Answer, Done, all_refusals, Fills}
use Rattle.edit.specs.declared.Counts.{Counts}
use Rattle.refusals.specs.Refusals.{not_order}
use Rattle.records.specs.declared.Group.{Group}
use Rattle.ranks.specs.Demand.{DemandThreeBy}
use Rattle.ranks.specs.Ranks.{ranked}
use Rattle.words.specs.Edit as words
use Rattle.words.specs.Factors as factors

-- A record as a group, and a group as a record.
abbrev pub group_of : Group → factors.Group
group_of g = record { start = g.start; size = g.length; power = g.power }

abbrev pub record_of : factors.Group → Group
record_of g = record { start = g.start; length = g.size; power = g.power }

-- edit: what the edit of the ranks answers
pub record EditAnswered (s order array last : List ℕ) (from to : ℕ) (b : List ℕ) (row row' : List Group) (starts starts' : List ℕ) (r : Answer) : Type 0 where
  pub fills : Fills (not_order order ∷ all_refusals (ranked order s) array last from to (ranked order b) (length row) (length starts))
      (ranked order s) from to (ranked order b) (map record_of (words.middle_groups (ranked order s) from to (ranked order b))) row row' starts starts' r
  pub demand_three : (c : Counts) → r ≡ Done c → DemandThreeBy order s from to b c.kept c.resume c.groups c.length c.starts (map group_of (take c.groups row')) (take c.starts starts')
