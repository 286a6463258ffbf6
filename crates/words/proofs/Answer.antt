-- An answer to an edit in one record, by which the theorems are stated, and the one that the definitions give. That it meets demand 3, and no
-- other does, is proved in Theorems.
use mathlib.Core.List.{List}
use Prim.Native.Nat.{ℕ}
use lib.ListN.{length}
use Rattle.words.specs.Demand.{DemandThree}
use Rattle.words.specs.Edit.{edited, kept, resume, middle_groups}
use Rattle.words.specs.Factors.{Group}
use Rattle.words.specs.Tables.{longest, longest_starts}

pub record Answer : Type 0 where
  pub kept : ℕ
  pub resume : ℕ
  pub groups : List Group
  pub group_count : ℕ
  pub longest : ℕ
  pub starts : List ℕ
  pub start_count : ℕ

unfoldable pub answer : List ℕ → ℕ → ℕ → List ℕ → Answer
answer s from to b =
    record {
      kept = kept s from to b;
      resume = resume s from to b;
      groups = middle_groups s from to b;
      group_count = length (middle_groups s from to b);
      longest = longest (edited s from to b);
      starts = longest_starts (edited s from to b);
      start_count = length (longest_starts (edited s from to b));
    }

-- demand 3 of an answer
abbrev pub MeetsThree : List ℕ → ℕ → ℕ → List ℕ → Answer → Type 0
MeetsThree s from to b a = DemandThree s from to b a.kept a.resume a.group_count a.longest a.start_count a.groups a.starts
