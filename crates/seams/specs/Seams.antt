-- An edit past the first refusals, and where the parts of its edited pattern meet.
use Rattle.std.specs.Prelude.{List, ◌≡◌, ℕ, ◌≤◌, length, take}
use Rattle.refusals.specs.Refusals.{max_pattern, max_block}
use Rattle.words.specs.Edit.{edited, place, kept, resume}
use Rattle.words.specs.Factors.{factors, start_at}
use Rattle.words.specs.Tables.{lyndon_array, suffix_groups}
use Rattle.longest.specs.Best.{Measures}
use Rattle.seams.specs.declared.Seams.{Seams}
use Rattle.seams.specs.declared.Parts.{Parts}

-- What holds of an edit past the refusals 1 to 5, with its edited pattern t.
pub record Accepted (s array : List ℕ) (from to : ℕ) (b t : List ℕ) : Type 0 where
  pub start : from ≤ to
  pub stretch : to ≤ length s
  pub pattern : length s ≤ max_pattern
  pub block : length b ≤ max_block
  pub table : take (length s) array ≡ lyndon_array s
  pub spliced : t ≡ edited s from to b
  pub fits : length (edited s from to b) ≤ max_pattern

-- Where the three parts of the edited pattern meet.
unfoldable pub plan_of : List ℕ → ℕ → ℕ → List ℕ → Seams
plan_of s from to b =
    record {
      kept = kept s from to b;
      end = start_at (factors s) (kept s from to b);
      resume = resume s from to b;
      place = place from to b (resume s from to b);
    }

-- These seams, the number of groups between them, and the longest Lyndon substrings of the edited pattern t.
pub record Planned (s : List ℕ) (from to : ℕ) (b t : List ℕ) (r : Parts) : Type 0 where
  pub seams : r.seams ≡ plan_of s from to b
  pub groups : r.groups ≡ length (suffix_groups (take r.seams.place t) r.seams.end)
  pub longest : Measures t r.found r.run
