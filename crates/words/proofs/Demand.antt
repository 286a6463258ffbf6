-- The answer to an edit meets demand 3: the parts of `Edit` together, with the middle groups spelled out.
use mathlib.Core.List.{List, ◌++◌}
use mathlib.Core.Path.{◌≡◌, refl, sym, ap, ◌∙◌}
use Prim.Native.Nat.{ℕ, ◌≤◌}
use lib.ListN.{length, take, drop}
use lib.Seq.{drop-append_seam}
use Rattle.words.specs.Factors.{join, factors, groups_from, start_at, spelled}
use Rattle.words.specs.Edit.{edited, kept, resume, middle, middle_groups}
use Rattle.words.proofs.Answer.{answer, MeetsThree}
use Rattle.words.proofs.Factors.{join_factors, join_append}
use Rattle.words.proofs.Substrings.{longest_bound, longest_listed, longest_ascending, longest_some, longest_none}
use Rattle.words.proofs.Edit.{keeps, keeps_most, resumes, resumes_first, middle_exact, middle_bound}
use Rattle.words.proofs.Spelled.{spelled_groups}

module _ (s : List ℕ) (from to : ℕ) (b : List ℕ) (h : from ≤ to) (k : to ≤ length s) where
  -- the middle groups spelled out are the middle
  middle_spelled : spelled (edited s from to b) (middle_groups s from to b) ≡ middle s from to b
  unfolding middle_groups
  middle_spelled =
      let front = take (kept s from to b) (factors s) in
      let rest = middle s from to b ++ factors (drop (resume s from to b) s) in
      let whole : edited s from to b ≡ join front ++ join rest =
      sym (join_factors (edited s from to b)) ∙ ap join (sym (middle_exact s from to b h k)) ∙ join_append front rest in
      spelled_groups (edited s from to b) (length (join front)) (middle s from to b) (factors (drop (resume s from to b) s))
      (ap (drop (length (join front))) whole ∙ drop-append_seam (join front) (join rest))

  middle_grouped : groups_from (start_at (factors s) (kept s from to b)) (middle s from to b) ≡ middle_groups s from to b
  unfolding middle_groups
  middle_grouped = refl

  pub demand_three_lem : MeetsThree s from to b (answer s from to b)
  unfolding answer
  demand_three_lem =
      record {
        bound = middle_bound s from to b h k;
        exactly = rw middle_spelled (middle_exact s from to b h k);
        grouped = sym (ap (groups_from (start_at (factors s) (kept s from to b))) middle_spelled ∙ middle_grouped);
        keeps = keeps s from to b h k;
        most = keeps_most s from to b h k;
        resumes = resumes s from to b h k;
        earliest = resumes_first s from to b h k;
        longest = longest_bound (edited s from to b);
        listed = longest_listed (edited s from to b);
        ascending = longest_ascending (edited s from to b);
        counts_groups = refl;
        counts_starts = refl;
        some = longest_some (edited s from to b);
        none = λ e. rw e longest_none;
      }
