-- What the pass over an edited pattern has told of the groups before place i; at the end these are all groups.
use mathlib.Core.List.{List}
use mathlib.Core.Path.{◌≡◌, ap}
use Prim.Native.Nat.{ℕ, ◌+◌, ◌*◌, ◌≤◌}
use native.Mathlib.Nat.{le-mul_of_pos_right}
use native.Mathlib.Omega.{arith}
use lib.ListN.{length}
use Rattle.words.specs.Tables.{groups, suffix_groups}
use Rattle.words.proofs.EditParts.{end_le}
use Rattle.scan.specs.Group.{NextGroup}
use Rattle.scan.proofs.Next.{groups_start, suffix_end}
use Rattle.longest.specs.declared.Longest.{Longest}
use Rattle.longest.specs.Best.{better_of, run_of}
use Rattle.longest.proofs.Seen.{Measured, measured_none, measured_more, measured_all}
use Rattle.cuts.specs.declared.Ends.{Ends}
use Rattle.cuts.specs.Bounds.{ends_with, start_with}
use Rattle.cuts.proofs.Along.{Counted, counted_none, counted_few, counted_more, counted_all}
use Rattle.cuts.proofs.Starts.{Reached, reached_none, reached_more}
use Rattle.seams.specs.Survey.{inside_of, ending_between, Surveyed}
use Rattle.seams.proofs.Between.{inside_most}

-- n of the groups before place i end between the two places
pub record Ended (t : List ℕ) (lo hi n i : ℕ) : Type 0 where
  pub all : n + ending_between lo hi (suffix_groups t i) ≡ ending_between lo hi (groups t)
  pub few : n ≤ i

ended_none : (t : List ℕ) (lo hi : ℕ) → Ended t lo hi 0 0
ended_none t lo hi = record { all = omega (arith, ap (ending_between lo hi) (groups_start t)); few = omega arith }

ended_more : {t : List ℕ} {lo hi n i l e : ℕ} → Ended t lo hi n i → NextGroup t i l e → Ended t lo hi (n + inside_of lo hi (i + e * l)) (i + e * l)
ended_more {t} {lo} {hi} {n} {i} {l} {e} w g =
    record {
      all = omega (arith, w.all, ap (ending_between lo hi) g.group);
      few = omega (arith, w.few, inside_most lo hi (i + e * l), g.some, le-mul_of_pos_right e g.factor);
    }

ended_all : (t : List ℕ) {lo hi n i : ℕ} → Ended t lo hi n i → length t ≤ i → n ≡ ending_between lo hi (groups t)
ended_all t {lo} {hi} {n} {i} w h = omega (arith, w.all, ap (ending_between lo hi) (suffix_end t i h))

pub record Passed (t : List ℕ) (end from q : ℕ) (ends : Ends) (place stored fresh : ℕ) (found : Longest) (run i : ℕ) : Type 0 where
  pub counted : Counted t from i ends
  pub reached : Reached t q i place
  pub since_stored : Ended t end q stored i
  pub since_start : Ended t from q fresh i
  pub measured : Measured t found run i

pub passed_none : (t : List ℕ) (end from q : ℕ)
    → Passed t end from q (record { count = 0; end = 0 }) 0 0 0 (record { start = 0; length = 0; count = 0 }) 0 0
passed_none t end from q =
    record {
      counted = counted_none t from;
      reached = reached_none t q;
      since_stored = ended_none t end q;
      since_start = ended_none t from q;
      measured = measured_none t;
    }

module _ {t : List ℕ} {end from q : ℕ} {ends : Ends} {place stored fresh : ℕ} {found : Longest} {run i : ℕ}
    (w : Passed t end from q ends place stored fresh found run i) where
  module _ {l e : ℕ} (g : NextGroup t i l e) where
    -- no more factors are counted than symbols were passed
    pub passed_few : ends.count + e ≤ i + e * l
    passed_few = omega (arith, counted_few w.counted, le-mul_of_pos_right e g.factor)

    pub passed_more : Passed t end from q (ends_with ends from i l e) (start_with place q i l e) (stored + inside_of end q (i + e * l))
        (fresh + inside_of from q (i + e * l)) (better_of found i l e) (run_of run found.length l e) (i + e * l)
    passed_more =
        record {
          counted = counted_more w.counted g;
          reached = reached_more w.reached g;
          since_stored = ended_more w.since_stored g;
          since_start = ended_more w.since_start g;
          measured = measured_more w.measured g;
        }

  within : i ≤ length t
  within = omega (arith, end_le w.reached.boundary.index t, w.reached.boundary.at)

  pub passed_all : q ≤ length t → length t ≤ i
      → Surveyed t end from q (record { ends = ends; place = place; stored = stored; fresh = fresh; found = found; run = run })
  passed_all k h =
      record {
        ends = counted_all w.counted h;
        next = w.reached.past (omega arith);
        stored = ended_all t w.since_stored h;
        fresh = ended_all t w.since_start h;
        few = (omega (arith, w.since_stored.few, within), omega (arith, w.since_start.few, within));
        longest = measured_all t w.measured h;
      }
