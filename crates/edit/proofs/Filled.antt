-- What is measured of an edited pattern is what the answer says and what refusal 8 tests, and the rows have room for it.
use mathlib.Core.Bool.{false}
use mathlib.Core.List.{List}
use mathlib.Core.Path.{◌≡◌, refl, sym, ap, ◌∙◌}
use Prim.Native.Nat.{ℕ, suc, ◌+◌, ◌*◌, ◌≤◌, ◌<◌, min}
use native.Mathlib.Omega.{arith}
use lib.Dec.{ltb}
use lib.ListN.{length, take}
use borrow.Author.Tests.{lt-ltb, le-ltb}
use Rattle.refusals.specs.Refusals.{Refusal, first_of, max_pattern, max_block}
use Rattle.rows.specs.Row.{written}
use Rattle.words.specs.Edit.{edited, place, kept, resume, middle_groups, bits}
use Rattle.words.specs.Factors.{join, factors, start_at, group_numbers}
use Rattle.words.specs.Tables.{suffix_groups, longest, longest_starts}
use Rattle.words.proofs.Edit.{resume_factor, kept_same, kept_first, resume_first, middle_bound}
use Rattle.words.proofs.EditParts.{starting_le}
use Rattle.words.proofs.Fresh.{bits_grows}
use Rattle.words.proofs.Middle.{middle_suffix}
use Rattle.longest.specs.Best.{longest_of, Measures}
use Rattle.longest.specs.declared.Longest.{Longest}
use Rattle.seams.proofs.Meets.{edited_short}
use Rattle.edit.specs.Core.{Done, Refused, counts_of, room_refusals}
use Rattle.edit.specs.Inner.{max_middle, FillsNumbers}
use Rattle.edit_rows.specs.Rows.{Between}
use Rattle.seams.specs.Seams.{Accepted, plan_of}
use Rattle.edit.specs.declared.Counts.{Counts}
use Rattle.seams.specs.declared.Seams.{Seams}

module _ {refusals : List Refusal} {s : List ℕ} {from to : ℕ} {b numbers starts : List ℕ} where
  -- a refused call leaves the rows as they were
  pub fills_refused : {k : ℕ} → first_of refusals ≡ suc k → FillsNumbers refusals s from to b numbers numbers starts starts (Refused (suc k))
  fills_refused e = record { answers = rw e refl; middle = rw e refl; places = rw e refl }

  pub fills_done : {numbers' starts' : List ℕ} {c : Counts} → first_of refusals ≡ 0 → c ≡ counts_of s from to b
      → numbers' ≡ written (group_numbers (middle_groups s from to b)) numbers → starts' ≡ written (longest_starts (edited s from to b)) starts
      → FillsNumbers refusals s from to b numbers numbers' starts starts' (Done c)
  fills_done e c m p = record { answers = rw e (ap Done c); middle = rw e m; places = rw e p }

-- the bound of demand 3 at the limits
pub middle_few : (s : List ℕ) (from to : ℕ) (b : List ℕ) → from ≤ to → to ≤ length s → length s ≤ max_pattern → length b ≤ max_block
    → length (middle_groups s from to b) ≤ max_middle
middle_few s from to b h k l m = omega (arith, middle_bound s from to b h k, bits_grows from max_pattern (omega arith))

-- as a number, for the rows of this room
pub max_middle_lem : max_middle ≡ 272
unfolding bits
max_middle_lem = refl

counts_same : {k l r u g h n m x y : ℕ} → k ≡ l → r ≡ u → g ≡ h → n ≡ m → x ≡ y
    → ◌≡◌ {A = Counts} (record { kept = k; resume = r; groups = g; length = n; starts = x })
    (record { kept = l; resume = u; groups = h; length = m; starts = y })
counts_same a b c d e = rw (a, b, c, d, e) refl

module _ {s array : List ℕ} {from to : ℕ} {b t : List ℕ} (a : Accepted s array from to b t) {p : Seams} (e : p ≡ plan_of s from to b) where
  placed : p.place ≡ place from to b (resume s from to b)
  unfolding plan_of
  placed = ap (λ q. q.place) e

  ended : p.end ≡ start_at (factors s) (kept s from to b)
  unfolding plan_of
  ended = ap (λ q. q.end) e

  starts_at : p.place ≡ start_at (factors (edited s from to b)) (resume_factor s from to b)
  starts_at = placed ∙ resume_first s from to b a.start a.stretch

  same_end : start_at (factors s) (kept s from to b) ≡ start_at (factors (edited s from to b)) (kept s from to b)
  same_end = ap (λ fs. length (join fs)) (kept_same s from to b a.start a.stretch)

  resume_within : resume_factor s from to b ≤ length (factors (edited s from to b))
  resume_within = starting_le (from + length b) (factors (edited s from to b))

  pub seams_between : Between t p.end p.place
  seams_between =
      let first = kept_first s from to b a.start a.stretch in
      let here = ap (λ u. factors u) a.spliced in
      record {
        first =
            record {
              index = kept s from to b;
              within = omega (arith, ap length here, first, resume_within);
              at = ap (λ fs. start_at fs (kept s from to b)) here ∙ sym same_end ∙ sym ended;
            };
        second =
            record {
              index = resume_factor s from to b;
              within = omega (arith, ap length here, resume_within);
              at = ap (λ fs. start_at fs (resume_factor s from to b)) here ∙ sym starts_at;
            };
        order = first;
      }

  groups_are : suffix_groups (take p.place t) p.end ≡ middle_groups s from to b
  groups_are = rw (placed, ended, a.spliced) (middle_suffix s from to b a.start a.stretch)

  module _ {n : ℕ} (g : n ≡ length (suffix_groups (take p.place t) p.end)) where
    counted : n ≡ length (middle_groups s from to b)
    counted = g ∙ ap length groups_are

    groups_pass : {room : ℕ} → n ≤ room → ltb room (length (middle_groups s from to b)) ≡ false
    groups_pass {room} h = le-ltb room (length (middle_groups s from to b)) (omega (arith, counted))

    groups_room : {room size : ℕ} → 3 * min room max_middle ≤ size → n ≤ room → 3 * length (suffix_groups (take p.place t) p.end) ≤ size
    groups_room h k = omega (arith, counted, middle_few s from to b a.start a.stretch a.pattern a.block, g)

    pub rows_asks : {found : Longest} {run room size long : ℕ} → Measures t found run → 3 * min room max_middle ≤ size → n ≤ room → found.count ≤ long
        → Between t p.end p.place × Measures t found run × (length t ≤ 65535)
        × (3 * length (suffix_groups (take p.place t) p.end) ≤ size) × (found.count ≤ long)
    rows_asks m h k l = (seams_between, m, omega (arith, edited_short a), groups_room h k, l)

    module _ {found : Longest} (f : found ≡ longest_of t) where
      listed : found.count ≡ length (longest_starts (edited s from to b))
      unfolding longest_of
      listed = ap (λ q. q.count) f ∙ ap (λ u. length (longest_starts u)) a.spliced

      counts_are : record { kept = p.kept; resume = p.resume; groups = n; length = found.length; starts = found.count } ≡ counts_of s from to b
      unfolding counts_of plan_of longest_of
      counts_are =
          let long : found.length ≡ longest (edited s from to b) = ap (λ q. q.length) f ∙ ap longest a.spliced in
          counts_same (ap (λ q. q.kept) e) (ap (λ q. q.resume) e) counted long listed

      module _ {room : ℕ} {numbers starts : List ℕ} where
        pub fills_no_room : room < n → FillsNumbers (room_refusals s from to b room (length starts)) s from to b numbers numbers starts starts (Refused 8)
        fills_no_room h = fills_refused (rw (lt-ltb room (length (middle_groups s from to b)) (omega (arith, counted))) refl)

        pub fills_no_starts : n ≤ room → length starts < found.count
            → FillsNumbers (room_refusals s from to b room (length starts)) s from to b numbers numbers starts starts (Refused 8)
        fills_no_starts h k =
            let long = length (longest_starts (edited s from to b)) in
            fills_refused (rw (groups_pass h, lt-ltb (length starts) long (omega (arith, listed))) refl)

        pub fills_rows : {numbers' starts' : List ℕ} → n ≤ room → found.count ≤ length starts
            → numbers' ≡ written (group_numbers (suffix_groups (take p.place t) p.end)) numbers → starts' ≡ written (longest_starts t) starts
            → FillsNumbers (room_refusals s from to b room (length starts)) s from to b numbers numbers' starts starts'
            (Done (record { kept = p.kept; resume = p.resume; groups = n; length = found.length; starts = found.count }))
        fills_rows h k m q =
            let long = length (longest_starts (edited s from to b)) in
            fills_done (rw (groups_pass h, le-ltb (length starts) long (omega (arith, listed))) refl) counts_are
            (m ∙ ap (λ gs. written (group_numbers gs) numbers) groups_are) (q ∙ ap (λ u. written (longest_starts u) starts) a.spliced)
