-- What the measuring pass has seen: the longest of the groups before place i. At the end these are all groups of the pattern,
-- and the longest of them is the answer.
use mathlib.Core.List.{List, [], ◌∷◌, ◌++◌, append-nil}
use mathlib.Core.Logic.{◌⊎◌, inl, inr}
use mathlib.Core.Path.{◌≡◌, refl, sym, ap, ◌∙◌}
use Prim.Native.Nat.{ℕ, zero, suc, ◌+◌, ◌*◌, ◌≤◌, ◌<◌}
use native.Mathlib.Nat.{le-mul_of_pos_right}
use native.Mathlib.Omega.{arith}
use lib.ListN.{length, take, get_or, length-append, length-take, get_or-append}
use lib.Seq.{append_snoc, take_all, take-append-le}
use borrow.Author.Tests.{lt-ltb, le-ltb, eq-eqb, ne_eqb}
use Rattle.words.specs.Factors.{Group}
use Rattle.words.specs.Tables.{groups, suffix_groups, longest, longest_starts, longest_word}
use Rattle.words.proofs.Bounded.{le_or_lt}
use Rattle.words.proofs.Order.{ThreeN, smaller_n, equal_n, greater_n, three_n}
use Rattle.words.proofs.Places.{first_member}
use Rattle.words.proofs.Longest.{factor_lyndon_at}
use Rattle.words.proofs.Substrings.{longest_bound, longest_some, longest_none}
use Rattle.scan.specs.Group.{NextGroup}
use Rattle.scan.proofs.Next.{groups_start, suffix_end}
use Rattle.longest.specs.declared.Longest.{Longest}
use Rattle.longest.specs.Best.{longest_of, better_of, run_from, run_of, starts_of, Measures}
use Rattle.longest.proofs.Starts.{starts_append, starts_factors, longest_starts_lem}

abbrev group_of : ℕ → ℕ → ℕ → Group
group_of i l e = record { start = i; size = l; power = e }

pub length_run : (i l e : ℕ) → length (run_from i l e) ≡ e
length_run i l zero = refl
length_run i l (suc e) = ap suc (length_run (i + l) l e)

run_first : (i l e : ℕ) → 0 < e → get_or (run_from i l e) 0 0 ≡ i
run_first i l zero h = absurd (omega arith)
run_first i l (suc e) h = refl

module _ (best : Longest) (i l e : ℕ) where
  pub better_longer : best.length < l → better_of best i l e ≡ record { start = i; length = l; count = e }
  unfolding better_of
  better_longer h = rw (lt-ltb best.length l h)

  pub better_shorter : l < best.length → better_of best i l e ≡ best
  unfolding better_of
  better_shorter h = rw (le-ltb best.length l (omega arith), lt-ltb l best.length h)

  pub better_equal : best.length ≡ l → better_of best i l e ≡ record { start = best.start; length = l; count = best.count + e }
  unfolding better_of
  better_equal h = rw (le-ltb best.length l (omega arith), le-ltb l best.length (omega arith))

-- the longest of some groups: none has longer factors, and it stands for all starts of that length
pub record Seen (best : Longest) (gs : List Group) : Type 0 where
  pub longer : (l : ℕ) → best.length < l → starts_of l gs ≡ []
  pub first : get_or (starts_of best.length gs) 0 0 ≡ best.start
  pub number : length (starts_of best.length gs) ≡ best.count
  pub some : 0 < best.length → 0 < best.count

-- the starts of that length begin with a run of this power
pub record Runs (best : Longest) (run : ℕ) (gs : List Group) : Type 0 where
  pub first : take run (starts_of best.length gs) ≡ run_from best.start best.length run

module _ (gs : List Group) (i l e : ℕ) where
  last_same : starts_of l (gs ++ group_of i l e ∷ []) ≡ starts_of l gs ++ run_from i l e
  last_same = starts_append l gs (group_of i l e ∷ []) ∙ rw (eq-eqb l l refl, append-nil (run_from i l e))

  last_other : (m : ℕ) → (l ≡ m → ⊥) → starts_of m (gs ++ group_of i l e ∷ []) ≡ starts_of m gs
  last_other m h = starts_append m gs (group_of i l e ∷ []) ∙ rw (ne_eqb l m h) (append-nil (starts_of m gs))

  module _ {best : Longest} (w : Seen best gs) (some : 0 < l) (many : 0 < e) where
    seen_longer : best.length < l → Seen (record { start = i; length = l; count = e }) (gs ++ group_of i l e ∷ [])
    seen_longer h =
        let q : starts_of l (gs ++ group_of i l e ∷ []) ≡ run_from i l e = last_same ∙ ap (λ u. u ++ run_from i l e) (w.longer l h) in
        record {
          longer = λ m k. last_other m (λ x. omega arith) ∙ w.longer m (omega arith);
          first = rw q (run_first i l e many);
          number = rw q (length_run i l e);
          some = λ k. many;
        }

    seen_shorter : l < best.length → Seen best (gs ++ group_of i l e ∷ [])
    seen_shorter h =
        let q = last_other best.length (λ x. omega arith) in
        record {
          longer = λ m k. last_other m (λ x. omega arith) ∙ w.longer m k;
          first = rw q w.first;
          number = rw q w.number;
          some = w.some;
        }

    seen_equal : best.length ≡ l → Seen (record { start = best.start; length = l; count = best.count + e }) (gs ++ group_of i l e ∷ [])
    seen_equal h =
        let n : length (starts_of l gs) ≡ best.count = rw h at w.number in
        let f : get_or (starts_of l gs) 0 0 ≡ best.start = rw h at w.first in
        let k : 0 < best.count = w.some (omega arith) in
        record {
          longer = λ m k. last_other m (λ x. omega arith) ∙ w.longer m (omega arith);
          first = rw last_same (get_or-append (starts_of l gs) (run_from i l e) 0 0 (omega arith) ∙ f);
          number = rw last_same (omega (arith, n, length-append (starts_of l gs) (run_from i l e), length_run i l e));
          some = λ k. omega arith;
        }

    pub seen_more : Seen (better_of best i l e) (gs ++ group_of i l e ∷ [])
    seen_more = go (three_n best.length l)
      where
        go : ThreeN best.length l → Seen (better_of best i l e) (gs ++ group_of i l e ∷ [])
        go (smaller_n h) = rw (better_longer best i l e h) (seen_longer h)
        go (equal_n h) = rw (better_equal best i l e h) (seen_equal h)
        go (greater_n h) = rw (better_shorter best i l e h) (seen_shorter h)

    runs_longer : best.length < l → Runs (record { start = i; length = l; count = e }) e (gs ++ group_of i l e ∷ [])
    runs_longer h =
        let q : starts_of l (gs ++ group_of i l e ∷ []) ≡ run_from i l e = last_same ∙ ap (λ u. u ++ run_from i l e) (w.longer l h) in
        record { first = rw q (take_all e (run_from i l e) (omega (arith, length_run i l e))) }

    runs_shorter : {run : ℕ} → Runs best run gs → l < best.length → Runs best run (gs ++ group_of i l e ∷ [])
    runs_shorter {run} r h = record { first = ap (take run) (last_other best.length (λ x. omega arith)) ∙ r.first }

    runs_equal : {run : ℕ} → Runs best run gs → best.length ≡ l
        → Runs (record { start = best.start; length = l; count = best.count + e }) run (gs ++ group_of i l e ∷ [])
    runs_equal {run} r h =
        let f : take run (starts_of l gs) ≡ run_from best.start l run = rw h at r.first in
        let n : run ≤ length (starts_of l gs) =
        omega (arith, ap length f, length-take run (starts_of l gs), length_run best.start l run) in
        record { first = ap (take run) last_same ∙ take-append-le run (starts_of l gs) (run_from i l e) n ∙ f }

    pub runs_more : {run : ℕ} → Runs best run gs → Runs (better_of best i l e) (run_of run best.length l e) (gs ++ group_of i l e ∷ [])
    runs_more {run} r = go (three_n best.length l)
      where
        go : ThreeN best.length l → Runs (better_of best i l e) (run_of run best.length l e) (gs ++ group_of i l e ∷ [])
        go (smaller_n h) = rw (better_longer best i l e h, lt-ltb best.length l h) (runs_longer h)
        go (equal_n h) = rw (better_equal best i l e h, le-ltb best.length l (omega arith)) (runs_equal r h)
        go (greater_n h) = rw (better_shorter best i l e h, le-ltb best.length l (omega arith)) (runs_shorter r h)

longest_empty : (s : List ℕ) → length s ≤ 0 → longest s ≡ 0
longest_empty [] h = longest_none
longest_empty (x ∷ xs) h = absurd (omega arith)

-- the longest of all groups
module _ (s : List ℕ) (best : Longest) (w : Seen best (groups s)) where
  seen_most : best.length ≤ longest s
  seen_most = go (le_or_lt best.length 0)
    where
      go : (best.length ≤ 0) ⊎ (0 < best.length) → best.length ≤ longest s
      go (inl h) = omega arith
      go (inr h) =
          let m = first_member (starts_of best.length (groups s)) (omega (arith, w.number, w.some h)) in
          longest_bound s best.length _ (factor_lyndon_at ((starts_factors s best.length _).0 m))

  seen_least : longest s ≤ best.length
  seen_least = go (le_or_lt (longest s) best.length) (le_or_lt (length s) 0)
    where
      go : (longest s ≤ best.length) ⊎ (best.length < longest s) → (length s ≤ 0) ⊎ (0 < length s) → longest s ≤ best.length
      go (inl h) n = h
      go (inr h) (inl n) = omega (arith, longest_empty s n)
      go (inr h) (inr n) =
          let e : longest_starts s ≡ [] = sym (longest_starts_lem s) ∙ w.longer (longest s) h in
          absurd (omega (arith, ap length e, longest_some s n))

  longest_is : best.length ≡ longest s
  longest_is = omega (arith, seen_most, seen_least)

  pub all_starts : starts_of best.length (groups s) ≡ longest_starts s
  all_starts = ap (λ l. starts_of l (groups s)) longest_is ∙ longest_starts_lem s

  pub seen_all : best ≡ longest_of s
  unfolding longest_of longest_word
  seen_all = rw (← all_starts, ← longest_is, w.first, w.number) refl

pub record Measured (s : List ℕ) (best : Longest) (run i : ℕ) : Type 0 where
  pub before : List Group
  pub parts : groups s ≡ before ++ suffix_groups s i
  pub seen : Seen best before
  pub runs : Runs best run before
  pub fits : best.start + run * best.length ≤ length s
  pub most : best.count ≤ i

pub measured_none : (s : List ℕ) → Measured s (record { start = 0; length = 0; count = 0 }) 0 0
measured_none s =
    record {
      before = [];
      parts = groups_start s;
      seen = record { longer = λ l h. refl; first = refl; number = refl; some = λ h. h };
      runs = record { first = refl };
      fits = omega arith;
      most = omega arith;
    }

module _ {s : List ℕ} {best : Longest} {run i l e : ℕ} (m : Measured s best run i) (g : NextGroup s i l e) where
  -- no more factors are counted than symbols were passed
  pub measured_fits : best.count + e ≤ i + e * l
  measured_fits = omega (arith, m.most, le-mul_of_pos_right e g.factor)

  better_count : (better_of best i l e).count ≤ best.count + e
  better_count = go (three_n best.length l)
    where
      go : ThreeN best.length l → (better_of best i l e).count ≤ best.count + e
      go (smaller_n h) = rw (better_longer best i l e h) (omega arith)
      go (equal_n h) = rw (better_equal best i l e h) (omega arith)
      go (greater_n h) = rw (better_shorter best i l e h) (omega arith)

  run_fits : (better_of best i l e).start + run_of run best.length l e * (better_of best i l e).length ≤ length s
  run_fits = go (three_n best.length l)
    where
      go : ThreeN best.length l → (better_of best i l e).start + run_of run best.length l e * (better_of best i l e).length ≤ length s
      go (smaller_n h) = rw (better_longer best i l e h, lt-ltb best.length l h) g.fits
      go (equal_n h) =
          rw (better_equal best i l e h, le-ltb best.length l (omega arith)) (rw h at m.fits)
      go (greater_n h) = rw (better_shorter best i l e h, le-ltb best.length l (omega arith)) m.fits

  pub measured_more : Measured s (better_of best i l e) (run_of run best.length l e) (i + e * l)
  measured_more =
      record {
        before = m.before ++ group_of i l e ∷ [];
        parts = m.parts ∙ ap (λ u. m.before ++ u) g.group ∙ sym (append_snoc m.before (group_of i l e) (suffix_groups s (i + e * l)));
        seen = seen_more m.before i l e m.seen g.factor g.some;
        runs = runs_more m.before i l e m.seen g.factor g.some m.runs;
        fits = run_fits;
        most = omega (arith, better_count, measured_fits);
      }

pub measured_all : (s : List ℕ) {best : Longest} {run i : ℕ} → Measured s best run i → length s ≤ i → Measures s best run
measured_all s {best} {run} {i} m h =
    let e : groups s ≡ m.before = m.parts ∙ ap (λ u. m.before ++ u) (suffix_end s i h) ∙ append-nil m.before in
    let w : Seen best (groups s) = rw e m.seen in
    record {
      best = seen_all s best w;
      first = ap (take run) (sym (all_starts s best w) ∙ ap (starts_of best.length) e) ∙ m.runs.first;
      fits = m.fits;
    }
