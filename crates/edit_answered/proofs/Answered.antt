-- The call from what the core and the storing ensure: the stored records are the middle groups, so the numbers and the rows are the defined
-- answer, of which demand 3 holds.
use mathlib.Core.Bool.{Bool, true, false, not}
use mathlib.Core.List.{List, [], ◌∷◌, ◌++◌, map}
use mathlib.Core.Logic.{◌⊎◌, inl, inr}
use mathlib.Core.Path.{◌≡◌, refl, sym, ap, subst, ◌∙◌}
use Prim.Native.Nat.{ℕ, zero, suc, ◌*◌, ◌≤◌, ◌<◌}
use native.Mathlib.Omega.{arith}
use lib.ListN.{length, take, drop, length-append, length-map}
use lib.Seq.{take_at, take-append_seam}
use borrow.Author.Tests.{lt-ltb}
use Rattle.edit.proofs.Answers.{done_accepted}
use Rattle.edit.specs.Core.{Answer, Done, counts_of, room_refusals, all_refusals, answer_of}
use Rattle.edit.specs.Inner.{count_of, FillsNumbers}
use Rattle.edit.specs.declared.Counts.{Counts}
use Rattle.edit_refusal.proofs.Passed.{passed_shape}
use Rattle.ranks.proofs.Demand.{demand_three_by}
use Rattle.ranks.proofs.Marks.{order_true}
use Rattle.ranks.proofs.Ranked.{order_ranks}
use Rattle.ranks.specs.Demand.{DemandThreeBy}
use Rattle.ranks.specs.Ranks.{Bytes, is_order, ranked}
use Rattle.records.specs.declared.Group.{Group}
use Rattle.records.specs.Groups.{groups_of, filled}
use Rattle.refusals.specs.Refusals.{edit_refusals, Refusal, first_of, not_order, row_after, too_short}
use Rattle.refusals.proofs.First.{first_holds, first_later, first_passes, first_zero}
use Rattle.rows.specs.Row.{written}
use Rattle.scan.proofs.Pass.{length_numbers}
use Rattle.words.proofs.Answer.{answer}
use Rattle.words.proofs.Bounded.{le_or_lt}
use Rattle.words.proofs.Demand.{demand_three_lem}
use Rattle.words.specs.Demand.{DemandThree}
use Rattle.words.specs.Edit.{edited, kept, resume, middle_groups}
use Rattle.words.specs.Factors as factors
use Rattle.words.specs.Tables.{longest, longest_starts}
use Rattle.edit_answered.specs.Calls.{group_of, record_of, EditAnswered}

-- refusal 13 does not hold, nor one that is tested after it
order_passed : (order : List ℕ) (rs : List Refusal) → first_of (not_order order ∷ rs) ≡ 0 → (is_order order ≡ true) × (first_of rs ≡ 0)
order_passed order rs e = go (is_order order) refl
  where
    go : (t : Bool) → is_order order ≡ t → (is_order order ≡ true) × (first_of rs ≡ 0)
    go true q = (q, sym (first_passes (not_order order) rs (ap not q)) ∙ e)
    go false q = absurd (omega (arith, first_holds (not_order order) rs (ap not q), e))

module _ (s array last : List ℕ) (from to : ℕ) (b : List ℕ) where
  -- where no refusal holds, none of those tested later does
  later_passed : (later : List Refusal) → first_of (edit_refusals s array last from to b ++ later) ≡ 0 → first_of later ≡ 0
  later_passed later e =
      sym (first_later (edit_refusals s array last from to b) later
      (omega arith, (omega arith, (omega arith, (omega arith, (omega arith, (omega arith, tt))))))
      (first_zero (edit_refusals s array last from to b) later e)) ∙ e

  -- demand 3 of the numbers and of what the rows hold
  demand_answered : (later : List Refusal) → first_of (edit_refusals s array last from to b ++ later) ≡ 0 → (groups : List factors.Group) (starts : List ℕ)
      → groups ≡ middle_groups s from to b → (rest : List ℕ) → starts ≡ longest_starts (edited s from to b) ++ rest
      → DemandThree s from to b (kept s from to b) (resume s from to b) (length (middle_groups s from to b)) (longest (edited s from to b))
      (length (longest_starts (edited s from to b))) groups (take (length (longest_starts (edited s from to b))) starts)
  unfolding answer
  demand_answered later e groups starts g rest w =
      let shape = passed_shape s array last from to b {n = 0} (sym (first_zero (edit_refusals s array last from to b) later e)) refl in
      let t : take (length (longest_starts (edited s from to b))) starts ≡ longest_starts (edited s from to b) =
      rw w (take-append_seam (longest_starts (edited s from to b)) rest) in
      rw (g, t) (demand_three_lem s from to b shape.start shape.stretch)

-- the records read off the numbers, and the groups read off the records
records_of : (gs : List factors.Group) (rest : List ℕ) → groups_of (length gs) (factors.group_numbers gs ++ rest) ≡ map record_of gs
records_of [] rest = refl
records_of (g ∷ gs) rest = ap {B = List Group} (λ t. record_of g ∷ t) (records_of gs rest)

groups_of_lem : (gs : List factors.Group) → map group_of (map record_of gs) ≡ gs
groups_of_lem [] = refl
groups_of_lem (g ∷ gs) = ap {B = List factors.Group} (λ t. g ∷ t) (groups_of_lem gs)

-- a row that is not too short
room_passed : (needs room : ℕ) (rs : List Refusal) → first_of (too_short needs room ∷ rs) ≡ 0 → needs ≤ room
room_passed needs room rs e = go (le_or_lt needs room)
  where
    go : (needs ≤ room) ⊎ (room < needs) → needs ≤ room
    go (inl h) = h
    go (inr h) = absurd (omega (arith, first_holds (too_short needs room) rs (lt-ltb room needs h)))

module _ (s order array last : List ℕ) (from to : ℕ) (b : List ℕ) (row : List Group) (ns ns' starts starts' : List ℕ) (r : Answer)
    (f : FillsNumbers (not_order order ∷ all_refusals (ranked order s) array last from to (ranked order b) (length row) (length starts))
    (ranked order s) from to (ranked order b) ns ns' starts starts' r) (n : ℕ) (count : n ≡ count_of r) where
  -- the ranks of the pattern and of the block
  abbrev u : List ℕ
  u = ranked order s

  abbrev v : List ℕ
  v = ranked order b

  abbrev later : List Refusal
  later = all_refusals u array last from to v (length row) (length starts)

  abbrev rs : List Refusal
  rs = not_order order ∷ later

  abbrev gs : List factors.Group
  gs = middle_groups u from to v

  -- no group where the edit is refused, all of them where it is not
  counted : {k : ℕ} → first_of rs ≡ k → n ≡ count_of (answer_of k (counts_of u from to v))
  counted e = count ∙ ap count_of f.answers ∙ ap (λ x. count_of (answer_of x (counts_of u from to v))) e

  all_counted : first_of rs ≡ 0 → n ≡ length gs
  unfolding counts_of
  all_counted e = counted e

  written_numbers : first_of rs ≡ 0 → ns' ≡ written (factors.group_numbers gs) ns
  written_numbers e = f.middle ∙ ap (λ k. row_after k (factors.group_numbers gs) ns) e

  pub row_fits : n ≤ length row
  row_fits = go (first_of rs) refl
    where
      go : (k : ℕ) → first_of rs ≡ k → n ≤ length row
      go zero e =
          let passed = later_passed u array last from to v (room_refusals u from to v (length row) (length starts)) (order_passed order later e).1 in
          omega (arith, all_counted e, room_passed (length gs) (length row) (too_short (length (longest_starts (edited u from to v))) (length starts) ∷ []) passed)
      go (suc k) e = omega (arith, counted e)

  pub numbers_fit : 3 * n ≤ length ns'
  numbers_fit = go (first_of rs) refl
    where
      go : (k : ℕ) → first_of rs ≡ k → 3 * n ≤ length ns'
      go zero e =
          omega (
            arith,
            all_counted e,
            ap length (written_numbers e),
            length-append (factors.group_numbers gs) (drop (length (factors.group_numbers gs)) ns),
            length_numbers gs,
          )
      go (suc k) e = omega (arith, counted e)

  module _ (row' : List Group) (stored : row' ≡ filled n ns' row) where
    -- the row that is left
    stored_after : {k : ℕ} → first_of rs ≡ k → row' ≡ row_after k (map record_of gs) row
    unfolding filled
    stored_after {k} e = go k e
      where
        go : (k : ℕ) → first_of rs ≡ k → row' ≡ row_after k (map record_of gs) row
        go zero q =
            let a : groups_of n ns' ≡ map record_of gs =
            ap (λ m. groups_of m ns') (all_counted q) ∙ ap (groups_of (length gs)) (written_numbers q) ∙ records_of gs (drop (length (factors.group_numbers gs)) ns) in
            stored ∙ ap (λ t. t ++ drop n row) a ∙ ap (λ m. map record_of gs ++ drop m row) (all_counted q ∙ sym (length-map gs record_of))
        go (suc k) q = stored ∙ ap (λ m. groups_of m ns' ++ drop m row) (counted q)

    pub edit_answered : Bytes s → Bytes b → EditAnswered s order array last from to b row row' starts starts' r
    unfolding counts_of
    edit_answered p q = record { fills = record { answers = f.answers; middle = stored_after refl; places = f.places }; demand_three = demand }
      where
        demand : (c : Counts) → r ≡ Done c → DemandThreeBy order s from to b c.kept c.resume c.groups c.length c.starts (map group_of (take c.groups row')) (take c.starts starts')
        demand c e =
            let d = done_accepted (first_of rs) (counts_of u from to v) c (sym f.answers ∙ e) in
            let out = longest_starts (edited u from to v) in
            let passed = order_passed order later d.0 in
            let w : row' ≡ map record_of gs ++ drop (length (map record_of gs)) row = stored_after d.0 in
            let places : starts' ≡ written out starts = f.places ∙ ap (λ k. row_after k out starts) d.0 in
            let t : take (length gs) row' ≡ map record_of gs =
            ap (take (length gs)) w ∙ take_at (map record_of gs) (drop (length (map record_of gs)) row) (length gs) (length-map gs record_of) in
            let g : map group_of (take (length gs) row') ≡ gs = ap (map group_of) t ∙ groups_of_lem gs in
            subst (λ x. DemandThreeBy order s from to b x.kept x.resume x.groups x.length x.starts (map group_of (take x.groups row')) (take x.starts starts')) d.1
            (demand_three_by (order_ranks (order_true order passed.0)) s from to b p q
            (demand_answered u array last from to v (room_refusals u from to v (length row) (length starts)) passed.1
            (map group_of (take (length gs) row')) starts' g (drop (length out) starts) places))
