-- What holds of an edit past the refusals 1 to 5: it is accepted, and the refusals that are tested later decide.
use mathlib.Core.Bool.{false}
use mathlib.Core.List.{List, ◌∷◌, ◌++◌}
use mathlib.Core.Path.{◌≡◌, refl, sym}
use Prim.Native.Nat.{ℕ, zero, suc, ◌<◌}
use native.Mathlib.Omega.{arith}
use lib.ListN.{length}
use Rattle.edit.specs.Core.{Answer, Refused, all_refusals}
use Rattle.edit.specs.Inner.{FillsNumbers}
use Rattle.edit.proofs.Filled.{fills_refused}
use Rattle.edit_refusal.proofs.Passed.{passed_shape, passed_table}
use Rattle.edit_refusal.proofs.Refused.{Shaped}
use Rattle.ranks.specs.Inner.{Handed}
use Rattle.ranks.specs.Ranks.{Bytes, is_order, ranked}
use Rattle.refusals.specs.Answers.{number_of}
use Rattle.refusals.specs.Refusals.{Refusal, first_of, edit_refusals, not_order}
use Rattle.refusals.specs.declared.Refusal as call
use Rattle.refusals.specs.declared.Refusal.TheVariants.{PatternTooLong, PastEnd, BlockTooLong, EditedTooLong, NotTheTable, WordTooLong, NotLyndon, RowTooShort, NotABlock, Repeated, WantedTooLong, NoPattern, NotAnOrder}
use Rattle.refusals.proofs.First.{first_is, first_later, first_earlier, not_order_lem, first_order}
use Rattle.seams.specs.Seams.{Accepted}
use Rattle.words.specs.Edit.{edited}
use Rattle.words.proofs.Edit.{length_edited}

-- no refusal has the number 0
number_some : (e : call.Refusal) → 0 < number_of e
number_some PatternTooLong = omega arith
number_some PastEnd = omega arith
number_some BlockTooLong = omega arith
number_some EditedTooLong = omega arith
number_some NotTheTable = omega arith
number_some WordTooLong = omega arith
number_some NotLyndon = omega arith
number_some RowTooShort = omega arith
number_some NotABlock = omega arith
number_some Repeated = omega arith
number_some WantedTooLong = omega arith
number_some NoPattern = omega arith
number_some NotAnOrder = omega arith

module _ (s array last : List ℕ) (from to : ℕ) (b : List ℕ) where
  -- refused by one of them
  pub fills_first : {later : List Refusal} {numbers starts : List ℕ} (e : call.Refusal) → number_of e ≡ first_of (edit_refusals s array last from to b)
      → FillsNumbers (edit_refusals s array last from to b ++ later) s from to b numbers numbers starts starts (Refused (number_of e))
  fills_first {later} {numbers} {starts} e first = go (number_of e) first (number_some e)
    where
      go : (n : ℕ) → n ≡ first_of (edit_refusals s array last from to b) → 0 < n
          → FillsNumbers (edit_refusals s array last from to b ++ later) s from to b numbers numbers starts starts (Refused n)
      go zero h some = absurd (omega arith)
      go (suc k) h some = fills_refused (first_earlier (edit_refusals s array last from to b) later (sym h))

  -- refused by none of them
  module _ (none : 0 ≡ first_of (edit_refusals s array last from to b)) where
    -- refused or answered by what is tested later
    pub fills_later : {later : List Refusal} {numbers numbers' starts starts' : List ℕ} {r : Answer}
        → FillsNumbers later s from to b numbers numbers' starts starts' r
        → FillsNumbers (edit_refusals s array last from to b ++ later) s from to b numbers numbers' starts starts' r
    fills_later {later} f =
        let same : first_of (edit_refusals s array last from to b ++ later) ≡ first_of later = first_later (edit_refusals s array last from to b) later
        (omega arith, (omega arith, (omega arith, (omega arith, (omega arith, (omega arith, tt)))))) (sym none) in
        record { answers = rw same f.answers; middle = rw same f.middle; places = rw same f.places }

    shape : Shaped s from to b
    shape = passed_shape s array last from to b none refl

    pub passed_accepted : Accepted s array from to b (edited s from to b)
    passed_accepted =
        record {
          start = shape.start;
          stretch = shape.stretch;
          pattern = shape.pattern;
          block = shape.block;
          table = passed_table s array last from to b none refl;
          spliced = refl;
          fits = omega (arith, length_edited s from to b shape.start shape.stretch, shape.fits);
        }

-- refused by 13, or by what is tested after it
pub fills_not_order : (order : List ℕ) {s : List ℕ} {from to : ℕ} {b numbers starts : List ℕ} (later : List Refusal) → is_order order ≡ false
    → FillsNumbers (not_order order ∷ later) s from to b numbers numbers starts starts (Refused 13)
fills_not_order order later e = fills_refused (first_is (not_order_lem order {rs = later} e))

module _ {order ranks : List ℕ} (t : Handed order ranks) {from to : ℕ} {numbers starts : List ℕ} where
  fills_order : {s b : List ℕ} (later : List Refusal) {numbers' starts' : List ℕ} {r : Answer} → FillsNumbers later s from to b numbers numbers' starts starts' r
      → FillsNumbers (not_order order ∷ later) s from to b numbers numbers' starts starts' r
  fills_order later f =
      let same = first_order t later in
      record { answers = rw same f.answers; middle = rw same f.middle; places = rw same f.places }

  -- what the ranks that are handed down give is what the order gives
  pub core_order : (array last : List ℕ) (room : ℕ) (p c : List ℕ) {numbers' starts' : List ℕ} {r : Answer} → Bytes p → Bytes c
      → FillsNumbers (all_refusals (ranked ranks p) array last from to (ranked ranks c) room (length starts))
      (ranked ranks p) from to (ranked ranks c) numbers numbers' starts starts' r
      → FillsNumbers (not_order order ∷ all_refusals (ranked order p) array last from to (ranked order c) room (length starts))
      (ranked order p) from to (ranked order c) numbers numbers' starts starts' r
  core_order array last room p c h l f =
      let u = t.same p h in
      let v = t.same c l in
      fills_order (all_refusals (ranked order p) array last from to (ranked order c) room (length starts)) (rw (u, v) at f)
