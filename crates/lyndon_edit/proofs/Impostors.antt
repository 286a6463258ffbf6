-- Impostors of the call that answers an edit, each by the demand that excludes it; their names say what they do. Those of demand 3 contradict
-- `DemandThreeBy` by itself, those of demand 2 `DemandTwoBy`, and those of demand 1 what the contract says of the first refusal, with any numbers;
-- `contract_three`, `contract_two` and `contract_one` take all of these off the contract. The case is P5 of the trainer's sheet, in byte order: of
-- acbabcabcabac the stretch from 5 to 6 goes and b comes in. A letter stands for its ASCII code.
use mathlib.Core.Bool.{not}
use mathlib.Core.List.{List, [], ◌∷◌, ◌++◌, map}
use mathlib.Core.Path.{◌≡◌, refl, sym, ap, ◌∙◌}
use Prim.Native.Nat.{ℕ, zero, suc, ◌<◌}
use native.Mathlib.Omega.{arith}
use lib.ListN.{length, take, drop, get_or}
use Rattle.edit.specs.Core as call
use Rattle.edit.specs.Core.{Done, Refused, counts_of, answer_of, all_refusals}
use Rattle.edit.specs.declared.Counts.{Counts}
use Rattle.ranks.proofs.Demand.{MeetsThreeBy}
use Rattle.ranks.proofs.Theorems.{order_test, demand_two_by, byte_order_lem, byte_order_ranked, byte_order_factors, byte_order_demand_three}
use Rattle.ranks.proofs.Words.{bytes_edited}
use Rattle.ranks.specs.Demand.{DemandTwoBy}
use Rattle.ranks.specs.Ranks.{Bytes, byte_order, factors_by}
use Rattle.records.specs.declared.Group.{Group}
use Rattle.refusals.specs.Refusals.{first_of, not_order}
use Rattle.refusals.proofs.First.{first_passes}
use Rattle.words.proofs.Answer.{Answer, answer}
use Rattle.words.proofs.Theorems.{demand_three_only}
use Rattle.words.specs.Edit.{edited, kept, kept_of, resume, middle, middle_of, middle_groups, bits}
use Rattle.words.specs.Factors as factors
use Rattle.words.specs.Factors.{join, factors, spelled}
use Rattle.words.specs.Tables.{longest_at, lyndon_array, last_factor, last_factors, lyndon_starts, longest, longest_starts, groups}
use Rattle.edit_answered.specs.Calls.{group_of, EditAnswered}

abbrev a : ℕ
a = 97

abbrev b : ℕ
b = 98

abbrev c : ℕ
c = 99

abbrev stored : List ℕ
stored = a ∷ c ∷ b ∷ a ∷ b ∷ c ∷ a ∷ b ∷ c ∷ a ∷ b ∷ a ∷ c ∷ []

-- the case is of bytes
abbrev Below : List ℕ → Type 0
Below [] = Unit {0}
Below (x ∷ s) = (x < 256) × Below s

bytes : (s : List ℕ) → Below s → Bytes s
bytes [] t i h = absurd (omega (arith, h))
bytes (x ∷ s) t zero h = t.0
bytes (x ∷ s) t (suc i) h = bytes s t.1 i (omega (arith, h))

stored_bytes : Bytes stored
stored_bytes =
    bytes stored (omega arith, (omega arith, (omega arith, (omega arith, (omega arith, (omega arith, (omega arith, (omega arith, (omega arith, (omega arith, (omega arith, (omega arith, (omega arith, tt)))))))))))))

block_bytes_lem : Bytes (b ∷ [])
block_bytes_lem = bytes (b ∷ []) (omega arith, tt)

edited_bytes : Bytes (edited stored 5 6 (b ∷ []))
edited_bytes = bytes_edited stored 5 6 (b ∷ []) stored_bytes block_bytes_lem

-- demand 3 of an answer to the case
abbrev P5 : Answer → Type 0
P5 x = MeetsThreeBy byte_order stored 5 6 (b ∷ []) x

-- the answer that numbers and rows are
abbrev answered : Counts → List Group → List ℕ → Answer
answered n row starts =
    record {
      kept = n.kept;
      resume = n.resume;
      groups = map group_of (take n.groups row);
      group_count = n.groups;
      longest = n.length;
      starts = take n.starts starts;
      start_count = n.starts;
    }

-- the numbers of the right answer, with these groups and starts: kept 1, resume 9, one group, length 6 at one place
abbrev right : List factors.Group → List ℕ → Answer
right groups starts = record { kept = 1; resume = 9; groups = groups; group_count = 1; longest = 6; starts = starts; start_count = 1 }

only_right : (x : Answer) → P5 x → x ≡ right (record { start = 3; size = 6; power = 1 } ∷ []) (3 ∷ [])
unfolding answer factors longest_at lyndon_array last_factor last_factors lyndon_starts longest longest_starts edited kept kept_of resume middle middle_of middle_groups
only_right x d =
    demand_three_only stored 5 6 (b ∷ []) (omega arith) (omega arith) x ((byte_order_demand_three stored 5 6 (b ∷ []) stored_bytes block_bytes_lem x).0 d)

-- what the contract says of an answer that is no refusal: demand 3 of its numbers and of the rows as they are left
pub contract_three : {array last : List ℕ} {row row' : List Group} {starts starts' : List ℕ} (n : Counts)
    → EditAnswered stored byte_order array last 5 6 (b ∷ []) row row' starts starts' (Done n) → P5 (answered n row' starts')
contract_three n h = h.demand_three n refl

-- the factors that an answer reports: the kept ones, the groups spelled out, and those of the stored ending
abbrev reported : Answer → List (List ℕ)
reported x =
    take x.kept (factors_by byte_order stored) ++ (spelled (edited stored 5 6 (b ∷ [])) x.groups ++ factors_by byte_order (drop x.resume stored))

-- and so, by `exactly`, demand 2 of the factors reported
pub contract_two : {array last : List ℕ} {row row' : List Group} {starts starts' : List ℕ} (n : Counts)
    → EditAnswered stored byte_order array last 5 6 (b ∷ []) row row' starts starts' (Done n)
    → DemandTwoBy byte_order (edited stored 5 6 (b ∷ [])) (reported (answered n row' starts'))
contract_two n h = rw (h.demand_three n refl).exactly (demand_two_by byte_order byte_order_lem (edited stored 5 6 (b ∷ [])) edited_bytes)

-- the stored factors are reported: four, where the edited pattern has three (demand 3), and joined they are the stored pattern (demand 2)
pub repeats_the_stored_factors : (x : Answer) → reported x ≡ factors_by byte_order stored → P5 x → ⊥
unfolding edited factors
repeats_the_stored_factors x e d =
    omega (
      arith,
      ap length (sym (byte_order_factors stored stored_bytes) ∙ sym e ∙ d.exactly ∙ byte_order_factors (edited stored 5 6 (b ∷ [])) edited_bytes),
    )

pub stored_factors_repeated : (x : Answer) → reported x ≡ factors_by byte_order stored → DemandTwoBy byte_order (edited stored 5 6 (b ∷ [])) (reported x) → ⊥
unfolding edited factors
stored_factors_repeated x e d = omega (arith, ap (λ s. get_or s 5 0) (sym (ap join (e ∙ byte_order_factors stored stored_bytes)) ∙ d.qualities.joined))

-- demand 3: none is kept; nothing is resumed; and by its bound on the groups, rightly counted, all groups of the edited pattern are spelled out,
-- where an edit of cba at 1 that changes nothing may spell out two
pub keeps_none : (x : Answer) → x.kept ≡ 0 → P5 x → ⊥
keeps_none x e d = omega (arith, ap (λ y. y.kept) (only_right x d), e)

pub resumes_nothing : (x : Answer) → x.resume ≡ length stored → P5 x → ⊥
resumes_nothing x e d = omega (arith, ap (λ y. y.resume) (only_right x d), e)

pub spells_out_everything : (x : Answer) → x.groups ≡ groups (edited (c ∷ b ∷ a ∷ []) 1 1 []) → MeetsThreeBy byte_order (c ∷ b ∷ a ∷ []) 1 1 [] x → ⊥
unfolding bits edited factors groups
spells_out_everything x e d =
    let s = c ∷ b ∷ a ∷ [] in
    let plain = (byte_order_demand_three s 1 1 [] (bytes s (omega arith, (omega arith, (omega arith, tt)))) (bytes [] tt) x).0 d in
    omega (arith, plain.bound, plain.counts_groups, ap length e)

-- demand 3: any other number of groups, or of starts
pub invents_groups : (x : Answer) → (x.group_count ≡ 1 → ⊥) → P5 x → ⊥
invents_groups x h d = h (ap (λ y. y.group_count) (only_right x d))

pub invents_starts : (x : Answer) → (x.start_count ≡ 1 → ⊥) → P5 x → ⊥
invents_starts x h d = h (ap (λ y. y.start_count) (only_right x d))

-- demand 3: a longer length than the longest; and no starts, whatever the length
pub enormous_length : (x : Answer) → 6 < x.longest → P5 x → ⊥
enormous_length x l d = omega (arith, ap (λ y. y.longest) (only_right x d))

pub no_starts : (x : Answer) → x.starts ≡ [] → P5 x → ⊥
no_starts x e d = omega (arith, ap (λ y. length y.starts) (only_right x d), ap length e)

-- demand 3: the numbers are right, and the row of records, or that of starts, holds the zeros that it held before
pub leaves_the_records : (starts' : List ℕ) → P5 (right (map group_of (record { start = 0; length = 0; power = 0 } ∷ [])) starts') → ⊥
leaves_the_records starts' d = omega (arith, ap (λ y. (get_or y.groups 0 zeros).size) (only_right (right (zeros ∷ []) starts') d))
  where
    zeros : factors.Group
    zeros = record { start = 0; size = 0; power = 0 }

pub leaves_the_starts : (row' : List Group) → P5 (right (map group_of (take 1 row')) (0 ∷ [])) → ⊥
leaves_the_starts row' d = omega (arith, ap (λ y. get_or y.starts 0 0) (only_right (right (map group_of (take 1 row')) (0 ∷ [])) d))

-- what the contract answers in byte order
plain_answers : (s array last : List ℕ) (from to : ℕ) (block : List ℕ) {row row' : List Group} {starts starts' : List ℕ} {r : call.Answer}
    → Bytes s → Bytes block → EditAnswered s byte_order array last from to block row row' starts starts' r
    → r ≡ answer_of (first_of (all_refusals s array last from to block (length row) (length starts))) (counts_of s from to block)
plain_answers s array last from to block {row} {starts = starts} p q h =
    rw (byte_order_ranked s p, byte_order_ranked block q) at h.fills.answers
    ∙ ap (λ k. answer_of k (counts_of s from to block))
    (first_passes (not_order byte_order) (all_refusals s array last from to block (length row) (length starts)) (ap not ((order_test byte_order).1 byte_order_lem)))

-- demand 1: what the contract answers with rows of so many records and starts, for the numbers n
abbrev Answers : ℕ → ℕ → Counts → call.Answer → Type 0
Answers room starts n r = r ≡ answer_of (first_of (all_refusals stored (lyndon_array stored) (last_factors stored) 5 6 (b ∷ []) room starts)) n

pub contract_one : (room starts : ℕ) {row row' : List Group} {places places' : List ℕ} {r : call.Answer} → length row ≡ room → length places ≡ starts
    → EditAnswered stored byte_order (lyndon_array stored) (last_factors stored) 5 6 (b ∷ []) row row' places places' r
    → Answers room starts (counts_of stored 5 6 (b ∷ [])) r
contract_one room starts p q h =
    rw (p, q) at (plain_answers stored (lyndon_array stored) (last_factors stored) 5 6 (b ∷ []) stored_bytes block_bytes_lem h)

abbrev accepted : call.Answer → ℕ
accepted (Done n) = 1
accepted (Refused k) = 0

-- the rows are as long as an answer can need: the bound on groups, and a start for each of the thirteen places
pub refuses_every_edit : (number : ℕ) (n : Counts) → Answers 5 13 n (Refused number) → ⊥
unfolding factors longest_at lyndon_array last_factor last_factors lyndon_starts longest longest_starts edited kept kept_of resume middle middle_of middle_groups
refuses_every_edit number n e = omega (arith, ap accepted e)

-- the rows have just the one record and the one start that the result needs; 8 is due where one of them is empty
pub eight_before_measuring : (n : Counts) → Answers 1 1 n (Refused 8) → ⊥
unfolding factors longest_at lyndon_array last_factor last_factors lyndon_starts longest longest_starts edited kept kept_of resume middle middle_of middle_groups
eight_before_measuring n e = omega (arith, ap accepted e)

pub eight_due : (n : Counts) → Answers 0 1 n (Refused 8) × Answers 1 0 n (Refused 8)
unfolding factors longest_at lyndon_array last_factor last_factors lyndon_starts longest longest_starts edited kept kept_of resume middle middle_of middle_groups
eight_due n = (refl, refl)
