-- Where the parts of an edited pattern meet, read off the ends and starts of factors around the edit.
use mathlib.Core.Bool.{cond}
use mathlib.Core.List.{List}
use mathlib.Core.Path.{◌≡◌, refl, sym, ap, ◌∙◌}
use Prim.Native.Nat.{ℕ, suc, ◌+◌, ◌-◌, ◌≤◌, ◌<◌, min}
use native.Mathlib.Omega.{arith}
use lib.Dec.{ltb}
use lib.ListN.{length}
use Rattle.cuts.specs.Bounds.{EndsBy, StartsBy}
use Rattle.refusals.specs.Refusals.{max_pattern}
use Rattle.words.specs.Edit.{edited, place, kept, resume}
use Rattle.words.specs.Factors.{join, factors, start_at}
use Rattle.words.proofs.Edit.{length_edited, kept_least, kept_same, resume_factor, resume_is, resume_first}
use Rattle.words.proofs.Factors.{factors_falling}
use Rattle.words.proofs.EditParts.{end_le, end_apart, ending_by, ending_is, starting_by, starting_is}
use Rattle.seams.specs.Seams.{Accepted, plan_of, Planned}
use Rattle.seams.specs.Survey.{Surveyed}
use Rattle.seams.specs.declared.Overview.{Overview}
use Rattle.seams.specs.declared.Seams.{Seams}
use Rattle.seams.proofs.Between.{groups_between}

ends_count : {fs : List (List ℕ)} {q count end : ℕ} → EndsBy fs q count end → ending_by q fs ≡ count
ends_count {fs} {q} {count} e = ending_is q count fs e.within (omega (arith, e.at, e.before)) e.last

starts_at : {fs : List (List ℕ)} {q i : ℕ} → StartsBy fs q i → start_at fs (starting_by q fs) ≡ i
starts_at {fs} {q} e =
    let at = e.boundary in
    ap (start_at fs) (starting_is q at.index fs at.within (λ n. omega (arith, at.at, e.after)) e.first) ∙ at.at

-- a start of a factor is not past the end
pub starts_within : (t : List ℕ) {q i : ℕ} → StartsBy (factors t) q i → i ≤ length t
starts_within t e = omega (arith, end_le e.boundary.index t, e.boundary.at)

seams_same : {k l e f r u p q : ℕ} → k ≡ l → e ≡ f → r ≡ u → p ≡ q
    → ◌≡◌ {A = Seams} (record { kept = k; end = e; resume = r; place = p }) (record { kept = l; end = f; resume = u; place = q })
seams_same a b c d = rw (a, b, c, d) refl

module _ {s array : List ℕ} {from to : ℕ} {b t : List ℕ} (a : Accepted s array from to b t) where
  pub block_within : from + length b ≤ length t
  block_within = omega (arith, ap length a.spliced, length_edited s from to b a.start a.stretch)

  pub edited_short : length t ≤ max_pattern
  edited_short = omega (arith, ap length a.spliced, a.fits)

  pub survey_asks : (from + length b ≤ length t) × (length t ≤ 65535)
  survey_asks = (block_within, omega (arith, edited_short))

  module _ {c e d f p : ℕ} (old : EndsBy (factors s) from c e) (new : EndsBy (factors t) from d f)
      (next : StartsBy (factors t) (from + length b) p) where
    kept_is : kept s from to b ≡ min c d
    kept_is =
        let n = ap (λ u. ending_by from (factors u)) a.spliced in
        omega (arith, kept_least s from to b a.start a.stretch, ends_count old, ends_count new, n)

    start_is : start_at (factors (edited s from to b)) (resume_factor s from to b) ≡ p
    start_is = ap (λ u. start_at (factors u) (starting_by (from + length b) (factors u))) (sym a.spliced) ∙ starts_at next

    resumed : to + (p - (from + length b)) ≡ resume s from to b
    resumed = sym (resume_is s from to b a.start a.stretch ∙ ap (λ n. to + (n - (from + length b))) start_is)

    placed : p ≡ place from to b (resume s from to b)
    placed = sym (resume_first s from to b a.start a.stretch ∙ start_is)

    plan_old : c ≤ d → record { kept = c; end = e; resume = to + (p - (from + length b)); place = p } ≡ plan_of s from to b
    unfolding plan_of
    plan_old h =
        let k : c ≡ kept s from to b = omega (arith, kept_is) in
        seams_same k (sym old.at ∙ ap (start_at (factors s)) k) resumed placed

    plan_new : d < c → record { kept = d; end = f; resume = to + (p - (from + length b)); place = p } ≡ plan_of s from to b
    unfolding plan_of
    plan_new h =
        let k : d ≡ kept s from to b = omega (arith, kept_is) in
        let same = ap (λ fs. length (join fs)) (kept_same s from to b a.start a.stretch) in
        let end = sym new.at ∙ ap (start_at (factors t)) k ∙ ap (λ u. start_at (factors u) (kept s from to b)) a.spliced ∙ sym same in
        seams_same k end resumed placed

    -- where no factor before the edit is lost, the kept ones end where the stored ones do
    kept_ends : c ≤ d → EndsBy (factors t) e c e
    kept_ends h =
        let k : c ≡ kept s from to b = omega (arith, kept_is) in
        let same = ap (λ fs. length (join fs)) (kept_same s from to b a.start a.stretch) in
        let at : start_at (factors t) c ≡ e =
        ap (λ u. start_at (factors u) c) a.spliced ∙ ap (start_at (factors (edited s from to b))) k ∙ sym same ∙ ap (start_at (factors s)) (sym k) ∙ old.at in
        record {
          within = omega (arith, new.within);
          at = at;
          before = omega arith;
          last = λ l. omega (arith, at, end_apart c (suc c) (factors t) (factors_falling t) (omega arith) (omega arith));
        }

  -- the pass was made up to q, the end of the block
  module _ {c e q : ℕ} (ends : q ≡ from + length b) (old : EndsBy (factors s) from c e) {v : Overview} (seen : Surveyed t e from q v) where
    w : Surveyed t e from (from + length b) v
    w = rw ends at seen

    pub planned_old : {n : ℕ} → c ≤ v.ends.count → n ≡ cond (ltb e v.place) (v.stored + 1) 0
        → Planned s from to b t (record {
          seams = record { kept = c; end = e; resume = to + (v.place - q); place = v.place };
          groups = n;
          found = v.found;
          run = v.run;
        })
    planned_old {n} h g =
        rw ends
        (record {
          seams = plan_old old w.ends w.next h;
          groups = g ∙ ap (λ k. cond (ltb e v.place) (k + 1) 0) w.stored ∙ groups_between t (kept_ends old w.ends w.next h) w.next;
          longest = w.longest;
        })

    pub planned_new : {n : ℕ} → v.ends.count < c → n ≡ cond (ltb v.ends.end v.place) (v.fresh + 1) 0
        → Planned s from to b t (record {
          seams = record { kept = v.ends.count; end = v.ends.end; resume = to + (v.place - q); place = v.place };
          groups = n;
          found = v.found;
          run = v.run;
        })
    planned_new {n} h g =
        rw ends
        (record {
          seams = plan_new old w.ends w.next h;
          groups = g ∙ ap (λ k. cond (ltb v.ends.end v.place) (k + 1) 0) w.fresh ∙ groups_between t w.ends w.next;
          longest = w.longest;
        })
