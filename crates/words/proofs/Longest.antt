-- F6 in the theorem's words: the longest Lyndon substrings of a pattern are exactly its longest factors, at their places.
-- And the word that is reported for a pattern is the first of them.
use mathlib.Core.List.{List, [], ◌∷◌, ◌++◌}
use mathlib.Core.Logic.{◌↔◌}
use mathlib.Core.Path.{◌≡◌, refl, sym, ap, ◌∙◌}
use Prim.Native.Nat.{ℕ, suc, ◌+◌, ◌≤◌, ◌<◌}
use native.Mathlib.Omega.{arith}
use lib.ListN.{length, take, drop, get_or, length-append, length-drop, take-append-drop}
use lib.Seq.{take-append_seam, drop-append_seam, get_or-append_seam, split_at, length-take-le}
use Rattle.words.specs.Factors.{join, factors}
use Rattle.words.specs.Tables.{LyndonAt, longest, longest_starts, longest_word}
use Rattle.words.specs.Demand.{Member}
use Rattle.words.proofs.Factors.{join_append, within, factors_falling, join_factors, falling_right}
use Rattle.words.proofs.Places.{first_member, ascending_first, starts_ascending}
use Rattle.words.proofs.Substrings.{longest_bound, longest_listed, longest_some}

-- a factor of length l starts at i
pub record FactorAt (s : List ℕ) (l i : ℕ) : Type 0 where
  pub factor : ℕ
  pub within : factor < length (factors s)
  pub at : length (join (take factor (factors s))) ≡ i
  pub size : length (get_or (factors s) factor []) ≡ l

module _ (s : List ℕ) (before : List (List ℕ)) (f : List ℕ) (after : List (List ℕ)) (e : factors s ≡ before ++ f ∷ after) where
  parts_factor_at : FactorAt s (length f) (length (join before))
  parts_factor_at =
      let first : take (length before) (factors s) ≡ before = rw e (take-append_seam before (f ∷ after)) in
      let own : get_or (factors s) (length before) [] ≡ f = rw e (get_or-append_seam before f after []) in
      record {
        factor = length before;
        within = omega (arith, ap length e, length-append before (f ∷ after));
        at = ap (λ u. length (join u)) first;
        size = ap length own;
      }

  parts_lyndon_at : LyndonAt s (length f) (length (join before))
  parts_lyndon_at =
      let whole : join before ++ (f ++ join after) ≡ s = sym (join_append before (f ∷ after)) ∙ ap join (sym e) ∙ join_factors s in
      let word : take (length f) (drop (length (join before)) s) ≡ f =
      rw (← whole, drop-append_seam (join before) (f ++ join after)) (take-append_seam f (join after)) in
      record {
        fits = omega (arith, ap length whole, length-append (join before) (f ++ join after), length-append f (join after));
        word = rw word (falling_right before (f ∷ after) (rw e at (factors_falling s))).0;
      }

pub factor_lyndon_at : {s : List ℕ} {l i : ℕ} → FactorAt s l i → LyndonAt s l i
factor_lyndon_at {s} {l} {i} h =
    let fs = factors s in
    rw (h.size, h.at)
    at (parts_lyndon_at s (take h.factor fs) (get_or fs h.factor []) (drop (suc h.factor) fs) (split_at fs h.factor [] h.within))

pub longest_factors : (s : List ℕ) (i : ℕ) → LyndonAt s (longest s) i ↔ FactorAt s (longest s) i
longest_factors s i = (to, factor_lyndon_at)
  where
    to : LyndonAt s (longest s) i → FactorAt s (longest s) i
    to h =
        let l = longest s in
        let y = take l (drop i s) in
        let z = drop l (drop i s) in
        let whole : join (factors s) ≡ take i s ++ (y ++ z) =
        join_factors s ∙ sym (take-append-drop i s) ∙ ap (λ u. take i s ++ u) (sym (take-append-drop l (drop i s))) in
        let w = within (factors s) (factors_falling s) (take i s) y z h.word whole in
        let most = longest_bound s _ _ (parts_lyndon_at s w.before w.factor w.after w.parts) in
        let size : length y ≡ l = length-take-le l (drop i s) (omega (arith, h.fits, length-drop i s)) in
        let inside : length w.factor ≡ length w.left + (length y + length w.right) =
        ap length w.inside ∙ length-append w.left (y ++ w.right) ∙ ap (λ n. length w.left + n) (length-append y w.right) in
        let front : i ≡ length (join w.before) + length w.left =
        sym (length-take-le i s (omega (arith, h.fits))) ∙ ap length w.front ∙ length-append (join w.before) w.left in
        let long : length w.factor ≡ l = omega arith in
        let place : length (join w.before) ≡ i = omega arith in
        rw (long, place) at (parts_factor_at s w.before w.factor w.after w.parts)

pub factor_bound : (s : List ℕ) (k : ℕ) → k < length (factors s) → length (get_or (factors s) k []) ≤ longest s
factor_bound s k h = longest_bound s _ _ (factor_lyndon_at (record { factor = k; within = h; at = refl; size = refl }))

pub longest_factor : (s : List ℕ) → 0 < length s → (i : ℕ) × FactorAt s (longest s) i
longest_factor s h =
    let i = get_or (longest_starts s) 0 0 in
    (i, (longest_factors s i).0 ((longest_listed s i).0 (first_member (longest_starts s) (longest_some s h))))

-- the word reported: the least of the longest starts, and the longest length
pub longest_word_lem : (s : List ℕ) → 0 < length s
    → Member (longest_word s).0 (longest_starts s) × ((i : ℕ) → Member i (longest_starts s) → (longest_word s).0 ≤ i) × ((longest_word s).1 ≡ longest s)
unfolding longest_word longest_starts
longest_word_lem s h = (
  first_member (longest_starts s) (longest_some s h),
  ascending_first (longest_starts s) (starts_ascending s (longest s)),
  refl,
)
