-- The start of a factor, as demand 3 says it and as the scan needs it: the first factors end there.
use mathlib.Core.List.{List, [], ◌∷◌, ◌++◌}
use mathlib.Core.Path.{◌≡◌, sym, ap, ◌∙◌}
use Prim.Native.Nat.{ℕ, suc, ◌+◌, ◌<◌}
use native.Mathlib.Omega.{arith}
use lib.ListN.{length, take, drop, get_or, length-append, take-append-drop}
use lib.Seq.{drop-cons, take-append_seam}
use Rattle.words.specs.Factors.{join, factors}
use Rattle.words.specs.Demand.{FactorStart}
use Rattle.words.proofs.Factors.{join_append, join_factors, factors_falling, falling_words}
use Rattle.words.proofs.Tables.{Front}

-- the length of the pattern in two parts of its factors
parts_length : (s : List ℕ) (before after : List (List ℕ)) → factors s ≡ before ++ after
    → length s ≡ length (join before) + length (join after)
parts_length s before after e =
    ap length (sym (join_factors s) ∙ ap join e ∙ join_append before after) ∙ length-append (join before) (join after)

module _ {s : List ℕ} {i : ℕ} where
  pub start_front : FactorStart s i → Front s i
  start_front q =
      record {
        before = take q.index (factors s);
        after = drop q.index (factors s);
        parts = sym (take-append-drop q.index (factors s));
        at = q.at;
      }

  pub start_below : FactorStart s i → i < length s
  start_below q =
      let fs = factors s in
      let f = get_or fs q.index [] in
      let e = ap (λ t. length (join t)) (drop-cons fs q.index [] q.within) ∙ length-append f (join (drop (suc q.index) fs)) in
      omega (
        arith,
        q.at,
        e,
        parts_length s (take q.index fs) (drop q.index fs) (sym (take-append-drop q.index fs)),
        (falling_words fs (factors_falling s) q.index q.within).some,
      )

  pub front_factor : Front s i → i < length s → FactorStart s i
  front_factor d h =
      record {
        index = length d.before;
        within = go d.after d.parts;
        at =
            ap (λ t. length (join (take (length d.before) t))) d.parts
            ∙ ap (λ t. length (join t)) (take-append_seam d.before d.after) ∙ d.at;
      }
    where
      go : (after : List (List ℕ)) → factors s ≡ d.before ++ after → length d.before < length (factors s)
      go [] e = absurd (omega (arith, h, d.at, parts_length s d.before [] e))
      go (f ∷ fs) e = rw e (omega (arith, length-append d.before (f ∷ fs)))
