-- How a loop writes a result to a row part by part from the back.
use mathlib.Core.List.{List, [], ◌∷◌, ◌++◌, append_assoc, append-nil}
use mathlib.Core.Path.{◌≡◌, refl, sym, ap, ◌∙◌}
use Prim.Native.Nat.{ℕ, suc, ◌+◌, ◌≤◌}
use native.Mathlib.Omega.{arith}
use lib.ListN.{length, take, drop, set, length-append, length-take, length-drop, take-append-drop}
use lib.Seq.{take_at, drop_at, take-take, drop-drop, length-take-le, sets-eq}
use Rattle.rows.specs.Row.{written, written_at}

-- the row after the entries of `out` from place n on were written over d; `rest` are those before them
pub record Back (out d row : List ℕ) (n : ℕ) (rest : List ℕ) : Type 0 where
  pub done : List ℕ
  pub parts : out ≡ rest ++ done
  pub size : length rest ≡ n
  pub room : length out ≤ length d
  pub holds : row ≡ take n d ++ (done ++ drop (length out) d)

pub back_none : (out d : List ℕ) → length out ≤ length d → Back out d d (length out) out
back_none out d h = record { done = []; parts = sym (append-nil out); size = refl; room = h; holds = sym (take-append-drop (length out) d) }

pub back_all : {out d row : List ℕ} {n : ℕ} → Back out d row n [] → row ≡ written out d
back_all {out} {d} {row} {n} w = w.holds ∙ rw (← w.size, ← w.parts)

module _ {out d row rest : List ℕ} {n : ℕ} (w : Back out d row n rest) where
  within : n ≤ length d
  within = omega (arith, w.size, w.room, ap length w.parts, length-append rest w.done)

  pub back_length : length row ≡ length d
  back_length =
      let e = ap length w.parts ∙ length-append rest w.done in
      rw w.holds (simp (length-append, length-take, length-drop) (omega (arith, w.size, w.room)))

  front : take n row ≡ take n d
  front = ap (take n) w.holds ∙ take_at (take n d) (w.done ++ drop (length out) d) n (length-take-le n d within)

  end : drop n row ≡ w.done ++ drop (length out) d
  end = ap (drop n) w.holds ∙ drop_at (take n d) (w.done ++ drop (length out) d) n (length-take-le n d within)

-- a part that was written before place n of the row, from place m on
pub back_part : {out d row rest : List ℕ} {n : ℕ} (xs : List ℕ) (m : ℕ) → m + length xs ≡ n → Back out d row n (rest ++ xs)
    → Back out d (written_at m xs row) m rest
back_part {out} {d} {row} {rest} {n} xs m e w =
    let p : take m row ≡ take m d = sym (take-take m n row (omega arith)) ∙ ap (take m) (front w) ∙ take-take m n d (omega arith) in
    let q : drop (length xs) (drop m row) ≡ w.done ++ drop (length out) d = rw (drop-drop (length xs) m row, e) (end w) in
    record {
      done = xs ++ w.done;
      parts = w.parts ∙ append_assoc rest xs w.done;
      size = omega (arith, w.size, length-append rest xs);
      room = w.room;
      holds = rw (p, q) (ap (λ t. take m d ++ t) (sym (append_assoc xs w.done (drop (length out) d))));
    }

pub three_written : (row : List ℕ) (n x y z : ℕ) → n + 3 ≤ length row → set (set (set row n x) (n + 1) y) (n + 2) z ≡ written_at n (x ∷ y ∷ z ∷ []) row
three_written row n x y z h =
    let p : n + 1 ≡ suc n = omega arith in
    let q : n + 2 ≡ suc (suc n) = omega arith in
    rw (p, q) (sets-eq (x ∷ y ∷ z ∷ []) row n h ∙ append_assoc (take n row) (x ∷ y ∷ z ∷ []) (drop (n + 3) row) ∙ rw (drop-drop 3 n row) refl)
