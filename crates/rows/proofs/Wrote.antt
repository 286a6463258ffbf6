-- How a loop writes a result to a row from the front: entry by entry, or part by part.
use mathlib.Core.List.{List, [], ◌∷◌, ◌++◌, append_assoc, append-nil}
use mathlib.Core.Path.{◌≡◌, refl, sym, ap, ◌∙◌}
use Prim.Native.Nat.{ℕ, ◌+◌, ◌≤◌, ◌<◌}
use native.Mathlib.Numerals.{add-one}
use native.Mathlib.Omega.{arith}
use lib.ListN.{length, take, drop, set, length-append, length-drop, take-append-drop}
use lib.Seq.{drop-drop, drop_at, take_at, set_split, length-take-le}
use Rattle.rows.specs.Row.{written, written_at}

-- the row after the first n entries of `out` were written over d; `rest` are the others
pub record Wrote (out d row : List ℕ) (n : ℕ) (rest : List ℕ) : Type 0 where
  pub done : List ℕ
  pub parts : out ≡ done ++ rest
  pub size : length done ≡ n
  pub room : length out ≤ length d
  pub holds : row ≡ done ++ drop n d

module _ {out d row rest : List ℕ} {n : ℕ} where
  pub wrote_length : Wrote out d row n rest → length row ≡ length d
  wrote_length w =
      rw w.holds (length-append w.done (drop n d) ∙ omega (arith, w.size, w.room, length-drop n d, length-append w.done rest, ap length w.parts))

  pub wrote_room : Wrote out d row n rest → n + length rest ≤ length row
  wrote_room w = omega (arith, wrote_length w, w.size, w.room, length-append w.done rest, ap length w.parts)

pub wrote_none : (out d : List ℕ) → length out ≤ length d → Wrote out d d 0 out
wrote_none out d h = record { done = []; parts = refl; size = refl; room = h; holds = refl }

pub wrote_all : {out d row : List ℕ} {n : ℕ} → Wrote out d row n [] → row ≡ written out d
wrote_all {out} {d} {row} {n} w =
    let e : out ≡ w.done = w.parts ∙ append-nil w.done in
    w.holds ∙ rw (e, w.size)

pub wrote_count : {out d row : List ℕ} {n : ℕ} → Wrote out d row n [] → n ≡ length out
wrote_count w = omega (arith, w.size, ap length (w.parts ∙ append-nil w.done))

-- a part that was written at place n of the row
pub wrote_part : {out d row rest : List ℕ} {n : ℕ} (xs : List ℕ) → Wrote out d row n (xs ++ rest)
    → Wrote out d (written_at n xs row) (n + length xs) rest
wrote_part {out} {d} {row} {rest} {n} xs w =
    record {
      done = w.done ++ xs;
      parts = w.parts ∙ sym (append_assoc w.done xs rest);
      size = length-append w.done xs ∙ omega (arith, w.size);
      room = w.room;
      holds = front ∙ sym (append_assoc w.done xs (drop (n + length xs) d));
    }
  where
    front : take n row ++ (xs ++ drop (length xs) (drop n row)) ≡ w.done ++ (xs ++ drop (n + length xs) d)
    front =
        let e : take n row ≡ w.done = ap (take n) w.holds ∙ take_at w.done (drop n d) n w.size in
        let f : drop n row ≡ drop n d = ap (drop n) w.holds ∙ drop_at w.done (drop n d) n w.size in
        rw (e, f, drop-drop (length xs) n d)

-- a result that is written from place `at` on: what stands before it counts as written
pub wrote_from : (at : ℕ) (out d : List ℕ) → at + length out ≤ length d → Wrote (take at d ++ out) d d at out
wrote_from at out d h =
    let n = length-take-le at d (omega arith) in
    record {
      done = take at d;
      parts = refl;
      size = n;
      room = omega (arith, n, length-append (take at d) out);
      holds = sym (take-append-drop at d);
    }

pub wrote_to : (at : ℕ) (out d : List ℕ) {row : List ℕ} {n : ℕ} → at + length out ≤ length d → Wrote (take at d ++ out) d row n []
    → (n ≡ at + length out) × (row ≡ written_at at out d)
wrote_to at out d {row} {n} h w =
    let m = length-take-le at d (omega arith) in
    let l : length (take at d ++ out) ≡ at + length out = omega (arith, m, length-append (take at d) out) in (
      omega (arith, l, w.size, ap length w.parts, length-append w.done []),
      wrote_all w ∙ append_assoc (take at d) out (drop (length (take at d ++ out)) d)
          ∙ ap (λ u. take at d ++ (out ++ u)) (ap (λ k. drop k d) l ∙ sym (drop-drop (length out) at d)),
    )

pub set_written : (row : List ℕ) (n x : ℕ) → n < length row → set row n x ≡ written_at n (x ∷ []) row
set_written row n x h = set_split row n x h ∙ ap (λ t. take n row ++ x ∷ t) (sym (drop-drop 1 n row ∙ ap (λ k. drop k row) (add-one n)))

pub wrote_one : {out d row rest : List ℕ} {n x : ℕ} → Wrote out d row n (x ∷ rest) → Wrote out d (set row n x) (n + 1) rest
wrote_one {out} {d} {row} {rest} {n} {x} w = rw (set_written row n x (omega (arith, wrote_room w))) (wrote_part (x ∷ []) w)
