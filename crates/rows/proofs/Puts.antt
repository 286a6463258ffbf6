-- How text goes into a buffer from a place on: byte by byte, and the last byte first.
use mathlib.Core.List.{List, [], ◌∷◌, ◌++◌, append_assoc}
use mathlib.Core.Path.{◌≡◌, refl, sym, ap, ◌∙◌}
use Prim.Native.Nat.{ℕ, suc, ◌+◌, ◌≤◌, ◌<◌}
use native.Mathlib.Numerals.{add-one}
use native.Mathlib.Omega.{arith}
use lib.ListN.{length, take, drop, get_or, set, length-append, length-drop, take-append-drop, drop_of_length-le}
use lib.Seq.{drop-cons, drop-drop, drop_at, length-take-le, set_split, take-set-le}
use Rattle.rows.specs.Row.{written_at}
use Rattle.rows.proofs.Wrote.{Wrote, wrote_one, wrote_room, wrote_all, wrote_count}
use Rattle.rows.specs.Written.{Room, Puts}

-- the buffer while `out` is put into d from place i on: n is the next place, and `rest` is left
abbrev pub Putting : List ℕ → ℕ → List ℕ → List ℕ → ℕ → List ℕ → Type 0
Putting out i d b n rest = Wrote (take i d ++ out) d b n rest

pub putting_none : (out d : List ℕ) (i : ℕ) → Room out i d → Putting out i d d i out
putting_none out d i h =
    let n = length-take-le i d (omega arith) in
    record {
      done = take i d;
      parts = refl;
      size = n;
      room = omega (arith, n, length-append (take i d) out);
      holds = sym (take-append-drop i d);
    }

-- what is left of the bytes goes on at place `next`
module _ {out d b : List ℕ} {next : ℕ} (xs : List ℕ) (k : ℕ) (h : k < length xs) where
  pub byte_room : Wrote out d b next (drop k xs) → next + 1 ≤ length b
  byte_room w = omega (arith, wrote_room w, length-drop k xs)

  pub byte_turn : Wrote out d b next (drop k xs) → Wrote out d (set b next (get_or xs k 0)) (next + 1) (drop (k + 1) xs)
  byte_turn w =
      let e : drop k xs ≡ get_or xs k 0 ∷ drop (k + 1) xs = rw add-one (drop-cons xs k 0 h) in
      wrote_one (rw e at w)

pub bytes_end : (xs : List ℕ) (k : ℕ) → length xs ≤ k → drop k xs ≡ []
bytes_end xs k h = drop_of_length-le xs h

pub putting_all : {out d b : List ℕ} {i n : ℕ} → i ≤ length d → Putting out i d b n [] → Puts out i d b n
putting_all {out} {d} {b} {i} {n} h w =
    let m : length (take i d ++ out) ≡ i + length out = length-append (take i d) out ∙ ap (λ k. k + length out) (length-take-le i d h) in
    record {
      next = wrote_count w ∙ m;
      leaves =
          wrote_all w ∙ append_assoc (take i d) out (drop (length (take i d ++ out)) d)
          ∙ ap (λ u. take i d ++ (out ++ u)) (ap (λ k. drop k d) m ∙ sym (drop-drop (length out) i d));
    }

-- the last byte first
pub written_last : (i : ℕ) (xs : List ℕ) (x : ℕ) (d : List ℕ) → i + length xs < length d
    → written_at i (xs ++ (x ∷ [])) d ≡ written_at i xs (set d (i + length xs) x)
written_last i xs x d h =
    ap (λ u. take i d ++ u) behind ∙ ap (λ u. u ++ (xs ++ drop (length xs) (drop i (set d m x)))) (sym (take-set-le i d m x (omega arith)))
  where
    m : ℕ
    m = i + length xs

    tail : drop m (set d m x) ≡ x ∷ drop (suc m) d
    tail = ap (drop m) (set_split d m x h) ∙ drop_at (take m d) (x ∷ drop (suc m) d) m (length-take-le m d (omega arith))

    behind : (xs ++ (x ∷ [])) ++ drop (length (xs ++ (x ∷ []))) (drop i d) ≡ xs ++ drop (length xs) (drop i (set d m x))
    behind =
        let n : i + length (xs ++ (x ∷ [])) ≡ suc m = omega (arith, length-append xs (x ∷ [])) in
        append_assoc xs (x ∷ []) (drop (length (xs ++ (x ∷ []))) (drop i d))
        ∙ ap (λ u. xs ++ x ∷ u) (drop-drop (length (xs ++ (x ∷ []))) i d ∙ ap (λ k. drop k d) n)
        ∙ ap (λ u. xs ++ u) (sym (drop-drop (length xs) i (set d m x) ∙ tail))
