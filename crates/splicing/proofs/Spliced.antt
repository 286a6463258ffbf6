-- The three copies that make the edited pattern, and the row that then holds it.
use mathlib.Core.List.{List, ◌++◌, append_assoc}
use mathlib.Core.Path.{◌≡◌, sym, ap, ◌∙◌}
use Prim.Native.Nat.{ℕ, ◌+◌, ◌-◌, ◌≤◌}
use native.Mathlib.Omega.{arith}
use lib.ListN.{length, take, drop, length-append, length-drop}
use lib.Seq.{take_all, take_at, length-take-le}
use Rattle.rows.specs.Row.{written}
use Rattle.rows.specs.Written.{Fits, Writes}
use Rattle.rows.specs.declared.Writer.{Writer}
use Rattle.rows.proofs.Writing.{writes_then}
use Rattle.words.specs.Edit.{edited}
use Rattle.words.proofs.Edit.{length_edited}

-- the three parts of the edited pattern, one copied behind the other
pub spliced : (s : List ℕ) (from to : ℕ) (b : List ℕ) {w w₁ w₂ w₃ : Writer} → Fits (edited s from to b) w → Writes (take from s) w w₁ → Writes b w₁ w₂
    → Writes (take (length s - to) (drop to s)) w₂ w₃ → Writes (edited s from to b) w w₃
unfolding edited
spliced s from to b fits p q r =
    let n = length-append (take from s) b in
    let m = length-append (take from s) (b ++ drop to s) in
    let k = length-append b (drop to s) in
    let e : (take from s ++ b) ++ take (length s - to) (drop to s) ≡ take from s ++ (b ++ drop to s) =
    append_assoc (take from s) b (take (length s - to) (drop to s))
    ∙ ap (λ u. take from s ++ (b ++ u)) (take_all (length s - to) (drop to s) (omega (arith, length-drop to s))) in
    rw e at (writes_then (writes_then p q (omega (arith, fits, m))) r (omega (arith, fits, n, m, k)))

-- the edited pattern in the front of the row to which it was spliced
module _ (s : List ℕ) (from to : ℕ) (b : List ℕ) (h : from ≤ to) (l : to ≤ length s) (row : List ℕ) {row' : List ℕ}
    (w : row' ≡ written (edited s from to b) row) where
  abbrev m : ℕ
  m = from + length b + (length s - to)

  size : length (edited s from to b) ≡ m
  size = length_edited s from to b h l

  pub spliced_within : m ≤ length row'
  spliced_within = omega (arith, size, ap length w, length-append (edited s from to b) (drop (length (edited s from to b)) row))

  pub spliced_long : m ≡ length (take m row')
  spliced_long = sym (length-take-le m row' spliced_within)

  pub spliced_edited : take m row' ≡ edited s from to b
  spliced_edited = ap (take m) w ∙ take_at (edited s from to b) (drop (length (edited s from to b)) row) m size
