-- Sixteen entries that stand before a place, copied to it.
use mathlib.Core.List.{List, ◌++◌}
use mathlib.Core.Path.{◌≡◌, ◌∙◌}
use Prim.Native.Nat.{ℕ, ◌+◌, ◌-◌, ◌≤◌}
use native.Mathlib.Omega.{arith}
use lib.ListN.{length, take, drop, get_or, length-append, length-take, length-drop, get_or-append}
use lib.Seq.{get_or-take, get_or-drop, get_or-append-add}
use Rattle.rows.specs.Filled.{Filled}

module _ (d : List ℕ) (at back : ℕ) (h : 16 ≤ back) (l : back ≤ at) (room : at + 16 ≤ length d) where
  abbrev first : List ℕ
  first = take at d

  abbrev block : List ℕ
  block = take 16 (drop (at - back) first)

  abbrev rest : List ℕ
  rest = drop 16 (drop at d)

  first_size : length first ≡ at
  first_size = omega (arith, length-take at d)

  block_size : length block ≡ 16
  block_size = omega (arith, length-take 16 (drop (at - back) first), length-drop (at - back) first, first_size)

  copied : Filled (λ k. get_or d (k - back) 0) (at + 16) d (first ++ (block ++ rest)) at (at + 16)
  copied =
      record {
        size =
            omega (arith, length-append first (block ++ rest), length-append block rest, first_size, block_size, length-drop 16 (drop at d), length-drop at d);
        inside =
            λ k a b.
            let p : length first + (k - at) ≡ k = omega (arith, first_size) in
            let q : at - back + (k - at) ≡ k - back = omega arith in
            rw p at (get_or-append-add first (block ++ rest) (k - at) 0) ∙ get_or-append block rest 0 (k - at) (omega (arith, block_size))
            ∙ get_or-take 16 (drop (at - back) first) (k - at) 0 (omega arith) ∙ get_or-drop (at - back) first (k - at) 0
            ∙ rw q (get_or-take at d (k - back) 0 (omega arith));
        before = λ k a. get_or-append first (block ++ rest) 0 k (omega (arith, first_size)) ∙ get_or-take at d k 0 a;
        past =
            λ k a.
            let p : length first + (k - at) ≡ k = omega (arith, first_size) in
            let q : length block + (k - at - 16) ≡ k - at = omega (arith, block_size) in
            let r : at + (16 + (k - at - 16)) ≡ k = omega arith in
            rw p at (get_or-append-add first (block ++ rest) (k - at) 0) ∙ rw q at (get_or-append-add block rest (k - at - 16) 0)
            ∙ get_or-drop 16 (drop at d) (k - at - 16) 0 ∙ get_or-drop at d (16 + (k - at - 16)) 0 ∙ rw r;
      }

  pub block_copied : {a b x : List ℕ} → a ≡ take at d → b ≡ drop at d → x ≡ take (at - back + 16 - (at - back)) (drop (at - back) a)
      → Filled (λ k. get_or d (k - back) 0) (at + 16) d (a ++ (x ++ drop 16 b)) at (at + 16)
  block_copied p q r =
      let e : at - back + 16 - (at - back) ≡ 16 = omega arith in
      rw (r, e, p, q) copied
