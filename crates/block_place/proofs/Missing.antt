-- Why bytes are no definite length block, test by test, and why they are one where every test passes.
use mathlib.Core.Bool.{true, false}
use mathlib.Core.List.{List}
use mathlib.Core.Logic.{◌⊎◌, inl, inr}
use mathlib.Core.Path.{◌≡◌, refl, sym, ap, ◌∙◌}
use Prim.Native.Nat.{ℕ, ◌+◌, ◌-◌, ◌≤◌, ◌<◌}
use native.Mathlib.Omega.{arith}
use lib.ListN.{length, take, drop, get_or, length-drop}
use lib.Seq.{length-take-le}
use Rattle.decimal.specs.Decimal.{read, Digits}
use Rattle.decimal.specs.Leading.{Leading}
use Rattle.words.proofs.Bounded.{true_false}
use Rattle.block_parts.specs.Block.{Block, ends_at}
use Rattle.block_parts.specs.Inner.{NoBlock}
use Rattle.block_parts.proofs.Ends.{ends_true, true_ends}
use Rattle.block_parts.proofs.Placed.{Placed, block_placed, placed_block}

-- what the byte after the hash mark must be
pub not_said : {x n c : ℕ} {block : List ℕ} → (x ≡ 48) ⊎ ((x < 48) ⊎ (57 < x)) → get_or block 1 0 ≡ x → Placed block n c → ⊥
not_said (inl e) q p = omega (arith, p.said, p.some)
not_said (inr (inl h)) q p = omega (arith, p.said)
not_said (inr (inr h)) q p = omega (arith, p.said, p.few)

-- the digits as the code cuts them out
abbrev pub field : List ℕ → ℕ → List ℕ
field block n = take (2 + n - 2) (drop 2 block)

field_is : (block : List ℕ) (n : ℕ) → field block n ≡ take n (drop 2 block)
field_is block n =
    let e : 2 + n - 2 ≡ n = omega arith in
    rw e refl

-- with n digits, as the byte after the hash mark says
module _ (block : List ℕ) (n : ℕ) (said : get_or block 1 0 ≡ 48 + n) where
  placed : {place count : ℕ} → Block block place count → Placed block n count
  placed b =
      let p = block_placed b in
      let e : length b.digits ≡ n = omega (arith, p.said) in
      rw e at p

  pub cut_short : length block < 2 + n → NoBlock block
  cut_short h place count b = omega (arith, (placed b).fits)

  module _ (fits : 2 + n ≤ length block) where
    pub length_field : length (field block n) ≡ n
    length_field = ap length (field_is block n) ∙ length-take-le n (drop 2 block) (omega (arith, length-drop 2 block))

    module _ {m : ℕ} (l : Leading (field block n) m) where
      pub not_digits : m < n → NoBlock block
      not_digits h place count b =
          l.stops (rw (field_is block n) ((placed b).numeral m (omega (arith, length_field, ap length (field_is block n)))))

      pub all_digits : n ≤ m → Digits (field block n)
      all_digits h k j = l.digits k (omega (arith, length_field))

  -- with v bytes, as the digits say
  module _ {v : ℕ} (value : v ≡ read (field block n)) where
    placed_value : {place count : ℕ} → Block block place count → Placed block n v
    placed_value b =
        let e = sym (placed b).counts ∙ sym (ap read (field_is block n)) ∙ sym value in
        rw e at (placed b)

    pub not_ended : ends_at (2 + n + v) block ≡ false → NoBlock block
    not_ended e place count b = true_false (true_ends (2 + n + v) block (placed_value b).fits (placed_value b).closes) e

    -- every test passes
    pub ended : get_or block 0 0 ≡ 35 → 1 ≤ n → n ≤ 9 → Digits (field block n) → ends_at (2 + n + v) block ≡ true → Block block (2 + n) v
    ended mark some few numeral e =
        let ends = ends_true (2 + n + v) block e in
        placed_block
        (record {
          mark = mark;
          said = said;
          some = some;
          few = few;
          numeral = rw (field_is block n) at numeral;
          counts = sym (ap read (field_is block n)) ∙ sym value;
          fits = ends.0;
          closes = ends.1;
        })
