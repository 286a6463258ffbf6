-- The test of a definite length block: it holds exactly where the bytes stand in their places.
use mathlib.Core.Bool.{Bool, true, false, ◌&&◌}
use mathlib.Core.List.{List, [], ◌∷◌}
use mathlib.Core.Logic.{◌⊎◌, inl, inr}
use mathlib.Core.Path.{◌≡◌, refl, sym, ap, ◌∙◌}
use Prim.Native.Nat.{ℕ, ◌+◌, ◌≤◌}
use native.Mathlib.Omega.{arith}
use borrow.Author.Tests.{leb-true, le-leb}
use lib.Dec.{leb}
use lib.ListN.{length, take, drop, get_or, length-take, length-drop}
use lib.Seq.{drop-cons, length-take-le}
use Rattle.decimal.specs.Decimal.{codes, Digit}
use Rattle.words.specs.Bounded.{every}
use Rattle.words.specs.Order.{same}
use Rattle.words.proofs.Bounded.{and_true, true_or_false, every_true, true_every}
use Rattle.words.proofs.Order.{same_true, true_same}
use Rattle.block_parts.specs.Block.{Block, digits_said, count_digits, bytes_place, bytes_count, block_bytes, digit, headed, ends_at, is_block}
use Rattle.block_parts.specs.Inner.{NoBlock}
use Rattle.block_parts.proofs.Ends.{true_and, ends_true, true_ends}
use Rattle.block_parts.proofs.Placed.{Placed, block_placed, block_digits, block_bytes_lem, block_close, placed_block}

-- a digit
digit_true : (c : ℕ) → digit c ≡ true → Digit c
digit_true c e =
    let p = and_true _ _ e in
    let low = leb-true _ c p.0 in
    let high = leb-true c _ p.1 in
    (omega arith, omega arith)

true_digit : (c : ℕ) → Digit c → digit c ≡ true
true_digit c d = true_and (le-leb _ c (omega (arith, d.0))) (le-leb c _ (omega (arith, d.1)))

module _ (block : List ℕ) where
  abbrev n : ℕ
  n = digits_said block

  abbrev c : ℕ
  c = bytes_count block

  abbrev test : ℕ → Bool
  test k = digit (get_or (count_digits block) k 0)

  abbrev marked : Bool
  marked = same (take 1 block) (codes "#")

  pub test_placed : is_block block ≡ true → Placed block n c
  unfolding is_block bytes_place bytes_count
  test_placed e =
      let p = and_true (headed block) (ends_at (2 + n + c) block) e in
      let q = ends_true (2 + n + c) block p.1 in
      let h = and_true (marked && leb 1 n && leb n 9) (every test n) p.0 in
      let f = and_true (marked && leb 1 n) (leb n 9) h.0 in
      let m = and_true marked (leb 1 n) f.0 in
      let some : 1 ≤ n = leb-true 1 n m.1 in
      let fits = q.0 in
      record {
        mark = ap (λ u. get_or u 0 0) (sym (ap (take 1) (drop-cons block 0 0 (omega arith))) ∙ same_true (take 1 block) (codes "#") m.0);
        said = omega arith;
        some = some;
        few = leb-true n 9 f.1;
        numeral =
            λ k l. digit_true (get_or (count_digits block) k 0) (every_true test n h.1 k (omega (arith, length-take n (drop 2 block))));
        counts = refl;
        fits = fits;
        closes = q.1;
      }

  pub placed_said : {m d : ℕ} → Placed block m d → n ≡ m
  placed_said p = omega (arith, p.said)

  pub placed_count : {m d : ℕ} → Placed block m d → c ≡ d
  unfolding bytes_count
  placed_count p = rw (placed_said p) p.counts

  pub placed_test : {m d : ℕ} → Placed block m d → is_block block ≡ true
  unfolding is_block bytes_place bytes_count
  placed_test {m} {d} p =
      let e = placed_said p in
      let s : length (take m (drop 2 block)) ≡ m = length-take-le m (drop 2 block) (omega (arith, p.fits, length-drop 2 block)) in
      rw (e, p.counts)
      (true_and
      (true_and
      (true_and
      (true_and (true_same (take 1 block) (codes "#") (ap (take 1) (drop-cons block 0 0 (omega (arith, p.fits))) ∙ ap (λ u. u ∷ []) p.mark)) (le-leb 1 m p.some))
      (le-leb m 9 p.few))
      (true_every (λ k. digit (get_or (take m (drop 2 block)) k 0)) m (λ k l. true_digit (get_or (take m (drop 2 block)) k 0) (p.numeral k (omega (arith, s))))))
      (true_ends (2 + m + d) block p.fits p.closes))

-- the test and the parts
pub test_block : (block : List ℕ) → is_block block ≡ true → Block block (bytes_place block) (bytes_count block)
unfolding bytes_place
test_block block e = placed_block (test_placed block e)

module _ {block : List ℕ} {place count : ℕ} (b : Block block place count) where
  pub block_test : is_block block ≡ true
  block_test = placed_test block (block_placed b)

  pub block_place : bytes_place block ≡ place
  unfolding bytes_place
  block_place = ap (λ n. 2 + n) (placed_said block (block_placed b)) ∙ sym b.behind

  pub block_count : bytes_count block ≡ count
  block_count = placed_count block (block_placed b)

  pub block_holds : block_bytes block ≡ b.bytes
  unfolding block_bytes
  block_holds = rw (block_place, block_count) (block_bytes_lem b)

  pub block_counts : count_digits block ≡ b.digits
  block_counts = ap (λ n. take n (drop 2 block)) (placed_said block (block_placed b)) ∙ block_digits b

  pub block_ends : drop (bytes_place block + bytes_count block) block ≡ b.close
  block_ends = rw (block_place, block_count, b.behind) (block_close b)

pub no_block : {block : List ℕ} → NoBlock block → is_block block ≡ false
no_block {block} h = go (true_or_false (is_block block))
  where
    go : (is_block block ≡ true) ⊎ (is_block block ≡ false) → is_block block ≡ false
    go (inl e) = absurd (h (bytes_place block) (bytes_count block) (test_block block e))
    go (inr e) = e
