-- A definite length block by places: which bytes stand where, and how long it is. It is the same as the block by its parts.
use mathlib.Core.List.{List, [], ◌∷◌, ◌++◌, append_assoc}
use mathlib.Core.Logic.{◌⊎◌}
use mathlib.Core.Path.{◌≡◌, refl, sym, ap, ◌∙◌}
use Prim.Native.Nat.{ℕ, suc, ◌+◌, ◌%◌, ◌≤◌}
use native.Mathlib.Omega.{arith}
use lib.ListN.{length, take, drop, get_or, length-append, length-drop, take-append-drop}
use lib.Seq.{drop-cons, drop-drop, drop_at, take_at, length-take-le}
use Rattle.decimal.specs.Decimal.{codes, decimal, read, Digits}
use Rattle.decimal.proofs.Decimal.{count_one}
use Rattle.block_parts.specs.Block.{Block}

-- n digits say that there are c bytes
pub record Placed (block : List ℕ) (n c : ℕ) : Type 0 where
  pub mark : get_or block 0 0 ≡ 35
  pub said : get_or block 1 0 ≡ 48 + n
  pub some : 1 ≤ n
  pub few : n ≤ 9
  pub numeral : Digits (take n (drop 2 block))
  pub counts : read (take n (drop 2 block)) ≡ c
  pub fits : 2 + n + c ≤ length block
  pub closes : (drop (2 + n + c) block ≡ []) ⊎ (drop (2 + n + c) block ≡ codes "\n")

pub decimal_one : (n : ℕ) → n ≤ 9 → decimal n ≡ (48 + n) ∷ []
unfolding decimal
decimal_one n h =
    let e : n % 10 ≡ n = omega arith in
    rw (count_one n (omega arith), e) refl

pub header_parts : (n : ℕ) (x y z : List ℕ) → n ≤ 9 → codes "#" ++ decimal n ++ x ++ y ++ z ≡ 35 ∷ (48 + n) ∷ (x ++ (y ++ z))
header_parts n x y z h = rw (decimal_one n h) (ap (λ u. 35 ∷ (48 + n) ∷ u) (append_assoc x y z))

module _ {block : List ℕ} {place c : ℕ} (b : Block block place c) where
  abbrev n : ℕ
  n = length b.digits

  -- the block from its third byte on
  abbrev rest : List ℕ
  rest = b.digits ++ (b.bytes ++ b.close)

  front : block ≡ 35 ∷ (48 + n) ∷ rest
  front = b.parts ∙ header_parts n b.digits b.bytes b.close b.few

  pub block_digits : take (length b.digits) (drop 2 block) ≡ b.digits
  block_digits = ap (λ u. take n (drop 2 u)) front ∙ take_at b.digits (b.bytes ++ b.close) n refl

  pub block_close : drop (2 + length b.digits + c) block ≡ b.close
  block_close =
      let e : 2 + n + c ≡ suc (suc (n + length b.bytes)) = omega (arith, b.size) in
      rw (e, front)
      (sym (drop-drop (length b.bytes) n rest) ∙ ap (drop (length b.bytes)) (drop_at b.digits (b.bytes ++ b.close) n refl)
      ∙ drop_at b.bytes b.close (length b.bytes) refl)

  pub block_length : length block ≡ 2 + length b.digits + length b.bytes + length b.close
  block_length =
      omega (arith, ap length front, length-append b.digits (b.bytes ++ b.close), length-append b.bytes b.close)

  pub block_placed : Placed block (length b.digits) c
  block_placed =
      record {
        mark = ap (λ u. get_or u 0 0) front;
        said = ap (λ u. get_or u 1 0) front;
        some = b.some;
        few = b.few;
        numeral = rw block_digits b.numeral;
        counts = rw block_digits (b.counts ∙ sym b.size);
        fits = omega (arith, b.size, block_length);
        closes = rw block_close b.closes;
      }

  pub block_bytes_lem : take c (drop place block) ≡ b.bytes
  block_bytes_lem =
      let e : place ≡ suc (suc n) = omega (arith, b.behind) in
      rw (e, b.size, front)
      (ap (take (length b.bytes)) (drop_at b.digits (b.bytes ++ b.close) n refl) ∙ take_at b.bytes b.close (length b.bytes) refl)

pub placed_block : {block : List ℕ} {n c : ℕ} → Placed block n c → Block block (2 + n) c
placed_block {block} {n} {c} p =
    record {
      digits = digits;
      bytes = bytes;
      close = close;
      parts = parts;
      some = rw size p.some;
      few = rw size p.few;
      numeral = p.numeral;
      counts = p.counts ∙ sym count;
      closes = p.closes;
      behind = rw size refl;
      size = sym count;
    }
  where
    digits : List ℕ
    digits = take n (drop 2 block)

    bytes : List ℕ
    bytes = take c (drop (2 + n) block)

    close : List ℕ
    close = drop (2 + n + c) block

    size : length digits ≡ n
    size = length-take-le n (drop 2 block) (omega (arith, p.fits, length-drop 2 block))

    count : length bytes ≡ c
    count = length-take-le c (drop (2 + n) block) (omega (arith, p.fits, length-drop (2 + n) block))

    parts : block ≡ codes "#" ++ decimal (length digits) ++ digits ++ bytes ++ close
    parts =
        let first : block ≡ get_or block 0 0 ∷ drop 1 block = drop-cons block 0 0 (omega (arith, p.fits)) in
        let second : drop 1 block ≡ get_or block 1 0 ∷ drop 2 block = drop-cons block 1 0 (omega (arith, p.fits)) in
        let third : drop 2 block ≡ digits ++ drop (2 + n) block =
        sym (take-append-drop n (drop 2 block)) ∙ ap (λ u. digits ++ u) (drop-drop n 2 block) in
        let fourth : drop (2 + n) block ≡ bytes ++ close =
        sym (take-append-drop c (drop (2 + n) block)) ∙ ap (λ u. bytes ++ u) (drop-drop c (2 + n) block) in
        let all : block ≡ 35 ∷ (48 + n) ∷ (digits ++ (bytes ++ close)) =
        first ∙ ap (λ u. get_or block 0 0 ∷ u) (second ∙ ap (λ u. get_or block 1 0 ∷ u) (third ∙ ap (λ u. digits ++ u) fourth)) ∙ rw (p.mark, p.said) refl in
        all ∙ sym (rw size (header_parts n digits bytes close p.few))
