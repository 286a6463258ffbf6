-- What the bytes of a pattern tell of their ranks, and the ranks of the bytes: places that agree, and which of two different bytes is smaller.
use mathlib.Core.Bool.{Bool, true, false}
use mathlib.Core.List.{List}
use mathlib.Core.Path.{◌≡◌, refl, sym, ◌∙◌}
use Prim.Native.Nat.{ℕ, ◌+◌, ◌-◌, ◌≤◌, ◌<◌}
use native.Mathlib.Omega.{arith}
use lib.ListN.{length, take, drop, get_or}
use lib.Dec.{ltb}
use borrow.Author.Tests.{lt-ltb, le-ltb}
use Rattle.ranks.specs.Inner.{Ranks, Below}
use Rattle.ranks.specs.Ranks.{Bytes, ranked}
use Rattle.ranks.proofs.Ranked.{length_ranked, get_or_ranked, ranks_below}
use Rattle.words.specs.Order.{less}
use Rattle.agreeing.specs.Agrees.{Agrees}
use Rattle.agreeing.proofs.Alike.{agrees_none}
use Rattle.agreeing.proofs.Alike.{agrees_ranked}
use Rattle.comparing.proofs.Words.{words_end, words_differ, shorter_test}
use Rattle.memo.specs.Memo.{Alike}
use Rattle.reach_compare.specs.Beside.{Compares, Beside}

-- ranks that agree are those of bytes that do
pub alike_bytes : (o s : List ℕ) (p q : ℕ) {e : ℕ} → Ranks o → Bytes s → p ≤ q → Alike (ranked o s) p q e → Agrees s p s q e
alike_bytes o s p q {e} v b h a =
    let n : q + e ≤ length s = omega (arith, a.inside, length_ranked o s) in
    record {
      at =
          λ k m. v.apart (get_or s (p + k) 0) (get_or s (q + k) 0) (b (p + k) (omega arith)) (b (q + k) (omega arith))
          (sym (get_or_ranked o s (p + k) (omega arith)) ∙ a.agree.at k m ∙ get_or_ranked o s (q + k) (omega arith));
    }

-- bytes that agree have ranks that do
pub alike_ranked : (o s : List ℕ) (p q : ℕ) {e : ℕ} → p ≤ q → q + e ≤ length s → Agrees s p s q e → Alike (ranked o s) p q e
alike_ranked o s p q h l g = record { inside = omega (arith, length_ranked o s); agree = agrees_ranked o (omega arith) l g }

-- two different bytes at places p and q: which has the smaller rank, and their ranks differ
module _ (o s : List ℕ) (p q : ℕ) (h : p < length s) (l : q < length s) (n : get_or s p 0 ≡ get_or s q 0 → ⊥) where
  pub below_smaller : (r : Bool) → Below o (get_or s p 0) (get_or s q 0) r → r ≡ ltb (get_or (ranked o s) p 0) (get_or (ranked o s) q 0)
  below_smaller true b = sym (lt-ltb _ _ (ranks_below o s s p q h l (b.yes refl)))
  below_smaller false b = sym (le-ltb (get_or (ranked o s) p 0) (get_or (ranked o s) q 0) (omega (arith, ranks_below o s s q p l h (b.no refl n))))

  pub below_apart : (r : Bool) → Below o (get_or s p 0) (get_or s q 0) r → get_or (ranked o s) p 0 ≡ get_or (ranked o s) q 0 → ⊥
  below_apart true b e = omega (arith, ranks_below o s s p q h l (b.yes refl))
  below_apart false b e = omega (arith, ranks_below o s s q p l h (b.no refl n))

-- where the first symbols differ, they say which of two neighbouring words is smaller
pub first_differ : (s : List ℕ) (i j y : ℕ) → i < j → 0 < y → j + y ≤ length s → (get_or s i 0 ≡ get_or s j 0 → ⊥)
    → less (take (j - i) (drop i s)) (take y (drop j s)) ≡ ltb (get_or s i 0) (get_or s j 0)
first_differ s i j y h l fits d =
    let a : i + 0 ≡ i = omega arith in
    let b : j + 0 ≡ j = omega arith in
    rw (a, b) at (words_differ s i (j - i) j y 0 agrees_none (omega arith) fits (omega arith) (omega arith) (omega arith) l (rw (a, b) d))

-- two words that agree in e bytes: where these are followed by different ones, and where the shorter ends there
module _ (o s : List ℕ) (i j y : ℕ) {len : ℕ} (c : Compares s i j y len) where
  pub beside_differ : (e : ℕ) → e < len → Agrees s i s j e → (get_or s (i + e) 0 ≡ get_or s (j + e) 0 → ⊥) → (r : Bool)
      → Below o (get_or s (i + e) 0) (get_or s (j + e) 0) r → Beside (ranked o s) i j y e r
  beside_differ e l a n r b =
      let z = length_ranked o s in
      let p : i + e < length s = omega (arith, c.follows, c.fits, c.first, c.second) in
      let q : j + e < length s = omega (arith, c.fits, c.second) in
      let g = alike_ranked o s i j (omega (arith, c.follows)) (omega arith) a in
      record {
        agree = g;
        less =
            below_smaller o s (i + e) (j + e) p q n r b
            ∙ sym (words_differ (ranked o s) i (j - i) j y e g.agree
            (omega (arith, c.follows, c.fits)) (omega (arith, c.fits)) (omega (arith, c.first)) (omega (arith, c.second)) (omega (arith, c.first)) (omega (arith, c.second))
            (below_apart o s (i + e) (j + e) p q n r b));
      }

  pub beside_end : Agrees s i s j len → Beside (ranked o s) i j y len (ltb len y)
  beside_end a =
      let z = length_ranked o s in
      let g = alike_ranked o s i j (omega (arith, c.follows)) (omega (arith, c.fits, c.second)) a in
      record {
        agree = g;
        less =
            shorter_test (j - i) y len c.first c.second c.shorter
            ∙ sym (words_end (ranked o s) i (j - i) j y len g.agree
            (omega (arith, c.follows, c.fits)) (omega (arith, c.fits)) c.first c.second c.shorter);
      }
