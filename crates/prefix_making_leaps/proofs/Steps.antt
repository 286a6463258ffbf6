-- The prefix table as it is made by steps: sixteen entries are written, and are right where those before them are.
use mathlib.Core.List.{List}
use mathlib.Core.Path.{◌≡◌, sym, ap, ◌∙◌}
use Prim.Native.Nat.{ℕ, ◌+◌, ◌-◌, ◌≤◌}
use native.Mathlib.Omega.{arith}
use lib.ListN.{length, get_or}
use Rattle.words.specs.Demand.{FactorStart}
use Rattle.rows.proofs.Fill.{Filled}
use Rattle.agreeing.specs.Agrees.{Agrees}
use Rattle.above.specs.Above.{Above}
use Rattle.prefix_table.specs.State.{Testing, Back}
use Rattle.prefix_table.proofs.Blocks.{again_block, above_block}
use Rattle.prefix_making_leaps.specs.Making.{Making}

-- entries from j up to j' were written, and are right where those before them are
making_block : {s d row row' : List ℕ} {f : ℕ → ℕ} {i j j' p p' : ℕ} → Making s d row i j p → Filled f j' row row' j j' → j' ≤ length s
    → (Testing s row' i j p → Testing s row' i j' p') → Making s d row' i j' p'
making_block m g l on =
    let t = on (record { scan = m.scan; right = λ k a b. g.before k b ∙ m.filled.inside k a b }) in
    record {
      scan = t.scan;
      filled =
          record {
            size = g.size ∙ m.filled.size;
            inside = t.right;
            before = λ k a. g.before k (omega (arith, m.scan.fits)) ∙ m.filled.before k a;
            past = λ k a. g.past k (omega arith) ∙ m.filled.past k a;
          };
      room = m.room;
    }

module _ {s d row row' : List ℕ} {i j : ℕ} (q : FactorStart s i) (l : j + 16 ≤ length s) where
  pub making_above : Making s d row i j (j - i) → Above s (get_or s i 0) j (j + 16) → Filled (λ k. k + 1 - i) (j + 16) row row' j (j + 16)
      → Making s d row' i (j + 16) (j + 16 - i)
  making_above m f g = making_block m g l (λ t. above_block q row' t l f g.inside 16 (omega arith))

  pub making_again : {p back : ℕ} → Making s d row i j p → Back i j p back → 16 ≤ back → Agrees s (j - back) s j 16
      → Filled (λ k. get_or row (k - back) 0) (j + 16) row row' j (j + 16) → Making s d row' i (j + 16) p
  making_again {p} {back} m b h f g = making_block m g l (λ t. again_block q row' t b l f copied 16 (omega arith))
    where
      copied : Agrees row' (j - back) row' j 16
      copied = record {
        at = λ k a.
            let e : j - back + k ≡ j + k - back = omega (arith, b.inside) in
            g.before (j - back + k) (omega (arith, b.inside)) ∙ ap (λ u. get_or row u 0) e ∙ sym (g.inside (j + k) (omega arith) (omega arith));
      }

pub back_later : {i j j' p back : ℕ} → Back i j p back → j ≤ j' → Back i j' p back
back_later b l = record { others = b.others; words = b.words; inside = omega (arith, b.inside) }
