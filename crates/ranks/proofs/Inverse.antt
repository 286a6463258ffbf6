-- The bytes by their ranks, made byte by byte; ranks replaced by their bytes, which have them.
use mathlib.Core.List.{List, [], ◌∷◌}
use mathlib.Core.Logic.{◌⊎◌, inl, inr}
use mathlib.Core.Path.{◌≡◌, refl, sym, ap, ◌∙◌}
use Prim.Native.Nat.{ℕ, suc, ◌+◌, ◌≤◌, ◌<◌}
use native.Mathlib.Omega.{arith}
use lib.ListN.{length, get_or, set, take, replicate, length-set, length-take, length-replicate}
use lib.Seq.{get_or-take}
use Rattle.rows.specs.Row.{written}
use Rattle.words.proofs.Bounded.{le_cases}
use Rattle.rows.proofs.Fill.{set_entry, filled_all}
use Rattle.ranks.specs.Ranks.{Bytes, Order, rank, ranked, times}
use Rattle.ranks.specs.Inner.{Inverse}
use Rattle.ranks.proofs.Ranked.{rank_entry, rank_byte, order_ranks, length_ranked, get_or_ranked, bytes_head, bytes_tail}
use Rattle.ranks.proofs.Times.{Counts, here, other, counts}

-- a number that is counted stands somewhere
pub record Stands (r : ℕ) (xs : List ℕ) : Type 0 where
  pub place : ℕ
  pub within : place < length xs
  pub at : get_or xs place 0 ≡ r

pub stands : (r : ℕ) (xs : List ℕ) → 0 < times r xs → Stands r xs
stands r [] h = absurd (omega arith)
stands r (x ∷ xs) h = go (counts r x xs) (λ l. stands r xs l)
  where
    go : Counts r x xs → (0 < times r xs → Stands r xs) → Stands r (x ∷ xs)
    go (here e p) ih = record { place = 0; within = omega arith; at = sym e }
    go (other e p) ih =
        let s = ih (omega arith) in
        record { place = suc s.place; within = omega (arith, s.within); at = s.at }

-- the bytes before b stand at their ranks
pub record Inverting (o bytes : List ℕ) (b : ℕ) : Type 0 where
  pub upto : b ≤ 256
  pub size : length bytes ≡ 256
  pub made : (j : ℕ) → j < b → get_or bytes (rank o j) 0 ≡ j

pub inverting_none : (o : List ℕ) → Inverting o (replicate 256 0) 0
inverting_none o = record { upto = omega arith; size = length-replicate {A = ℕ} 256 0; made = λ j h. absurd (omega arith) }

module _ {o : List ℕ} (v : Order o) {bytes : List ℕ} {b : ℕ} (w : Inverting o bytes b) where
  pub inverting_one : (x : ℕ) → x ≡ rank o b → b < 256 → Inverting o (set bytes x b) (b + 1)
  inverting_one x e h =
      record {
        upto = omega arith;
        size = length-set bytes x b ∙ w.size;
        made = λ j l. go j (le_cases {a = j} {b = b} (omega arith));
      }
    where
      low : x < length bytes
      low = omega (arith, e, rank_byte v h, w.size)

      go : (j : ℕ) → (j ≡ b) ⊎ (j < b) → get_or (set bytes x b) (rank o j) 0 ≡ j
      go j (inl q) = set_entry bytes x b (rank o j) j low (λ p. sym q) (λ p. absurd (p (ap (rank o) q ∙ sym e)))
      go j (inr l) =
          set_entry bytes x b (rank o j) j low (λ p. absurd (omega (arith, (order_ranks v).apart j b (omega arith) h (p ∙ e)))) (λ p. w.made j l)

  pub inverting_all : 256 ≤ b → Inverse o bytes
  inverting_all h = record { size = w.size; byte = λ r l. go r l (stands r o (omega (arith, v.once r l))) }
    where
      go : (r : ℕ) → r < 256 → Stands r o → (rank bytes r < 256) × (rank o (rank bytes r) ≡ r)
      go r l s =
          let f : rank o s.place ≡ r = rank_entry o s.place s.within ∙ s.at in
          let e : rank bytes r ≡ s.place =
          rank_entry bytes r (omega (arith, w.size)) ∙ ap (λ k. get_or bytes k 0) (sym f) ∙ w.made s.place (omega (arith, s.within, v.size)) in
          (omega (arith, e, s.within, v.size), ap (rank o) e ∙ f)

-- the ranks of the bytes that have these ranks
pub ranked_inverse : (o bytes : List ℕ) → Inverse o bytes → (xs : List ℕ) → Bytes xs → ranked o (ranked bytes xs) ≡ xs
ranked_inverse o bytes v [] h = refl
ranked_inverse o bytes v (x ∷ xs) h =
    let p = (v.byte x (bytes_head x xs h)).1 in
    let q = ranked_inverse o bytes v xs (bytes_tail x xs h) in
    cc

-- the first k entries of a row of ranks are replaced by their bytes, the others are as they were
pub record Replaced (bytes d row : List ℕ) (k : ℕ) : Type 0 where
  pub size : length row ≡ length d
  pub done : (j : ℕ) → j < k → get_or row j 0 ≡ rank bytes (get_or d j 0)
  pub rest : (j : ℕ) → k ≤ j → get_or row j 0 ≡ get_or d j 0

pub replaced_none : (bytes d : List ℕ) → Replaced bytes d d 0
replaced_none bytes d = record { size = refl; done = λ j h. absurd (omega arith); rest = λ j h. refl }

module _ {bytes d row : List ℕ} {k : ℕ} (g : Replaced bytes d row k) where
  pub replaced_one : (x : ℕ) → k < length d → x ≡ rank bytes (get_or row k 0) → Replaced bytes d (set row k x) (k + 1)
  replaced_one x h e =
      let l : k < length row = omega (arith, g.size) in
      record {
        size = length-set row k x ∙ g.size;
        done =
            λ j m.
            set_entry row k x j (rank bytes (get_or d j 0)) l (λ q. rw q (e ∙ ap (rank bytes) (g.rest k (omega arith))))
            (λ q. g.done j (below (le_cases {a = j} {b = k} (omega arith)) q));
        rest = λ j m. set_entry row k x j (get_or d j 0) l (λ q. absurd (omega arith)) (λ q. g.rest j (omega arith));
      }
    where
      below : {j : ℕ} → (j ≡ k) ⊎ (j < k) → (j ≡ k → ⊥) → j < k
      below (inl e) n = absurd (n e)
      below (inr h) n = h

  pub replaced_all : k ≤ length d → row ≡ written (ranked bytes (take k d)) d
  replaced_all h =
      let size : length (ranked bytes (take k d)) ≡ k = length_ranked bytes (take k d) ∙ omega (arith, length-take k d) in
      filled_all {out = ranked bytes (take k d)}
      (record {
        size = size;
        entry =
            λ j l.
            get_or_ranked bytes (take k d) j (omega (arith, length-take k d)) ∙ ap (rank bytes) (get_or-take k d j 0 l);
      })
      row {d = d} h
      (record { size = g.size; inside = λ j l m. g.done j m; before = λ j l. absurd (omega arith); past = g.rest })
