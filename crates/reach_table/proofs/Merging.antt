-- The word at i has taken in the words up to j, the last of them that at i + d: what is known of their agreements, and how it goes on.
use mathlib.Core.Bool.{Bool, true, false}
use mathlib.Core.List.{List}
use mathlib.Core.Logic.{◌⊎◌, inl, inr}
use mathlib.Core.Path.{◌≡◌, ap}
use Prim.Native.Nat.{ℕ, ◌+◌, ◌-◌, ◌≤◌, ◌<◌}
use native.Mathlib.Omega.{arith}
use lib.ListN.{length}
use Rattle.words.specs.Tables.{longest_at}
use Rattle.memo.specs.Memo.{Alike, Slot, Knows}
use Rattle.memo.proofs.Together.{alike_none, alike_on, alike_both}
use Rattle.reach_compare.specs.Beside.{Beside}
use Rattle.reach_table.proofs.Reach.{Grown, grown_turn, grown_stop}

pub record Merging (s : List ℕ) (i j d edge shared : ℕ) : Type 0 where
  pub grown : Grown s i j
  pub low : i + d ≤ j
  pub mine : Alike s i (i + d) shared
  pub last : Alike s (i + d) j edge

pub merging_start : {s : List ℕ} {i j : ℕ} → Grown s i j → Merging s i j 0 0 0
merging_start {s} {i} {j} g =
    record {
      grown = g;
      low = omega (arith, g.some);
      mine = alike_none i (i + 0) (omega (arith, g.some, g.fits));
      last = alike_none (i + 0) j g.fits;
    }

module _ {s : List ℕ} {i j d edge shared : ℕ} (m : Merging s i j d edge shared) where
  pub merging_known : (k : ℕ) → k ≤ edge → k ≤ shared → Alike s i j k
  merging_known k h l = alike_on m.mine m.last k l h

  module _ (y e : ℕ) (up : Bool) (b : Beside s i j y e up) where
    at : i + (j - i) ≡ j
    at = omega (arith, m.grown.some)

    pub merging_place : i + (j - i) < length s → Alike s i (i + (j - i)) e
    merging_place h = rw at b.agree

    pub merging_turn : y ≡ longest_at s j → j < length s → up ≡ true → (edge' shared' : ℕ) → Knows s i (j - i) edge' shared'
        → Merging s i (j + y) (j - i) edge' shared'
    merging_turn entry h u edge' shared' k =
        let e : i + (j - i) + longest_at s (i + (j - i)) ≡ j + y = omega (arith, at, ap (longest_at s) at) in
        record {
          grown = grown_turn m.grown y entry h b.less u;
          low = omega (arith, at);
          mine = k.joins;
          last = rw e at k.ends;
        }

    module _ (entry : y ≡ longest_at s j) (h : j < length s) (u : up ≡ false) where
      pub merging_stop : j - i ≡ longest_at s i
      merging_stop = grown_stop m.grown y entry h b.less u

      pub merging_slot : (run : ℕ) → (run ≡ shared) ⊎ ((run ≤ edge) × (run ≤ e)) → Slot s i e d run
      merging_slot run r =
          let q : j ≡ i + longest_at s i = omega (arith, merging_stop, at) in
          record { ends = rw q at b.agree; steps = go r }
        where
          go : (run ≡ shared) ⊎ ((run ≤ edge) × (run ≤ e)) → Alike s i (i + d) run
          go (inl q) = rw q m.mine
          go (inr (p, q)) = alike_both b.agree m.last m.low run q p
