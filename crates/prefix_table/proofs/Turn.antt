-- What a byte and the one a word earlier tell of the scan's next turn, which goes by their ranks.
use mathlib.Core.Bool.{Bool, true, false}
use mathlib.Core.List.{List}
use mathlib.Core.Path.{◌≡◌, sym}
use Prim.Native.Nat.{ℕ, ◌-◌, ◌<◌}
use native.Mathlib.Omega.{arith}
use lib.ListN.{length, get_or}
use Rattle.words.proofs.Scan.{Scan, Stops}
use Rattle.ranks.specs.Ranks.{ranked}
use Rattle.ranks.specs.Inner.{Below}
use Rattle.ranks.proofs.Ranked.{length_ranked, ranks_agree, ranks_below}
use Rattle.scan.proofs.Next.{stop_smaller}

module _ (o s : List ℕ) {i j p : ℕ} (c : Scan (ranked o s) i j p) (l : j < length (ranked o s)) where
  here : j < length s
  here = omega (arith, length_ranked o s)

  earlier : j - p < length s
  earlier = omega (arith, length_ranked o s)

  pub turn_equal : get_or s (j - p) 0 ≡ get_or s j 0 → get_or (ranked o s) (j - p) 0 ≡ get_or (ranked o s) j 0
  turn_equal e = ranks_agree o s s (j - p) j earlier here e

  module _ {r : Bool} (b : Below o (get_or s j 0) (get_or s (j - p) 0) r) where
    pub turn_greater : r ≡ false → (get_or s (j - p) 0 ≡ get_or s j 0 → ⊥) → get_or (ranked o s) (j - p) 0 < get_or (ranked o s) j 0
    turn_greater e n = ranks_below o s s (j - p) j earlier here (b.no e (λ f. n (sym f)))

    pub turn_smaller : r ≡ true → Stops (ranked o s) j p
    turn_smaller e = stop_smaller c (ranks_below o s s j (j - p) here earlier (b.yes e))
