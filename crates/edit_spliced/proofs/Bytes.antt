-- What an accepted edit of the ranks says of the bytes: the stretch is inside, the edited pattern has its length, and spliced to the front of a
-- row it is the one that was accepted.
use mathlib.Core.List.{List}
use mathlib.Core.Path.{◌≡◌, ap, ◌∙◌}
use Prim.Native.Nat.{ℕ, ◌+◌, ◌-◌, ◌≤◌}
use native.Mathlib.Omega.{arith}
use lib.ListN.{length, take}
use Rattle.splicing.proofs.Spliced.{spliced_edited}
use Rattle.ranks.specs.Ranks.{ranked}
use Rattle.ranks.proofs.Ranked.{length_ranked, ranked_edited}
use Rattle.refusals.specs.Refusals.{max_pattern}
use Rattle.rows.specs.Row.{written}
use Rattle.seams.specs.Seams.{Accepted}
use Rattle.words.specs.Edit.{edited}
use Rattle.words.proofs.Edit.{length_edited}

module _ (o s : List ℕ) {array : List ℕ} {from to : ℕ} (b : List ℕ) (a : Accepted (ranked o s) array from to (ranked o b) (edited (ranked o s) from to (ranked o b))) where
  pub stretch_inside : to ≤ length s
  stretch_inside = omega (arith, a.stretch, length_ranked o s)

  pub edited_long : length (edited s from to b) ≡ from + length b + (length s - to)
  edited_long = length_edited s from to b a.start stretch_inside

  pub edited_fits : length (edited s from to b) ≤ max_pattern
  edited_fits = omega (arith, a.fits, length_ranked o (edited s from to b), ap length (ranked_edited o s from to b))

  -- the front of the row to which the edited pattern was spliced
  pub accepted_spliced : (row : List ℕ) {row' : List ℕ} → row' ≡ written (edited s from to b) row
      → Accepted (ranked o s) array from to (ranked o b) (ranked o (take (from + length b + (length s - to)) row'))
  accepted_spliced row w =
      record {
        start = a.start;
        stretch = a.stretch;
        pattern = a.pattern;
        block = a.block;
        table = a.table;
        spliced = ap (ranked o) (spliced_edited s from to b a.start stretch_inside row w) ∙ ranked_edited o s from to b;
        fits = a.fits;
      }
