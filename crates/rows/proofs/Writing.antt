-- How text goes through a writer part by part: what a loop wrote of it and what is left, and parts behind one another.
use mathlib.Core.List.{List, [], ◌++◌}
use mathlib.Core.Path.{◌≡◌, refl, ◌∙◌}
use Prim.Native.Nat.{ℕ}
use native.Mathlib.Omega.{arith}
use lib.ListN.{length-append}
use Rattle.rows.specs.Written.{Fits, Writes}
use Rattle.rows.specs.declared.Writer.{Writer}
use Rattle.rows.proofs.Wrote.{wrote_part, wrote_room, wrote_length}
use Rattle.rows.proofs.Written.{written_append}
use Rattle.rows.proofs.Puts.{Putting, putting_none, putting_all}

-- the writer while text goes through it that began as w: `rest` is left
pub record Writing (text : List ℕ) (w w' : Writer) (rest : List ℕ) : Type 0 where
  pub same : w'.buffer.ghost_name ≡ w.buffer.ghost_name
  pub fits : Fits text w
  pub puts : Putting text w.at w.buffer.now w'.buffer.now w'.at rest

pub writing_none : (text : List ℕ) (w : Writer) → Fits text w → Writing text w w text
writing_none text w h = record { same = refl; fits = h; puts = putting_none text w.buffer.now w.at h }

module _ {text : List ℕ} {w w' : Writer} (xs rest : List ℕ) (l : Writing text w w' (xs ++ rest)) where
  pub writing_fits : Fits xs w'
  writing_fits = omega (arith, wrote_room l.puts, length-append xs rest)

  pub writing_part : {w'' : Writer} → Writes xs w' w'' → Writing text w w'' rest
  writing_part p = record { same = p.same ∙ l.same; fits = l.fits; puts = rw (p.next, p.leaves) (wrote_part xs l.puts) }

pub writing_all : {text : List ℕ} {w w' : Writer} → Writing text w w' [] → Writes text w w'
writing_all {text} {w} {w'} l =
    let p = putting_all (omega (arith, l.fits)) l.puts in
    record { same = l.same; size = wrote_length l.puts; next = p.next; leaves = p.leaves }

-- one part behind another
pub writes_then : {xs ys : List ℕ} {w w' w'' : Writer} → Writes xs w w' → Writes ys w' w'' → Fits xs w → Writes (xs ++ ys) w w''
writes_then {xs} {ys} {w} p q h =
    record {
      same = q.same ∙ p.same;
      size = q.size ∙ p.size;
      next = omega (arith, p.next, q.next, length-append xs ys);
      leaves = q.leaves ∙ rw (p.next, p.leaves) (written_append w.at xs ys w.buffer.now h);
    }
