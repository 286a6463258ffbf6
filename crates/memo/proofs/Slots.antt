-- The memo: empty slots are true, and what a slot says.
use mathlib.Core.List.{List}
use mathlib.Core.Path.{◌≡◌}
use Prim.Native.Nat.{ℕ, ◌+◌, ◌≤◌, ◌<◌}
use native.Mathlib.Omega.{arith}
use lib.ListN.{length, get_or, replicate, length-replicate}
use Rattle.std.proofs.lemmas.List.{get_or-replicate}
use Rattle.words.specs.Tables.{longest_at}
use Rattle.words.proofs.Tables.{longest_at_fits}
use Rattle.memo.specs.Memo.{Alike, Slot, none, Memo, Knows}
use Rattle.memo.specs.declared.Kept.{Kept}
use Rattle.memo.proofs.Together.{alike_none, alike_run}

pub slot_none : {s : List ℕ} (p : ℕ) → p < length s → Slot s p 0 0 0
slot_none {s} p h = record { ends = alike_none p (p + longest_at s p) (longest_at_fits s p h); steps = alike_none p (p + 0) (omega arith) }

memo_empty : (s : List ℕ) (n : ℕ) → 256 ≤ n → Memo s (replicate n none)
memo_empty s n h =
    record {
      room = omega (arith, length-replicate {A = Kept} n none);
      slot = λ t l m. let e = get_or-replicate n t none none (omega arith) in rw e (slot_none 0 (rw e at m));
    }

-- the memo begins with empty slots
pub memo_start : (s : List ℕ) → Memo s (replicate 256 none)
memo_start s = memo_empty s 256 (omega arith)

-- what is known of the place i + d, with which f bytes agree
module _ {s : List ℕ} (i d : ℕ) {f : ℕ} (h : i + d < length s) (a : Alike s i (i + d) f) where
  pub knows_none : Knows s i d 0 f
  knows_none = record { ends = alike_none (i + d) (i + d + longest_at s (i + d)) (longest_at_fits s (i + d) h); joins = a }

  -- the slot t has it
  module _ {memo : List Kept} (m : Memo s memo) (t : ℕ) (l : t < 256) (e : (get_or memo t none).place ≡ i + d) where
    slot_at : Slot s (i + d) (get_or memo t none).edge (get_or memo t none).distance (get_or memo t none).run
    slot_at = rw e at (m.slot t l (rw e h))

    pub knows_slot : Knows s i d (get_or memo t none).edge f
    knows_slot = record { ends = slot_at.ends; joins = a }

    module _ (q : f ≡ d) (p : (get_or memo t none).distance ≡ d) where
      goes_on : Alike s (i + d) (i + d + d) (get_or memo t none).run
      goes_on = rw p at slot_at.steps

      pub knows_run : Knows s i d (get_or memo t none).edge (d + (get_or memo t none).run)
      knows_run = record { ends = slot_at.ends; joins = alike_run (rw q at a) goes_on }
