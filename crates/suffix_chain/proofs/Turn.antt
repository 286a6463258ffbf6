-- Where a pass over the groups of a suffix begins: at its place, or at the end of the pattern where that is behind the end.
use mathlib.Core.List.{List}
use mathlib.Core.Logic.{◌⊎◌, inl, inr}
use mathlib.Core.Path.{◌≡◌, refl, sym, ◌∙◌}
use Prim.Native.Nat.{ℕ, ◌≤◌, ◌<◌}
use native.Mathlib.Omega.{arith}
use lib.ListN.{length}
use Rattle.words.specs.Tables.{suffix_groups}
use Rattle.words.proofs.Bounded.{le_or_lt}
use Rattle.scan.proofs.Next.{suffix_end}

pub groups_start : (s : List ℕ) (start at : ℕ) → (start ≤ length s → at ≡ start) → (length s < start → at ≡ length s) → suffix_groups s at ≡ suffix_groups s start
groups_start s start at h k = go (le_or_lt start (length s))
  where
    go : (start ≤ length s) ⊎ (length s < start) → suffix_groups s at ≡ suffix_groups s start
    go (inl l) = rw (h l) refl
    go (inr l) = suffix_end s at (omega (arith, k l)) ∙ sym (suffix_end s start (omega arith))
