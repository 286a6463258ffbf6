-- Bytes above a given one: one more, and sixteen, as the end of the blocks or the block itself tells.
use mathlib.Core.Bool.{Bool, true, ◌&&◌}
use mathlib.Core.List.{List}
use mathlib.Core.Logic.{◌⊎◌, inl, inr}
use mathlib.Core.Path.{◌≡◌}
use Prim.Native.Nat.{ℕ, ◌+◌, ◌≤◌, ◌<◌}
use native.Mathlib.Omega.{arith}
use lib.ListN.{length, get_or}
use lib.Dec.{ltb}
use borrow.Author.Tests.{ltb-true}
use Rattle.words.proofs.Bounded.{le_or_lt, le_cases, and_true}
use Rattle.ranks.specs.Ranks.{rank, ranked}
use Rattle.above.specs.Above.{Above, AboveEnd, AboveBlock}

-- one more byte tested; `all` says whether all before it are above c
pub above_test : {s : List ℕ} {c j k : ℕ} (all : Bool) → (all ≡ true → Above s c j k) → (all && ltb c (get_or s k 0)) ≡ true → Above s c j (k + 1)
above_test {s} {c} {j} {k} all g e =
    let (p, q) = and_true all (ltb c (get_or s k 0)) e in
    record { at = λ t h l. go t h (le_cases {a = t} {b = k} (omega arith)) (g p) (ltb-true c (get_or s k 0) q) }
  where
    go : (t : ℕ) → j ≤ t → (t ≡ k) ⊎ (t < k) → Above s c j k → c < get_or s k 0 → c < get_or s t 0
    go t h (inl q) f l = rw q l
    go t h (inr q) f l = f.at t h q

-- sixteen bytes from t on are above c, as was told beforehand or is of themselves
pub above_told : {o s : List ℕ} {c j k : ℕ} (t : ℕ) {r : Bool} → AboveEnd o s c j k → AboveBlock o s c t r → r ≡ true → j ≤ t → t + 16 ≤ k
    → Above (ranked o s) (rank o c) t (t + 16)
above_told {o} {s} {c} {j} {k} t e b y h l = go (le_or_lt (length o) 0)
  where
    go : (length o ≤ 0) ⊎ (0 < length o) → Above (ranked o s) (rank o c) t (t + 16)
    go (inl q) = b.yes y (omega arith)
    go (inr q) = record { at = λ u m n. (e.looked q).at u (omega arith) (omega arith) }
