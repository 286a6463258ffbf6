-- What blocks give Duval's scan: the period goes on where bytes agree.
use mathlib.Core.List.{List}
use mathlib.Core.Logic.{◌⊎◌, inl, inr}
use mathlib.Core.Path.{◌≡◌, sym}
use Prim.Native.Nat.{ℕ, ◌+◌, ◌-◌, ◌≤◌, ◌<◌}
use native.Mathlib.Omega.{arith}
use lib.ListN.{length, get_or}
use Rattle.words.proofs.Bounded.{le_or_lt}
use Rattle.words.proofs.Scan.{Scan}
use Rattle.agreeing.specs.Agrees.{Agrees}

-- the period goes on
pub leap_same : {s : List ℕ} {i j p m : ℕ} → Scan s i j p → Agrees s (j - p) s j m → j + m ≤ length s → Scan s i (j + m) p
leap_same {s} {i} {j} {p} {m} c a h =
    record { some = c.some; fits = omega (arith, c.fits); ends = h; word = c.word; period = λ k l b. go k l b (le_or_lt j (k + p)) }
  where
    go : (k : ℕ) → i ≤ k → k + p < j + m → (j ≤ k + p) ⊎ (k + p < j) → get_or s (k + p) 0 ≡ get_or s k 0
    go k l b (inl q) =
        let t : ℕ = k + p - j in
        let e : j - p + t ≡ k = omega (arith, c.fits) in
        let f : j + t ≡ k + p = omega arith in
        sym (rw (e, f) at (a.at t (omega arith)))
    go k l b (inr q) = c.period k l q
