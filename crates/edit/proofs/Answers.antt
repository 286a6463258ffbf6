-- What the cases of an edit's answer say.
use mathlib.Core.Path.{◌≡◌, refl}
use Prim.Native.Nat.{ℕ, zero, suc}
use native.Mathlib.Omega.{arith}
use Rattle.edit.specs.Core.{Done, answer_of}
use Rattle.edit.specs.declared.Counts.{Counts}

-- an answer with numbers was not refused
pub done_accepted : (k : ℕ) (a c : Counts) → answer_of k a ≡ Done c → (k ≡ 0) × (a ≡ c)
done_accepted zero a c e = (refl, cc)
done_accepted (suc k) a c e = let z : ◌≡◌ {A = ℕ} 0 1 = cc in absurd (omega arith)
