-- That ranks are those of an order, or none, has one proof at most, and so has that symbols are bytes: a ghost field asks for this.
use mathlib.Core.Logic.{◌⊎◌, inl, inr}
use mathlib.Core.Path.{◌≡◌, ap}
use Rattle.std.specs.Prelude.{List, ℕ, ◌<◌, length}
use Rattle.ranks.specs.Ranks.{Bytes, rank}
use Rattle.ranks.specs.Inner.{Ranks}
use native.Mathlib.Omega.{arith}
use denote.Struct.Props.{props}

size_prop : (n : ℕ) → IsProp ((n ≡ 0) ⊎ (n ≡ 256))
size_prop n (inl p) (inl q) =
    let h : IsProp (n ≡ 0) = Prim.hlevel props in
    ap (λ (e : n ≡ 0). inl e) (h p q)
size_prop n (inr p) (inr q) =
    let h : IsProp (n ≡ 256) = Prim.hlevel props in
    ap (λ (e : n ≡ 256). inr e) (h p q)
size_prop n (inl p) (inr q) = absurd (omega arith)
size_prop n (inr p) (inl q) = absurd (omega arith)

pub ranks_prop : (ranks : List ℕ) → IsProp (Ranks ranks)
ranks_prop ranks x y =
    let size : IsProp ((length ranks ≡ 0) ⊎ (length ranks ≡ 256)) = size_prop (length ranks) in
    let apart : IsProp ((a b : ℕ) → a < 256 → b < 256 → rank ranks a ≡ rank ranks b → a ≡ b) = Prim.hlevel props in
    λ i. record {
      size = size x.size y.size i;
      apart = apart x.apart y.apart i;
    }

pub bytes_prop : (s : List ℕ) → IsProp (Bytes s)
bytes_prop s = Prim.hlevel props
