-- The laws of wanted tables: which tables are reach tables, and that one of up to 256 entries is then that of a byte pattern.
use mathlib.Core.List.{List}
use mathlib.Core.Logic.{◌⊎◌, inl, inr, ◌↔◌}
use mathlib.Core.Path.{◌≡◌}
use Prim.Native.Nat.{ℕ, ◌+◌, ◌≤◌, ◌<◌}
use native.Mathlib.Omega.{arith}
use lib.ListN.{length, get_or}
use Rattle.refusals.specs.Refusals.{max_wanted}
use Rattle.words.specs.Tables.{lyndon_array}
use Rattle.realisation.specs.Nested.{Nests}
use Rattle.realisation.specs.Symbols.{symbols}
use Rattle.realisation.proofs.Tables.{array_nests}
use Rattle.realisation.proofs.Symbols.{symbols_array, symbols_length, symbols_entry, symbol_bound}

-- a table is the reach table of some list of numbers exactly when its stretches nest
pub reach_tables : (t : List ℕ) → Nests t ↔ ((s : List ℕ) × (lyndon_array s ≡ t))
reach_tables t = (λ n. (symbols t, symbols_array n), λ (s, e). rw e at (array_nests s))

-- so none has an entry of 0, or one that goes past the end
pub outside_none : (t : List ℕ) (i : ℕ) → i < length t → (get_or t i 0 ≡ 0) ⊎ (length t < i + get_or t i 0) → (s : List ℕ) → lyndon_array s ≡ t → ⊥
outside_none t i h out s e = go out
  where
    nested : Nests t
    nested = (reach_tables t).1 (s, e)

    go : (get_or t i 0 ≡ 0) ⊎ (length t < i + get_or t i 0) → ⊥
    go (inl z) = omega (arith, z, nested.some i h)
    go (inr l) = omega (arith, l, nested.within i h)

-- the symbols of a table of up to 256 entries are bytes
pub symbols_bytes : {t : List ℕ} → Nests t → length t ≤ max_wanted → (i : ℕ) → i < length (symbols t) → get_or (symbols t) i 0 < 256
symbols_bytes {t} n h i l =
    let k : i < length t = omega (arith, symbols_length t) in
    omega (arith, symbols_entry t i k, symbol_bound n i k)

-- so such a table that nests is the reach table of a byte pattern
pub byte_pattern : (t : List ℕ) → Nests t → length t ≤ max_wanted
    → (s : List ℕ) × ((i : ℕ) → i < length s → get_or s i 0 < 256) × (lyndon_array s ≡ t)
byte_pattern t n h = (symbols t, symbols_bytes n h, symbols_array n)
