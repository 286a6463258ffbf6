-- Ranks as the crates hand them down: those of an order, or none, which stands for byte order.
use Rattle.std.specs.Prelude.{Bool, true, false, List, ◌⊎◌, ◌≡◌, ℕ, ◌≤◌, ◌<◌, length, take}
use Rattle.ranks.specs.Ranks.{Bytes, is_order, rank, ranked}

-- No ranks or 256, and different bytes have different ranks.
pub record Ranks (ranks : List ℕ) : Type 0 where
  pub size : (length ranks ≡ 0) ⊎ (length ranks ≡ 256)
  pub apart : (a b : ℕ) → a < 256 → b < 256 → rank ranks a ≡ rank ranks b → a ≡ b

-- The ranks that are handed down of a list that is an order: its own, or none, and they rank every pattern as it does.
pub record Handed (order ranks : List ℕ) : Type 0 where
  pub is : is_order order ≡ true
  pub front : ranks ≡ take (length ranks) order
  pub known : Ranks ranks
  pub same : (s : List ℕ) → Bytes s → ranked ranks s ≡ ranked order s

-- Which of two bytes has the smaller rank: no is said of different bytes only where the second has.
pub record Below (ranks : List ℕ) (x y : ℕ) (r : Bool) : Type 0 where
  pub yes : r ≡ true → rank ranks x < rank ranks y
  pub no : r ≡ false → (x ≡ y → ⊥) → rank ranks y < rank ranks x

-- The bytes by their ranks: entry r is the byte of rank r.
pub record Inverse (order bytes : List ℕ) : Type 0 where
  pub size : length bytes ≡ 256
  pub byte : (r : ℕ) → r < 256 → (rank bytes r < 256) × (rank order (rank bytes r) ≡ r)
