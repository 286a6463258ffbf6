-- What the inner functions answer: what the byte after the hash mark says, and that bytes are no block.
use Rattle.std.specs.Prelude.{List, ◌⊎◌, ◌≡◌, ℕ, ◌+◌, ◌≤◌, ◌<◌}
use Rattle.block_parts.specs.Block.{Block}
use Rattle.block_parts.specs.declared.Header.{Header}
use Rattle.block_parts.specs.declared.Header.TheVariants.{Definite, Indefinite, Other}

abbrev pub HeaderOf : ℕ → Header → Type 0
HeaderOf c (Definite digits) = (c ≡ 48 + digits) × (1 ≤ digits) × (digits ≤ 9)
HeaderOf c Indefinite = c ≡ 48
HeaderOf c Other = (c < 48) ⊎ (57 < c)

abbrev pub NoBlock : List ℕ → Type 0
NoBlock block = (place count : ℕ) → Block block place count → ⊥
