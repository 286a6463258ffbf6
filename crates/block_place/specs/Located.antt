-- What `locate` answers: where the bytes of a block are, or that it is none.
use Rattle.std.specs.Prelude.{List, ℕ, Option, Some, None}
use Rattle.block_parts.specs.Block.{Block}
use Rattle.block_parts.specs.Inner.{NoBlock}
use Rattle.block_place.specs.declared.Span.{Span}

abbrev pub Locates : List ℕ → Option Span → Type 0
Locates block (Some s) = Block block s.place s.count
Locates block None = NoBlock block
