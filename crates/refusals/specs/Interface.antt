-- The number of the interface for C and Rust, which each archive answers and include/lyndon.h has as LYNDON_INTERFACE.
use Rattle.std.specs.Prelude.{ℕ}

abbrev pub interface : ℕ
interface = 1
