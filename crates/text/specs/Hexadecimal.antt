-- Bytes in hexadecimal, as lists of ASCII codes.
use Rattle.std.specs.Prelude.{List, [], ◌∷◌, ◌++◌, ℕ}
use Rattle.hex_digits.specs.Hex.{pair_of}

-- Bytes, two hexadecimal digits each.
abbrev pub hexadecimal : List ℕ → List ℕ
hexadecimal [] = []
hexadecimal (b ∷ bs) = pair_of b ++ hexadecimal bs
