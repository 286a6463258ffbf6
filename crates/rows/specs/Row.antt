-- What a lent row holds after a result was written to it.
use Rattle.std.specs.Prelude.{List, ◌++◌, ℕ, length, take, drop}

-- The result, then the row's old entries from there on.
abbrev pub written : {A : Type 0} → List A → List A → List A
written out row = out ++ drop (length out) row

-- The same from place i of the row on.
abbrev pub written_at : ℕ → List ℕ → List ℕ → List ℕ
written_at i out row = take i row ++ written out (drop i row)
