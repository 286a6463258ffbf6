-- One number for a long row, printed in its place.
use Rattle.std.specs.Prelude.{List, [], ◌∷◌, ℕ, ◌+◌, ◌*◌, ◌%◌, ⊤}

-- The digest of the entries behind those of digest d.
abbrev pub digest_from : ℕ → List ℕ → ℕ
digest_from d [] = d
digest_from d (x ∷ xs) = digest_from ((d * 31 + x) % 65521) xs

-- The numbers that entries are converted to, one by one.
abbrev pub Numbers : {A : Type 0} → (A → ℕ → Type 0) → List A → List ℕ → Type 0
Numbers converts [] [] = ⊤
Numbers converts [] (n ∷ ns) = ⊥
Numbers converts (x ∷ xs) [] = ⊥
Numbers converts (x ∷ xs) (n ∷ ns) = converts x n × Numbers converts xs ns
