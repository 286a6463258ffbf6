-- A pattern for a table that nests, as a list of numbers. Its places make a tree: the parent of a place is the one where its stretch ends, and the end
-- of the table is the root. The symbol at a place is the number of its earlier siblings, plus, where its parent is not the root, one more than the
-- symbol there.
use Rattle.std.specs.Prelude.{Bool, cond, List, ℕ, zero, suc, ◌+◌, ltb, eqb, length}
use Rattle.words.specs.Bounded.{table}
use Rattle.realisation.specs.Nested.{end_of}

-- How many k below the bound pass the test.
abbrev pub count : (ℕ → Bool) → ℕ → ℕ
count test zero = 0
count test (suc n) =
    let rest = count test n in
    cond (test n) (suc rest) rest

-- The number of children of m among the places before i.
abbrev pub children_before : List ℕ → ℕ → ℕ → ℕ
children_before t m i = count (λ j. eqb (end_of t j) m) i

-- The symbol at a place; the depth bounds the recursion.
abbrev pub symbol_to : ℕ → List ℕ → ℕ → ℕ
symbol_to zero t i = 0
symbol_to (suc depth) t i =
    let above = suc (symbol_to depth t (end_of t i)) in
    children_before t (end_of t i) i + cond (ltb (end_of t i) (length t)) above 0

unfoldable pub symbol_at : List ℕ → ℕ → ℕ
symbol_at t i = symbol_to (length t) t i

unfoldable pub symbols : List ℕ → List ℕ
symbols t = table (symbol_at t) (length t)
