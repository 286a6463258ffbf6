-- The trainer's sheet: the cases P1 to P14 as one table, and one theorem that proves every row from the definitions, by computing.
-- A second table holds the other facts of the paper about single words, a third equal words at the seams of an edit. A letter stands for its
-- ASCII code.
use mathlib.Core.Bool.{Bool, true, false}
use mathlib.Core.List.{List, [], ◌∷◌, ◌++◌}
use mathlib.Core.Path.{◌≡◌, refl}
use Prim.Native.Nat.{ℕ}
use lib.ListN.{length}
use Rattle.words.specs.Order.{lyndon}
use Rattle.words.specs.Factors.{factors, Group}
use Rattle.words.specs.Tables.{lyndon_array, last_factors, longest, longest_starts, longest_at, last_factor, lyndon_starts, groups}
use Rattle.words.specs.Rotation.{least_rotation, repeated}
use Rattle.words.specs.Tree.{tree_nodes, node_numbers, split}
use Rattle.words.specs.Edit.{edited, kept, kept_of, resume, middle, middle_of, middle_groups, bits}
use Rattle.words.proofs.Answer.{answer}
use Rattle.words.proofs.Groups.{group}
use Rattle.words.proofs.Joined.{join_equal, kept_groups, resumed_groups}

pub data Row : Type 0 where
  -- a pattern: its factors, the longest length, and all starts
  cut : List ℕ → List (List ℕ) → ℕ → List ℕ → Row
  -- a pattern and its phase mark
  rotated : List ℕ → ℕ → Row
  -- a pattern, and whether it is a shorter word repeated
  repeating : List ℕ → Bool → Row
  -- a string that is no Lyndon word
  not_lyndon : List ℕ → Row
  -- an edit (pattern, from, to, block): kept, middle groups, resume, the longest length, and all starts
  edit : List ℕ → ℕ → ℕ → List ℕ → ℕ → List Group → ℕ → ℕ → List ℕ → Row
  -- a pattern and its reach table
  reached : List ℕ → List ℕ → Row
  -- a pattern and its prefix table
  ended : List ℕ → List ℕ → Row
  -- a Lyndon word and the numbers of its tree's nodes
  tree : List ℕ → List ℕ → Row
  -- a pattern and its groups
  grouped : List ℕ → List Group → Row
  -- an edit (pattern, from, to, block): the groups of kept, middle and resumed factors, each part grouped on its own, and those of the whole, which
  -- are these with equal neighbours joined
  seams : List ℕ → ℕ → ℕ → List ℕ → List Group → List Group → List Group → List Group → Row
  -- a number and how many binary digits it has
  digits : ℕ → ℕ → Row

abbrev pub Holds : Row → Type 0
Holds (cut s fs l starts) = (factors s ≡ fs) × (longest s ≡ l) × (longest_starts s ≡ starts)
Holds (rotated s m) = least_rotation s ≡ m
Holds (repeating s told) = repeated s ≡ told
Holds (not_lyndon s) = lyndon s ≡ false
Holds (edit s from to b c gs r l starts) =
    answer s from to b ≡ record { kept = c; resume = r; groups = gs; group_count = length gs; longest = l; starts = starts; start_count = length starts }
Holds (reached s row) = lyndon_array s ≡ row
Holds (ended s row) = last_factors s ≡ row
Holds (tree w row) = node_numbers (tree_nodes 0 w) ≡ row
Holds (grouped s gs) = groups s ≡ gs
Holds (seams s from to b first mid last gs) =
    (kept_groups s from to b ≡ first) × (middle_groups s from to b ≡ mid) × (resumed_groups s from to b ≡ last)
    × (groups (edited s from to b) ≡ gs) × (join_equal (edited s from to b) (first ++ (mid ++ last)) ≡ gs)
Holds (digits m d) = bits m ≡ d

abbrev pub Hold : List Row → Type 0
Hold [] = Unit {0}
Hold (r ∷ rs) = Holds r × Hold rs

abbrev a : ℕ
a = 97

abbrev b : ℕ
b = 98

abbrev c : ℕ
c = 99

abbrev acbabcabcabac : List ℕ
acbabcabcabac = a ∷ c ∷ b ∷ a ∷ b ∷ c ∷ a ∷ b ∷ c ∷ a ∷ b ∷ a ∷ c ∷ []

abbrev ababbababbabb : List ℕ
ababbababbabb = a ∷ b ∷ a ∷ b ∷ b ∷ a ∷ b ∷ a ∷ b ∷ b ∷ a ∷ b ∷ b ∷ []

abbrev pub sheet : List Row
sheet =
    cut [] [] 0 []  -- P1
    ∷ rotated [] 0  -- P1
    ∷ cut (a ∷ []) ((a ∷ []) ∷ []) 1 (0 ∷ [])  -- P2
    ∷ cut (a ∷ a ∷ []) ((a ∷ []) ∷ (a ∷ []) ∷ []) 1 (0 ∷ 1 ∷ [])  -- P3
    ∷ not_lyndon (a ∷ a ∷ [])  -- P3
    ∷ cut acbabcabcabac ((a ∷ c ∷ b ∷ []) ∷ (a ∷ b ∷ c ∷ []) ∷ (a ∷ b ∷ c ∷ []) ∷ (a ∷ b ∷ a ∷ c ∷ []) ∷ []) 4 (9 ∷ [])  -- P4
    ∷ edit acbabcabcabac 5 6 (b ∷ []) 1 (group 3 6 1 ∷ []) 9 6 (3 ∷ [])  -- P5
    ∷ edit acbabcabcabac 11 11 (a ∷ []) 3 (group 9 2 1 ∷ group 11 3 1 ∷ []) 13 3 (0 ∷ 3 ∷ 6 ∷ 11 ∷ [])  -- P6
    ∷ edit acbabcabcabac 9 10 [] 1 (group 3 9 1 ∷ []) 13 9 (3 ∷ [])  -- P7
    ∷ edit acbabcabcabac 1 3 (b ∷ a ∷ c ∷ []) 0 (group 0 10 1 ∷ []) 9 10 (0 ∷ [])  -- P8
    ∷ edit acbabcabcabac 7 10 [] 2 (group 6 4 1 ∷ []) 13 4 (6 ∷ [])  -- P9
    ∷ reached (0 ∷ 1 ∷ 1 ∷ 0 ∷ 2 ∷ 3 ∷ 1 ∷ 2 ∷ 2 ∷ []) (9 ∷ 1 ∷ 1 ∷ 6 ∷ 2 ∷ 1 ∷ 3 ∷ 1 ∷ 1 ∷ [])  -- P10
    ∷ ended ababbababbabb (1 ∷ 2 ∷ 1 ∷ 2 ∷ 5 ∷ 1 ∷ 2 ∷ 1 ∷ 2 ∷ 5 ∷ 1 ∷ 2 ∷ 13 ∷ [])  -- P11
    ∷ reached ababbababbabb (13 ∷ 1 ∷ 3 ∷ 1 ∷ 1 ∷ 8 ∷ 1 ∷ 3 ∷ 1 ∷ 1 ∷ 3 ∷ 1 ∷ 1 ∷ [])  -- P11
    ∷ edit (a ∷ a ∷ []) 1 1 (a ∷ []) 1 (group 1 1 1 ∷ []) 1 1 (0 ∷ 1 ∷ 2 ∷ [])  -- P12
    ∷ edit (a ∷ b ∷ a ∷ []) 3 3 (c ∷ []) 0 (group 0 4 1 ∷ []) 3 4 (0 ∷ [])  -- P13
    ∷ tree (a ∷ a ∷ b ∷ a ∷ b ∷ []) (0 ∷ 5 ∷ 0 ∷ 3 ∷ 0 ∷ 1 ∷ 1 ∷ 2 ∷ 1 ∷ 1 ∷ 2 ∷ 1 ∷ 3 ∷ 2 ∷ 3 ∷ 1 ∷ 4 ∷ 1 ∷ [])  -- P14
    ∷ []

pub sheet_holds : Hold sheet
unfolding factors longest longest_starts lyndon_starts longest_at lyndon_array last_factor last_factors least_rotation split tree_nodes edited kept kept_of resume middle middle_of middle_groups answer
sheet_holds = ((refl, refl, refl), (refl, ((refl, refl, refl), ((refl, refl, refl), (refl, ((refl, refl, refl), (refl, (refl, (refl, (refl, (refl, (refl, (refl, (refl, (refl, (refl, (refl, tt)))))))))))))))))

-- 7F 80 (hexadecimal) is one Lyndon word and 80 7F is two; abab is none. The phase marks of baab and abab are 1 and 0; abab and abcabcabc are
-- shorter words repeated, and baab, a and the empty pattern are not. Then the groups of the worked listing, and binary digits at their edges.
abbrev pub facts : List Row
facts =
    cut (127 ∷ 128 ∷ []) ((127 ∷ 128 ∷ []) ∷ []) 2 (0 ∷ [])
    ∷ cut (128 ∷ 127 ∷ []) ((128 ∷ []) ∷ (127 ∷ []) ∷ []) 1 (0 ∷ 1 ∷ [])
    ∷ not_lyndon (a ∷ b ∷ a ∷ b ∷ [])
    ∷ rotated (b ∷ a ∷ a ∷ b ∷ []) 1
    ∷ rotated (a ∷ b ∷ a ∷ b ∷ []) 0
    ∷ repeating (a ∷ b ∷ a ∷ b ∷ []) true
    ∷ repeating (a ∷ b ∷ c ∷ a ∷ b ∷ c ∷ a ∷ b ∷ c ∷ []) true
    ∷ repeating (b ∷ a ∷ a ∷ b ∷ []) false
    ∷ repeating (a ∷ []) false
    ∷ repeating [] false
    ∷ grouped acbabcabcabac (group 0 3 1 ∷ group 3 3 2 ∷ group 9 4 1 ∷ [])
    ∷ digits 0 0
    ∷ digits 1 1
    ∷ digits 16383 14
    ∷ digits 16384 15
    ∷ []

pub facts_hold : Hold facts
unfolding factors longest longest_starts lyndon_starts least_rotation repeated groups bits
facts_hold = ((refl, refl, refl), ((refl, refl, refl), (refl, (refl, (refl, (refl, (refl, (refl, (refl, (refl, (refl, (refl, (refl, (refl, (refl, tt)))))))))))))))

-- Equal words at the seams of an edit: at the first, at the second, at both (P12, and groups of two words each), through an empty middle; and at
-- neither, though the words are of equal length.
abbrev pub seam_facts : List Row
seam_facts =
    seams (a ∷ b ∷ a ∷ []) 2 2 (a ∷ b ∷ []) (group 0 2 1 ∷ []) (group 2 2 1 ∷ []) (group 4 1 1 ∷ []) (group 0 2 2 ∷ group 4 1 1 ∷ [])
    ∷ seams (b ∷ a ∷ b ∷ []) 1 1 (a ∷ b ∷ []) (group 0 1 1 ∷ []) (group 1 2 1 ∷ []) (group 3 2 1 ∷ []) (group 0 1 1 ∷ group 1 2 2 ∷ [])
    ∷ seams (a ∷ a ∷ []) 1 1 (a ∷ []) (group 0 1 1 ∷ []) (group 1 1 1 ∷ []) (group 2 1 1 ∷ []) (group 0 1 3 ∷ [])
    ∷ seams (a ∷ a ∷ a ∷ a ∷ []) 2 2 (a ∷ a ∷ []) (group 0 1 2 ∷ []) (group 2 1 2 ∷ []) (group 4 1 2 ∷ []) (group 0 1 6 ∷ [])
    ∷ seams (a ∷ b ∷ a ∷ a ∷ a ∷ b ∷ []) 2 4 [] (group 0 2 1 ∷ []) [] (group 2 2 1 ∷ []) (group 0 2 2 ∷ [])
    ∷ seams (c ∷ a ∷ []) 1 1 (b ∷ []) (group 0 1 1 ∷ []) (group 1 1 1 ∷ []) (group 2 1 1 ∷ []) (group 0 1 1 ∷ group 1 1 1 ∷ group 2 1 1 ∷ [])
    ∷ []

pub seam_facts_hold : Hold seam_facts
unfolding factors edited kept kept_of resume middle middle_of middle_groups groups
seam_facts_hold = ((refl, refl, refl, refl, refl), ((refl, refl, refl, refl, refl), ((refl, refl, refl, refl, refl), ((refl, refl, refl, refl, refl), ((refl, refl, refl, refl, refl), ((refl, refl, refl, refl, refl), tt))))))
