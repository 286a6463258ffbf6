-- Groups of three numbers each as records, and a row that is filled with them from its front.
use Rattle.std.specs.Prelude.{List, [], ◌∷◌, ◌++◌, ℕ, zero, suc, ◌+◌, ◌*◌, get_or, drop}
use Rattle.records.specs.declared.Group.{Group}

-- The i-th group of three numbers.
abbrev pub group_at : ℕ → List ℕ → Group
group_at i ns = record { start = get_or ns (3 * i) 0; length = get_or ns (3 * i + 1) 0; power = get_or ns (3 * i + 2) 0 }

-- The first k groups.
abbrev pub groups_of : ℕ → List ℕ → List Group
groups_of zero ns = []
groups_of (suc k) [] = []
groups_of (suc k) (a ∷ []) = []
groups_of (suc k) (a ∷ b ∷ []) = []
groups_of (suc k) (a ∷ b ∷ c ∷ ns) = record { start = a; length = b; power = c } ∷ groups_of k ns

-- The row with k groups written from its front.
unfoldable pub filled : ℕ → List ℕ → List Group → List Group
filled k ns row = groups_of k ns ++ drop k row
