-- The state of Duval's scan along the prefix table: where it stands, where the next one starts, and that the entries up to there are right.
use Rattle.std.specs.Prelude.{List, ◌⊎◌, ◌≡◌, ℕ, suc, ◌+◌, ◌*◌, ◌≤◌, ◌<◌, length}
use Rattle.rows.specs.Filled.{Right}
use Rattle.words.specs.Demand.{FactorStart}
use Rattle.words.specs.Tables.{last_factor}
use Rattle.words.specs.Scan.{Scan}

-- entry k of the table
abbrev pub last_to : List ℕ → ℕ → ℕ
last_to s k = last_factor s (k + 1)

-- The next scan starts at r, a later start of a factor or the end.
pub record Next (s : List ℕ) (i r : ℕ) : Type 0 where
  pub later : i < r
  pub within : r ≤ length s
  pub start : (r ≡ length s) ⊎ FactorStart s r

-- The scan from i stands at j, and the entries of the row from i up to there are right.
pub record Testing (s row : List ℕ) (i j p : ℕ) : Type 0 where
  pub scan : Scan s i j p
  pub right : Right (last_to s) row i j

-- Some words of length p back from j there is a place of the scan from i.
pub record Back (i j p back : ℕ) : Type 0 where
  pub others : ℕ
  pub words : back ≡ suc others * p
  pub inside : i + back ≤ j
