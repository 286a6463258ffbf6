-- The refusals: a number and a test each, but that of 12 is given from outside. A call has a list of them and refuses by the first that holds.
use Rattle.std.specs.Prelude.{Bool, cond, not, ◌||◌, List, [], ◌∷◌, ℕ, zero, suc, ltb, length, take}
use Rattle.ranks.specs.Ranks.{is_order}
use Rattle.rows.specs.Row.{written}
use Rattle.words.specs.Edit.{edited}
use Rattle.words.specs.Order.{lyndon, same}
use Rattle.words.specs.Rotation.{repeated}
use Rattle.words.specs.Tables.{lyndon_array, last_factors}

pub record Refusal : Type 0 where
  pub number : ℕ
  pub holds : Bool

-- The number of the first refusal that holds, and 0 where none does.
abbrev pub first_of : List Refusal → ℕ
first_of [] = 0
first_of (r ∷ rs) = let later = first_of rs in cond r.holds r.number later

-- What a call gives where this number refuses it: 0 refuses nothing and leaves the value, any other gives what stands beside a refusal.
abbrev pub unless_refused : {A : Type 0} → ℕ → A → A → A
unless_refused zero value beside = value
unless_refused (suc k) value beside = beside

-- A row to which a result is to be written: as it was where the call is refused.
abbrev pub row_after : {A : Type 0} → ℕ → List A → List A → List A
row_after refusal out row = unless_refused refusal (written out row) row

abbrev pub max_pattern : ℕ
max_pattern = 16384

abbrev pub max_block : ℕ
max_block = 256

abbrev pub max_tree : ℕ
max_tree = 256

abbrev pub max_wanted : ℕ
max_wanted = 256

abbrev pub pattern_too_long : List ℕ → Refusal
pattern_too_long s = record { number = 1; holds = ltb max_pattern (length s) }

-- A position past the end; a stretch that ends before its start or past the end.
abbrev pub past_end : List ℕ → ℕ → Refusal
past_end s q = record { number = 2; holds = ltb (length s) q }

abbrev pub no_stretch : List ℕ → ℕ → ℕ → Refusal
no_stretch s from to = record { number = 2; holds = ltb to from || ltb (length s) to }

abbrev pub block_too_long : List ℕ → Refusal
block_too_long b = record { number = 3; holds = ltb max_block (length b) }

abbrev pub edited_too_long : List ℕ → ℕ → ℕ → List ℕ → Refusal
edited_too_long s from to b = record { number = 4; holds = ltb max_pattern (length (edited s from to b)) }

-- The row is shorter than the table, or one of its first entries differs.
abbrev pub not_table : List ℕ → List ℕ → Refusal
not_table table row = record { number = 5; holds = ltb (length row) (length table) || not (same (take (length table) row) table) }

abbrev pub word_too_long : List ℕ → Refusal
word_too_long w = record { number = 6; holds = ltb max_tree (length w) }

abbrev pub not_lyndon : List ℕ → Refusal
not_lyndon w = record { number = 7; holds = not (lyndon w) }

-- There is room for fewer entries than the result needs.
abbrev pub too_short : ℕ → ℕ → Refusal
too_short needs room = record { number = 8; holds = ltb room needs }

-- A shorter word repeated two or more times.
abbrev pub pattern_repeated : List ℕ → Refusal
pattern_repeated s = record { number = 10; holds = repeated s }

abbrev pub wanted_too_long : List ℕ → Refusal
wanted_too_long wanted = record { number = 11; holds = ltb max_wanted (length wanted) }

-- No byte pattern has the wanted table. Nothing here computes it: the call's contract says what the flag means.
abbrev pub no_pattern : Bool → Refusal
no_pattern unrealisable = record { number = 12; holds = unrealisable }

-- The ranks are not exactly 256 entries that hold each of 0 to 255 once.
abbrev pub not_order : List ℕ → Refusal
not_order order = record { number = 13; holds = not (is_order order) }

-- The refusals of an edit that need no result: 1 to 5.
abbrev pub edit_refusals : List ℕ → List ℕ → List ℕ → ℕ → ℕ → List ℕ → List Refusal
edit_refusals s array last from to b =
    pattern_too_long s ∷ no_stretch s from to ∷ block_too_long b ∷ edited_too_long s from to b ∷ not_table (lyndon_array s) array ∷ not_table (last_factors s) last ∷ []
