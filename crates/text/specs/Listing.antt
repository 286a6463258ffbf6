-- The two listings and the refusal line, as CSV by RFC 4180: each line is closed by carriage return and line feed.
use Rattle.std.specs.Prelude.{List, [], ◌∷◌, ◌++◌, ◌≡◌, ℕ, zero, suc, length}
use Rattle.ranks.specs.Ranks.{ranked}
use Rattle.rows.specs.Row.{written}
use Rattle.words.specs.Order.{shared}
use Rattle.words.specs.Factors.{Group, word_of}
use Rattle.words.specs.Tables.{groups}
use Rattle.words.specs.Edit.{edited}
use Rattle.decimal.specs.Decimal.{codes, decimal}
use Rattle.text.specs.Hexadecimal.{hexadecimal}

abbrev pub line_end : List ℕ
line_end = codes "\r\n"

unfoldable pub header : List ℕ
header = codes "start,length,power,word,shared" ++ line_end

-- A number and the comma behind it.
abbrev pub field : ℕ → List ℕ
field n = decimal n ++ codes ","

-- The last number of a line, the comma before it and the line end behind it.
abbrev pub last_field : ℕ → List ℕ
last_field n = codes "," ++ decimal n ++ line_end

-- The column `shared` of a group that stands before these: the shared length of its word and the next group's word, 0 on the last line.
abbrev pub shared_column : List ℕ → Group → List Group → ℕ
shared_column t g [] = 0
shared_column t g (h ∷ gs) = shared (word_of t g) (word_of t h)

-- The line of a group: start, factor length, power, the factor's bytes, and the shared length.
unfoldable pub line : ℕ → ℕ → ℕ → List ℕ → ℕ → List ℕ
line start size power word column = field start ++ field size ++ field power ++ hexadecimal word ++ last_field column

-- The lines of groups of factors of t, in order.
abbrev pub lines : List ℕ → List Group → List ℕ
lines t [] = []
lines t (g ∷ gs) = line g.start g.size g.power (word_of t g) (shared_column t g gs) ++ lines t gs

-- The listing of a pattern: the header, then a line per group.
unfoldable pub listing_text : List ℕ → List ℕ
listing_text s = header ++ lines s (groups s)

-- The same under an order: the groups are those of the ranks, words and shared lengths are of the bytes.
unfoldable pub listing_by : List ℕ → List ℕ → List ℕ
listing_by order s = header ++ lines s (groups (ranked order s))

-- The edited listing: that of the whole edited pattern, so that equal words across the seams of an edit are one group.
abbrev pub edited_text : List ℕ → ℕ → ℕ → List ℕ → List ℕ
edited_text s from to b = listing_text (edited s from to b)

-- All that is printed where a refusal holds.
unfoldable pub refusal_text : ℕ → List ℕ
refusal_text number = codes "refused" ++ last_field number

-- What a program prints: the text where the number is 0, otherwise the refusal line.
abbrev pub printed : ℕ → List ℕ → List ℕ
printed zero text = text
printed (suc number) text = refusal_text (suc number)

-- The buffer begins with the text, the rest is as before, and the answer is the text's length.
pub record Begins (text buffer buffer' : List ℕ) (r : ℕ) : Type 0 where
  pub size : r ≡ length text
  pub leaves : buffer' ≡ written text buffer
