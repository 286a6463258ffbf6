-- What the writer of a line makes of one.
use Rattle.std.specs.Prelude.{List, ℕ, length}
use Rattle.text.specs.Listing.{line}
use Rattle.text_writers.specs.declared.Line as row

-- The text of a line: the length of its word stands behind the start.
abbrev pub text_of : row.Line → List ℕ
text_of l = line l.start (length l.word.now) l.power l.word.now l.shared
