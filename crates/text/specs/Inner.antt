-- The room that the programs' own functions ask for.
use Rattle.std.specs.Prelude.{ℕ, ◌+◌, ◌*◌}
use Rattle.refusals.specs.Refusals.{max_pattern}

-- No listing of a pattern of at most `max_pattern` bytes is longer: `listing_room`.
abbrev pub max_listing : ℕ
max_listing = 32 + 20 * max_pattern
