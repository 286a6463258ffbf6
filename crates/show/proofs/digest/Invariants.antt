-- `show::digest` meets its contract: the digest so far, below its modulus, is that of the numbers of the entries before this one.
use Rattle.std.proofs.Common.{◌≡◌, ◌<◌, ℕ, List, take}
use Rattle.show.specs.Digest.{digest_from, Numbers}
use Rattle.show.proofs.digest.Given as goal

abbrev pub invariant-loop-entry : goal.invariant-loop-entry
invariant-loop-entry g l = (l.d < 65521) × ((ns : List ℕ) × Numbers (g.T.Into.converts) (take l.entry-index l.row) ns × (l.d ≡ digest_from 0 ns))
