-- A text at the front of a buffer, as a program is to print it.
use mathlib.Core.List.{List}
use mathlib.Core.Path.{ap}
use Prim.Native.Nat.{ℕ, ◌≤◌}
use native.Mathlib.Omega.{arith}
use lib.ListN.{length, drop, length-append}
use Rattle.rows.specs.Written.{Puts}
use Rattle.text.specs.Listing.{Begins}

pub puts_begins : {xs d b : List ℕ} {n : ℕ} → Puts xs 0 d b n → Begins xs d b n
puts_begins p = record { size = omega (arith, p.next); leaves = p.leaves }

pub begins_within : {xs d b : List ℕ} {n : ℕ} → Begins xs d b n → n ≤ length b
begins_within {xs} {d} p = omega (arith, p.size, ap length p.leaves, length-append xs (drop (length xs) d))
