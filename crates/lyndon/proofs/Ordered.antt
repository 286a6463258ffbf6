-- What `byte_order` makes of the facts that its ways out show.
use mathlib.Core.List.{List}
use mathlib.Core.Path.{◌≡◌, sym}
use Prim.Native.Nat.{ℕ, ◌≤◌, ◌<◌}
use native.Mathlib.Omega.{arith}
use lib.ListN.{length}
use Rattle.ranks.proofs.Ranked.{byte_order_lists}
use Rattle.ranks.specs.Ranks.{byte_order}
use Rattle.refusals.proofs.First.{none, too_short_lem, not_short}
use Rattle.refusals.proofs.Outcome.{fills_refused, fills_accepted}
use Rattle.rows.specs.Row.{written}
use Rattle.lyndon.specs.Calls.{ByteOrderWritten}

module _ (row : List ℕ) where
  pub order_no_room : length row < 256 → ByteOrderWritten row row (record { refusal = 8; count = 0 })
  order_no_room h = fills_refused (too_short_lem (length byte_order) (length row) (omega (arith, byte_order_lists.size)))

  pub order_written : {row' : List ℕ} → 256 ≤ length row → row' ≡ written byte_order row → ByteOrderWritten row row' (record { refusal = 0; count = 256 })
  order_written h w =
      fills_accepted (not_short (length byte_order) (length row) (omega (arith, byte_order_lists.size)) none) (sym byte_order_lists.size) w
