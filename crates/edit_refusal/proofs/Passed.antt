-- What holds of an edit that passes the refusals 1 to 5: its shape, and that the first table is right.
use mathlib.Core.Bool.{Bool, true, false}
use mathlib.Core.List.{List}
use mathlib.Core.Logic.{◌⊎◌, inl, inr}
use mathlib.Core.Path.{◌≡◌, refl, sym, ◌∙◌}
use Prim.Native.Nat.{ℕ, ◌+◌, ◌-◌, ◌≤◌, ◌<◌}
use native.Mathlib.Omega.{arith}
use lib.ListN.{length, take}
use Rattle.refusals.specs.Refusals.{first_of, max_pattern, max_block, edit_refusals}
use Rattle.words.specs.Tables.{lyndon_array}
use Rattle.words.proofs.Bounded.{le_or_lt}
use Rattle.words.proofs.Order.{same_true}
use Rattle.edit_refusal.proofs.Refused.{Shaped, refuses_pattern, refuses_backward, refuses_end}
use Rattle.edit_refusal.proofs.Refused.{refuses_block, refuses_edited, refuses_array_short, refuses_array}

not_over : (a b : ℕ) → (b < a → ⊥) → a ≤ b
not_over a b h = go (le_or_lt a b)
  where
    go : (a ≤ b) ⊎ (b < a) → a ≤ b
    go (inl l) = l
    go (inr l) = absurd (h l)

not_wrong : (b : Bool) → (b ≡ false → ⊥) → b ≡ true
not_wrong true h = refl
not_wrong false h = absurd (h refl)

module _ (s array last : List ℕ) (from to : ℕ) (b : List ℕ) {n : ℕ} (first : n ≡ first_of (edit_refusals s array last from to b)) (zero : n ≡ 0) where
  none : first_of (edit_refusals s array last from to b) ≡ 0
  none = sym first ∙ zero

  short : length s ≤ max_pattern
  short = not_over (length s) max_pattern (λ h. omega (arith, none, refuses_pattern s array last from to b h))

  forward : from ≤ to
  forward = not_over from to (λ h. omega (arith, none, refuses_backward s array last from to b short h))

  within : to ≤ length s
  within = not_over to (length s) (λ h. omega (arith, none, refuses_end s array last from to b short forward h))

  block_short : length b ≤ max_block
  block_short = not_over (length b) max_block (λ h. omega (arith, none, refuses_block s array last from to b short forward within h))

  edited_short : from + length b + (length s - to) ≤ max_pattern
  edited_short =
      not_over (from + length b + (length s - to)) max_pattern
      (λ h. omega (arith, none, refuses_edited s array last from to b short forward within block_short h))

  pub passed_shape : Shaped s from to b
  passed_shape = record { pattern = short; start = forward; stretch = within; block = block_short; fits = edited_short }

  array_long : length s ≤ length array
  array_long = not_over (length s) (length array) (λ h. omega (arith, none, refuses_array_short s array last from to b passed_shape h))

  pub passed_table : take (length s) array ≡ lyndon_array s
  passed_table =
      same_true (take (length s) array) (lyndon_array s)
      (not_wrong _ (λ h. omega (arith, none, refuses_array s array last from to b passed_shape array_long h)))
