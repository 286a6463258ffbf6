-- The first start of a factor at or after a place.
use mathlib.Core.List.{List}
use mathlib.Core.Logic.{◌⊎◌, inl, inr}
use mathlib.Core.Path.{◌≡◌}
use Prim.Native.Nat.{ℕ, zero, suc, ◌+◌, ◌-◌, ◌*◌, ◌/◌, ◌≤◌, ◌<◌}
use native.Mathlib.Nat.{div-mul-le_self, lt-div-mul-add, div-lt_iff_lt-mul}
use native.Mathlib.Omega.{arith}
use borrow.Author.Tests.{le-leb, lt-leb}
use Rattle.words.specs.Factors.{factors}
use Rattle.words.proofs.Bounded.{le_or_lt}
use Rattle.words.proofs.Factors.{factors_falling}
use Rattle.words.proofs.EditParts.{end_apart, end_grows}
use Rattle.scan.specs.Group.{NextGroup}
use Rattle.cuts.specs.Bounds.{Boundary, StartsBy, start_with}
use Rattle.cuts.proofs.Along.{At, at_start, at_words}

-- a boundary by its number
abbrev at_boundary : {t : List ℕ} {count i : ℕ} → At t count i → Boundary (factors t) i
at_boundary {t} {count} a = record { index = count; within = a.within; at = a.at }

-- the place itself is a start
start_here : {t : List ℕ} {count i : ℕ} → At t count i → (q : ℕ) → i ≡ q → StartsBy (factors t) q i
start_here {t} {count} a q e =
    record {
      boundary = at_boundary a;
      after = omega arith;
      first = λ k l. omega (arith, end_apart k count (factors t) (factors_falling t) (omega arith) a.within, a.at);
    }

-- the start before this one lies before the place
start_next : {t : List ℕ} {count before i : ℕ} → At t count before → At t (suc count) i → (q : ℕ) → before < q → q ≤ i → StartsBy (factors t) q i
start_next {t} {count} a b q h l =
    record { boundary = at_boundary b; after = l; first = λ k m. omega (arith, end_grows k count (factors t) (omega arith), a.at) }

module _ (t : List ℕ) (i : ℕ) (b : Boundary (factors t) i) where
  here : At t b.index i
  here = record { within = b.within; at = b.at }

  pub boundary_here : (q : ℕ) → i ≡ q → StartsBy (factors t) q i
  boundary_here q e = start_here here q e

  module _ {size power : ℕ} (g : NextGroup t i size power) where
    pub boundary_next : Boundary (factors t) (i + power * size)
    boundary_next = at_boundary (at_words here g power (omega arith))

    -- the first of the group's starts that is not before the place, or the group's end
    pub boundary_inside : (q : ℕ) → i ≤ q → q ≤ i + power * size → StartsBy (factors t) q (i + (q - i + size - 1) / size * size)
    boundary_inside q h l = go ((q - i + size - 1) / size) few (div-mul-le_self (q - i + size - 1) size) (lt-div-mul-add g.factor)
      where
        few : (q - i + size - 1) / size < suc power
        few = (div-lt_iff_lt-mul g.factor).1 (omega (arith, g.factor))

        go : (k : ℕ) → k < suc power → k * size ≤ q - i + size - 1 → q - i + size - 1 < k * size + size → StartsBy (factors t) q (i + k * size)
        go zero m n o = start_here (at_words here g 0 (omega arith)) q (omega arith)
        go (suc k) m n o =
            let e : b.index + suc k ≡ suc (b.index + k) = omega arith in
            start_next (at_words here g k (omega arith)) (rw e at (at_words here g (suc k) (omega arith))) q
            (omega (arith, g.factor)) (omega (arith, g.factor))

-- what group after group joins to the first start
module _ (place q i l e : ℕ) where
  pub start_past : q ≤ i → start_with place q i l e ≡ place
  unfolding start_with
  start_past h = rw (le-leb q i h)

  pub start_end : i < q → i + e * l ≤ q → start_with place q i l e ≡ i + e * l
  unfolding start_with
  start_end h k = rw (lt-leb q i h, le-leb (i + e * l) q k)

  pub start_inside : i < q → q < i + e * l → start_with place q i l e ≡ i + (q - i + l - 1) / l * l
  unfolding start_with
  start_inside h k = rw (lt-leb q i h, lt-leb (i + e * l) q k)

-- the factors before place i end there; where one starts at or after q, the first that does is known
pub record Reached (t : List ℕ) (q i place : ℕ) : Type 0 where
  pub boundary : Boundary (factors t) i
  pub past : q ≤ i → StartsBy (factors t) q place

pub reached_none : (t : List ℕ) (q : ℕ) → Reached t q 0 0
reached_none t q =
    record { boundary = at_boundary (at_start t); past = λ h. boundary_here t 0 (at_boundary (at_start t)) q (omega arith) }

pub reached_more : {t : List ℕ} {q i place l e : ℕ} → Reached t q i place → NextGroup t i l e → Reached t q (i + e * l) (start_with place q i l e)
reached_more {t} {q} {i} {place} {l} {e} r g = go (le_or_lt q i) (le_or_lt (i + e * l) q)
  where
    next : Boundary (factors t) (i + e * l)
    next = boundary_next t i r.boundary g

    go : (q ≤ i) ⊎ (i < q) → (i + e * l ≤ q) ⊎ (q < i + e * l) → Reached t q (i + e * l) (start_with place q i l e)
    go (inl h) k = rw (start_past place q i l e h) (record { boundary = next; past = λ m. r.past h })
    go (inr h) (inl k) =
        rw (start_end place q i l e h k)
        (record { boundary = next; past = λ m. boundary_here t (i + e * l) next q (omega arith) })
    go (inr h) (inr k) =
        rw (start_inside place q i l e h k)
        (record { boundary = next; past = λ m. boundary_inside t i r.boundary g q (omega arith) (omega arith) })
