-- How `write_symbols` makes the symbols: the children of each place are counted from the left, and from the right each place takes the number of
-- its earlier siblings, and one more than its parent's symbol where that is not the root.
use mathlib.Core.List.{List}
use mathlib.Core.Path.{◌≡◌, refl, sym, ◌∙◌}
use Prim.Native.Nat.{ℕ, suc, ◌+◌, ◌-◌, ◌≤◌, ◌<◌}
use native.Mathlib.Numerals.{add-one}
use native.Mathlib.Omega.{arith}
use lib.Dec.{eqb}
use lib.ListN.{length, set, get_or, replicate, length-set, length-replicate, get_or-replicate}
use borrow.Author.Tests.{eq-eqb, ne_eqb}
use Rattle.rows.proofs.Fill.{Filled, Lists, set_entry}
use Rattle.realisation.specs.Nested.{Nests, end_of}
use Rattle.realisation.specs.Symbols.{children_before, symbol_at, symbols}
use Rattle.realisation.proofs.Count.{count_yes, count_no, count_le}
use Rattle.realisation.proofs.Symbols.{symbols_length, symbols_entry, symbol_last, symbol_below, symbol_bound}

pub symbols_list : (t : List ℕ) → Lists (symbols t) (symbol_at t) (length t)
symbols_list t = record { size = symbols_length t; entry = symbols_entry t }

-- each entry is the number of children that its place has among those before i
pub record Counted (t : List ℕ) (i : ℕ) (children : List ℕ) : Type 0 where
  pub room : length t < length children
  pub entry : (m : ℕ) → m ≤ length t → get_or children m 0 ≡ children_before t m i

-- i is a child of its parent, and of no other place
module _ (t : List ℕ) (i : ℕ) where
  count_here : children_before t (end_of t i) (i + 1) ≡ children_before t (end_of t i) i + 1
  count_here =
      let e : i + 1 ≡ suc i = add-one i in
      rw e (omega (arith, count_yes (λ j. eqb (end_of t j) (end_of t i)) i (eq-eqb (end_of t i) (end_of t i) refl)))

  count_elsewhere : (m : ℕ) → (m ≡ end_of t i → ⊥) → children_before t m (i + 1) ≡ children_before t m i
  count_elsewhere m h = rw add-one (count_no (λ j. eqb (end_of t j) m) i (ne_eqb (end_of t i) m (λ e. h (sym e))))

pub counted_none : (t : List ℕ) (k : ℕ) → length t < k → Counted t 0 (replicate k 0)
counted_none t k h = record { room = omega (arith, length-replicate {A = ℕ} k 0); entry = λ m l. get_or-replicate k m 0 0 (omega arith) }

module _ {t children : List ℕ} (nests : Nests t) where
  module _ {i : ℕ} (h : i < length t) where
    pub counted_few : Counted t i children → get_or children (end_of t i) 0 ≤ i
    counted_few c = omega (arith, c.entry (end_of t i) (nests.within i h), count_le (λ j. eqb (end_of t j) (end_of t i)) i)

    -- the one at i is taken off again
    module _ {next : ℕ} (e : i + 1 ≡ next) (c : Counted t next children) where
      before : Counted t (i + 1) children
      before = rw e c

      pub counted_some : get_or children (end_of t i) 0 ≡ children_before t (end_of t i) i + 1
      counted_some = before.entry (end_of t i) (nests.within i h) ∙ count_here t i

      pub counted_back : (x : ℕ) → x + 1 ≡ get_or children (end_of t i) 0 → Counted t i (set children (end_of t i) x)
      counted_back x less =
          let w = nests.within i h in
          record {
            room = omega (arith, c.room, length-set children (end_of t i) x);
            entry =
                λ k l. set_entry children (end_of t i) x k (children_before t k i) (omega (arith, c.room)) (λ y. rw y (omega (arith, counted_some)))
                (λ y. before.entry k l ∙ count_elsewhere t i k y);
          }

      -- the symbol at i, whose parent is a place, or is the root
      module _ {d row : List ℕ} (f : Filled (symbol_at t) (length t) d row next (length t)) (l : end_of t i < length t) where
        pub made_below : get_or row (end_of t i) 0 + 1 + (get_or children (end_of t i) 0 - 1) ≡ symbol_at t i
        made_below = omega (arith, counted_some, symbol_below nests i h l, f.inside (end_of t i) (omega (arith, nests.some i h)) l)

        pub below_fits : get_or row (end_of t i) 0 + 1 + (get_or children (end_of t i) 0 - 1) < length t
        below_fits = omega (arith, made_below, symbol_bound nests i h)

      pub made_last : length t ≤ end_of t i → get_or children (end_of t i) 0 - 1 ≡ symbol_at t i
      made_last l = omega (arith, counted_some, symbol_last nests i h (omega (arith, nests.within i h)))

      pub last_fits : length t ≤ end_of t i → get_or children (end_of t i) 0 - 1 < length t
      last_fits l = omega (arith, made_last l, symbol_bound nests i h)
