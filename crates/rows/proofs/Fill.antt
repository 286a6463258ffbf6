-- A row that is made entry by entry from one side, or tested so: what is made, what is as it was, and what all entries together tell.
use mathlib.Core.Bool.{true, false}
use mathlib.Core.List.{List}
use mathlib.Core.Logic.{◌⊎◌, inl, inr}
use mathlib.Core.Path.{◌≡◌, refl, sym, ap, ◌∙◌}
use Prim.Native.Nat.{ℕ, ◌+◌, ◌-◌, ◌≤◌, ◌<◌}
use native.Mathlib.Omega.{arith}
use lib.ListN.{length, take, drop, set, get_or, length-append, length-take, length-drop, length-set, get_or-append}
use lib.Seq.{get_or-take, get_or-drop, get_or-append-add, get_or-set_same, get_or-set_other, ext_get_or}
use Rattle.words.specs.Order.{same}
use Rattle.words.proofs.Bounded.{le_or_lt}
use Rattle.words.proofs.Order.{ThreeN, smaller_n, equal_n, greater_n, three_n, true_same, false_same}
use Rattle.rows.specs.Row.{written}
pub use Rattle.rows.specs.Filled.{Right, Filled}

module _ (f : ℕ → ℕ) (row : List ℕ) where
  pub right_none : (i : ℕ) → Right f row i i
  right_none i k a b = absurd (omega arith)

  pub right_one : (i j : ℕ) → i + 1 ≡ j → get_or row i 0 ≡ f i → Right f row i j
  right_one i j e h k a b =
      let q : k ≡ i = omega arith in
      rw q h

  pub right_join : (i j n : ℕ) → Right f row i j → Right f row j n → Right f row i n
  right_join i j n g h k a b = go (le_or_lt j k)
    where
      go : (j ≤ k) ⊎ (k < j) → get_or row k 0 ≡ f k
      go (inl l) = h k l b
      go (inr l) = g k a l

-- a row whose entries are right as it is
pub filled_start : (f : ℕ → ℕ) (n : ℕ) {d : List ℕ} {from to : ℕ} → Right f d from to → Filled f n d d from to
filled_start f n r = record { size = refl; inside = r; before = λ k a. refl; past = λ k a. refl }

pub filled_none : (f : ℕ → ℕ) (n : ℕ) (d : List ℕ) (i : ℕ) → Filled f n d d i i
filled_none f n d i = filled_start f n (right_none f d i)

-- a row that was filled from a place on, and then from there or an earlier one
pub filled_on : {f : ℕ → ℕ} {n : ℕ} {d e row : List ℕ} {from from' to to' : ℕ} → Filled f n d e from to → Filled f n e row from' to' → from' ≤ from
    → Filled f n d row from' to'
filled_on g g' h =
    record {
      size = g'.size ∙ g.size;
      inside = g'.inside;
      before = λ k a. g'.before k a ∙ g.before k (omega arith);
      past = λ k a. g'.past k a ∙ g.past k a;
    }

-- an entry after a write at j
pub set_entry : (row : List ℕ) (j x k v : ℕ) → j < length row → (k ≡ j → x ≡ v) → ((k ≡ j → ⊥) → get_or row k 0 ≡ v)
    → get_or (set row j x) k 0 ≡ v
set_entry row j x k v h here there = go (three_n k j)
  where
    go : ThreeN k j → get_or (set row j x) k 0 ≡ v
    go (smaller_n l) = get_or-set_other row j k x 0 (λ e. omega arith) ∙ there (λ e. omega arith)
    go (equal_n e) = rw e (get_or-set_same row j x 0 h ∙ here e)
    go (greater_n l) = get_or-set_other row j k x 0 (λ e. omega arith) ∙ there (λ e. omega arith)

module _ {f : ℕ → ℕ} {n : ℕ} {d row : List ℕ} {from to : ℕ} (g : Filled f n d row from to)
    (room : n ≤ length d) (j x : ℕ) (entry : x ≡ f j) (fits : j < n) where
  filled_set : (from' to' : ℕ) → from' ≤ from → from' ≤ j → ((k : ℕ) → from' ≤ k → k < to' → (k ≡ j → ⊥) → (from ≤ k) × (k < to))
      → Filled f n d (set row j x) from' to'
  filled_set from' to' a b new =
      let h : j < length row = omega (arith, g.size) in
      record {
        size = length-set row j x ∙ g.size;
        inside =
            λ k p q. set_entry row j x k (f k) h (λ e. entry ∙ ap f (sym e)) (λ e. g.inside k (new k p q e).0 (new k p q e).1);
        before = λ k p. set_entry row j x k (get_or d k 0) h (λ e. absurd (omega arith)) (λ e. g.before k (omega arith));
        past = λ k p. set_entry row j x k (get_or d k 0) h (λ e. absurd (omega arith)) (λ e. g.past k p);
      }

  pub filled_down : j + 1 ≡ from → Filled f n d (set row j x) j to
  filled_down e = filled_set j to (omega arith) (omega arith) (λ k p q r. (omega arith, q))

  pub filled_up : from ≤ to → to ≡ j → Filled f n d (set row j x) from (j + 1)
  filled_up h e = filled_set from (j + 1) (omega arith) (omega arith) (λ k p q r. (p, omega arith))

-- The list has the first n entries of f.
pub record Lists (out : List ℕ) (f : ℕ → ℕ) (n : ℕ) : Type 0 where
  pub size : length out ≡ n
  pub entry : (k : ℕ) → k < n → get_or out k 0 ≡ f k

module _ {out : List ℕ} {f : ℕ → ℕ} {n : ℕ} (t : Lists out f n) (row : List ℕ) where
  pub filled_all : {d : List ℕ} → n ≤ length d → Filled f n d row 0 n → row ≡ written out d
  filled_all {d} room g =
      let long : length d ≡ length (written out d) =
      omega (arith, t.size, length-append out (drop (length out) d), length-drop (length out) d) in
      ext_get_or 0 row (written out d) (g.size ∙ long) (λ k h. go k (le_or_lt n k))
    where
      go : (k : ℕ) → (n ≤ k) ⊎ (k < n) → get_or row k 0 ≡ get_or (written out d) k 0
      go k (inl h) =
          let e : length out + (k - n) ≡ k = omega (arith, t.size) in
          g.past k h ∙ sym (rw e at (get_or-append-add out (drop (length out) d) (k - n) 0 ∙ get_or-drop (length out) d (k - n) 0))
      go k (inr h) =
          g.inside k (omega arith) h ∙ sym (get_or-append out (drop (length out) d) 0 k (omega (arith, t.size)) ∙ t.entry k h)

  -- the first n entries of the row, tested
  module _ (room : n ≤ length row) where
    pub tested_all : Right f row 0 n → true ≡ same (take n row) out
    tested_all h =
        let long : length (take n row) ≡ length out = omega (arith, t.size, length-take n row) in
        sym (true_same (take n row) out (ext_get_or 0 (take n row) out long (λ k l. go k (omega (arith, length-take n row)))))
      where
        go : (k : ℕ) → k < n → get_or (take n row) k 0 ≡ get_or out k 0
        go k l = get_or-take n row k 0 l ∙ h k (omega arith) l ∙ sym (t.entry k l)

    pub tested_wrong : (k : ℕ) → k < n → (get_or row k 0 ≡ f k → ⊥) → false ≡ same (take n row) out
    tested_wrong k h wrong =
        sym (false_same (take n row) out (λ e. wrong (sym (get_or-take n row k 0 h) ∙ ap (λ u. get_or u k 0) e ∙ t.entry k h)))
