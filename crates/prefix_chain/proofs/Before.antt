-- Equal neighbouring factors counted back along the table of last factors, from the end of a group.
use mathlib.Core.Bool.{Bool, true, false}
use mathlib.Core.List.{List, [], ◌∷◌, ◌++◌, append_assoc, append-nil}
use mathlib.Core.Logic.{◌⊎◌, inl, inr}
use mathlib.Core.Path.{◌≡◌, refl, sym, ap, ◌∙◌}
use Prim.Native.Nat.{ℕ, zero, suc, ◌+◌, ◌*◌, ◌-◌, ◌≤◌, ◌<◌}
use native.Mathlib.Omega.{arith}
use lib.Dec.{eqb}
use lib.ListN.{length, take, drop, get_or, replicate, length-take, replicate-append-replicate}
use lib.Seq.{get_or-take}
use borrow.Author.Tests.{eqb-true, eqb-false}
use Rattle.words.specs.Order.{same}
use Rattle.words.specs.Factors.{join, factors, groups_from}
use Rattle.words.specs.Tables.{last_factor, last_factors, prefix_groups}
use Rattle.words.proofs.Below.{word_length}
use Rattle.words.proofs.Bounded.{le_or_lt}
use Rattle.words.proofs.Order.{same_true, false_same}
use Rattle.words.proofs.Factors.{join_factors}
use Rattle.words.proofs.Groups.{groups_repeat}
use Rattle.words.proofs.Stored.{stored_long}
use Rattle.words.proofs.Tables.{last_some, last_fits, chain_prefix, last_factors_entry, last_factors_length}
use Rattle.ranks.specs.Ranks.{Bytes, ranked}
use Rattle.ranks.specs.Inner.{Ranks}
use Rattle.ranks.proofs.Ranked.{length_ranked, ranked_part, bytes_take, bytes_drop}
use Rattle.ranks.proofs.Shared.{same_ranked}
use Rattle.prefix_chain.specs.Last.{LastGroup}
use Rattle.prefix_chain.proofs.Parted.{Parted, parted, starts_repeat}

-- a row whose first entries are the table of last factors of a pattern's ranks
module _ (o s row : List ℕ) (h : take (length s) row ≡ last_factors (ranked o s)) where
  pub table_room : length s ≤ length row
  table_room = stored_long (length s) row (last_factors (ranked o s)) (last_factors_length (ranked o s) ∙ length_ranked o s) h

  module _ (q : ℕ) (l : 0 < q) (m : q ≤ length s) where
    pub table_entry : get_or row (q - 1) 0 ≡ last_factor (ranked o s) q
    table_entry =
        let e : q - 1 + 1 ≡ q = omega arith in
        let n : q - 1 < length (ranked o s) = omega (arith, length_ranked o s) in
        sym (get_or-take (length s) row (q - 1) 0 (omega arith)) ∙ ap (λ t. get_or t (q - 1) 0) h ∙ rw e at (last_factors_entry (ranked o s) (q - 1) n)

    pub table_fits : get_or row (q - 1) 0 ≤ q
    table_fits = rw table_entry (last_fits (ranked o s) q l (omega (arith, length_ranked o s)))

abbrev last_word : List ℕ → ℕ → ℕ → List ℕ
last_word s q size = take size (drop (q - size) s)

-- the factors of the first q symbols end in `power` equal ones of length `size`, from j on
pub record Equal (s : List ℕ) (q size power j : ℕ) : Type 0 where
  pub factor : 0 < size
  pub some : 0 < power
  pub few : power + j ≤ q
  pub last : j + size ≤ q
  pub at : j + power * size ≡ q
  pub ends : q ≤ length s
  pub parts : factors (take q s) ≡ factors (take j s) ++ replicate power (last_word s q size)

pub equal_start : (s : List ℕ) (q size : ℕ) → 0 < q → q ≤ length s → size ≡ last_factor s q → Equal s q size 1 (q - size)
equal_start s q size l m e =
    let some = last_some s q l m in
    let fits = last_fits s q l m in
    record {
      factor = omega arith;
      some = omega arith;
      few = omega arith;
      last = omega arith;
      at = omega arith;
      ends = m;
      parts = rw e (chain_prefix s q l m);
    }

module _ {s : List ℕ} {q size power j : ℕ} (c : Equal s q size power j) where
  long : length (last_word s q size) ≡ size
  long = word_length s (q - size) size (omega arith)

  equal_stop : Parted 0 (factors (take j s)) (replicate power (last_word s q size)) → LastGroup s q size power
  unfolding prefix_groups
  equal_stop p =
      let w = last_word s q size in
      let e : q - power * size ≡ j = omega arith in
      let n : 0 + length (join (factors (take j s))) ≡ j = omega (arith, ap length (join_factors (take j s)), length-take j s) in
      let r = rw (append-nil, long) at (groups_repeat w [] j power refl c.some) in
      record {
        factor = c.factor;
        some = c.some;
        fits = omega arith;
        group = rw e (ap (groups_from 0) c.parts ∙ rw (n, r) at p);
      }

  pub stop_start : j ≤ 0 → LastGroup s q size power
  unfolding factors
  stop_start l =
      let e : j ≡ 0 = omega arith in
      equal_stop (rw e refl)

  -- x is the entry that ends at j
  module _ {x : ℕ} (l : 0 < j) (entry : x ≡ last_factor s j) where
    fits : last_factor s j ≤ j
    fits = last_fits s j l (omega arith)

    stop_other : same (last_word s j (last_factor s j)) (last_word s q size) ≡ false → LastGroup s q size power
    stop_other h =
        let v = last_word s j (last_factor s j) in
        let w = last_word s q size in
        equal_stop
        (rw (chain_prefix s j l (omega arith)) (parted (factors (take (j - last_factor s j) s)) v (replicate power w) 0 (starts_repeat v w power h)))

    pub stop_length : (x ≡ size → ⊥) → LastGroup s q size power
    stop_length h =
        stop_other
        (false_same (last_word s j (last_factor s j)) (last_word s q size)
        (λ e. h (omega (arith, ap length e, long, word_length s (j - last_factor s j) (last_factor s j) (omega (arith, fits))))))

    equal_more : last_factor s j ≡ size → same (last_word s j size) (last_word s q size) ≡ true → Equal s q size (power + 1) (j - size)
    equal_more f e =
        let w = last_word s q size in
        let n : factors (take j s) ≡ factors (take (j - size) s) ++ (w ∷ []) = rw (← same_true (last_word s j size) w e, ← f) (chain_prefix s j l (omega arith)) in
        let g : 1 + power ≡ power + 1 = omega arith in
        record {
          factor = c.factor;
          some = omega arith;
          few = omega (arith, fits, f);
          last = omega (arith, fits, f);
          at = omega (arith, fits, f);
          ends = c.ends;
          parts =
              c.parts ∙ ap (λ t. t ++ replicate power w) n ∙ append_assoc (factors (take (j - size) s)) (w ∷ []) (replicate power w)
              ∙ ap (λ t. factors (take (j - size) s) ++ t) (rw g at (replicate-append-replicate 1 power w));
        }

-- b is whether the bytes of the word that ends at j are those of the one that ends at q, and x the entry that ends at j
module _ {o : List ℕ} (v : Ranks o) (s : List ℕ) (u : Bytes s) {q size power j x : ℕ} {b : Bool} (c : Equal (ranked o s) q size power j) (l : 0 < j)
    (entry : x ≡ last_factor (ranked o s) j) (k : x ≡ size) (h : b ≡ same (take (j - (j - size)) (drop (j - size) s)) (take (q - (q - size)) (drop (q - size) s)))
  where
    bytes : (p : ℕ) → Bytes (take size (drop (p - size) s))
    bytes p = bytes_take size (drop (p - size) s) (bytes_drop (p - size) s u)

    words : same (last_word (ranked o s) j size) (last_word (ranked o s) q size) ≡ b
    words =
        let m : j - (j - size) ≡ size = omega (arith, fits c l entry) in
        let n : q - (q - size) ≡ size = omega arith in
        rw (← ranked_part o size (j - size) s, ← ranked_part o size (q - size) s)
        (same_ranked v (take size (drop (j - size) s)) (take size (drop (q - size) s)) (bytes j) (bytes q) ∙ sym (rw (m, n) at h))

    pub stop_word : b ≡ false → LastGroup (ranked o s) q size power
    stop_word e = stop_other c l entry (rw (← entry, k) (words ∙ e))

    pub equal_turn : b ≡ true → Equal (ranked o s) q size (power + 1) (j - size)
    equal_turn e = equal_more c l entry (sym entry ∙ k) (words ∙ e)

-- a prefix that is not empty has a last group
pub record LastOf (s : List ℕ) (q : ℕ) : Type 0 where
  pub size : ℕ
  pub power : ℕ
  pub group : LastGroup s q size power

last_from : {s : List ℕ} {q size power j : ℕ} (n : ℕ) → j ≤ n → Equal s q size power j → LastOf s q
last_from {size = size} {power = power} zero h c = record { size = size; power = power; group = stop_start c h }
last_from {s} {q} {size} {power} {j} (suc n) h c = go (λ d. last_from {power = power + 1} n (omega (arith, c.factor)) d) (le_or_lt j 0)
  where
    go : (Equal s q size (power + 1) (j - size) → LastOf s q) → (j ≤ 0) ⊎ (0 < j) → LastOf s q
    go more (inl k) = record { size = size; power = power; group = stop_start c k }
    go more (inr k) = by_length (eqb (last_factor s j) size) refl
      where
        by_word : (b : Bool) → last_factor s j ≡ size → same (last_word s j size) (last_word s q size) ≡ b → LastOf s q
        by_word false f e = record { size = size; power = power; group = stop_other c k refl (rw f e) }
        by_word true f e = more (equal_more c k refl f e)

        by_length : (b : Bool) → eqb (last_factor s j) size ≡ b → LastOf s q
        by_length false e = record { size = size; power = power; group = stop_length c k refl (eqb-false (last_factor s j) size e) }
        by_length true e = by_word (same (last_word s j size) (last_word s q size)) (eqb-true (last_factor s j) size e) refl

pub last_of : (s : List ℕ) (q : ℕ) → 0 < q → q ≤ length s → LastOf s q
last_of s q l m = last_from q (omega arith) (equal_start s q (last_factor s q) l m refl)
