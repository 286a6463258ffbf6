-- The ranks of a pattern, part by part and place by place; no ranks stand for byte order; different bytes have different ranks.
use mathlib.Core.List.{List, [], ◌∷◌, ◌++◌, append-nil}
use mathlib.Core.Logic.{◌⊎◌, inl, inr}
use mathlib.Core.Path.{◌≡◌, refl, sym, ap, ◌∙◌}
use Prim.Native.Nat.{ℕ, zero, suc, ◌+◌, ◌-◌, ◌%◌, ◌≤◌, ◌<◌}
use native.Mathlib.Omega.{arith}
use lib.ListN.{length, take, drop, get_or, length-take, drop_of_length-le}
use lib.Dec.{ltb}
use lib.Seq.{get_or-take, ext_get_or}
use borrow.Author.Tests.{ltb-true, ltb-false}
use Rattle.words.specs.Edit.{edited}
use Rattle.words.proofs.Bounded.{length_table, get_or_table, le_cases}
use Rattle.rows.proofs.Fill.{Right, Lists, right_one, right_join}
use Rattle.rows.specs.Row.{written}
use Rattle.ranks.specs.Ranks.{Bytes, Order, byte_order, rank, ranked}
use Rattle.ranks.specs.Inner.{Ranks, Below}
use Rattle.ranks.proofs.Times.{times_only, total_entry, total_ones}

-- what is given for none does not matter where there is an entry
get_or_either : (xs : List ℕ) (i d e : ℕ) → i < length xs → get_or xs i d ≡ get_or xs i e
get_or_either [] i d e h = absurd (omega arith)
get_or_either (x ∷ xs) zero d e h = refl
get_or_either (x ∷ xs) (suc i) d e h = get_or_either xs i d e (omega arith)

pub rank_entry : (o : List ℕ) (b : ℕ) → b < length o → rank o b ≡ get_or o b 0
rank_entry o b h = get_or_either o b b 0 h

pub rank_value : (o : List ℕ) (b : ℕ) → length o ≡ 0 → rank o b ≡ b
rank_value [] b h = refl
rank_value (x ∷ o) b h = absurd (omega arith)

module _ (o : List ℕ) where
  pub length_ranked : (s : List ℕ) → length (ranked o s) ≡ length s
  length_ranked [] = refl
  length_ranked (b ∷ s) = ap suc (length_ranked s)

  pub get_or_ranked : (s : List ℕ) (i : ℕ) → i < length s → get_or (ranked o s) i 0 ≡ rank o (get_or s i 0)
  get_or_ranked [] i h = absurd (omega arith)
  get_or_ranked (b ∷ s) zero h = refl
  get_or_ranked (b ∷ s) (suc i) h = get_or_ranked s i (omega arith)

  pub ranked_append : (s t : List ℕ) → ranked o (s ++ t) ≡ ranked o s ++ ranked o t
  ranked_append [] t = refl
  ranked_append (b ∷ s) t = ap (λ u. rank o b ∷ u) (ranked_append s t)

  pub ranked_take : (k : ℕ) (s : List ℕ) → ranked o (take k s) ≡ take k (ranked o s)
  ranked_take zero [] = refl
  ranked_take zero (b ∷ s) = refl
  ranked_take (suc k) [] = refl
  ranked_take (suc k) (b ∷ s) = ap (λ u. rank o b ∷ u) (ranked_take k s)

  pub ranked_drop : (k : ℕ) (s : List ℕ) → ranked o (drop k s) ≡ drop k (ranked o s)
  ranked_drop zero [] = refl
  ranked_drop zero (b ∷ s) = refl
  ranked_drop (suc k) [] = refl
  ranked_drop (suc k) (b ∷ s) = ranked_drop k s

  pub ranked_part : (k i : ℕ) (s : List ℕ) → ranked o (take k (drop i s)) ≡ take k (drop i (ranked o s))
  ranked_part k i s = ranked_take k (drop i s) ∙ ap (take k) (ranked_drop i s)

  -- the edited pattern's ranks are the edit of the ranks
  pub ranked_edited : (s : List ℕ) (from to : ℕ) (b : List ℕ) → ranked o (edited s from to b) ≡ edited (ranked o s) from to (ranked o b)
  unfolding edited
  ranked_edited s from to b =
      ranked_append (take from s) (b ++ drop to s)
      ∙ ap (λ u. u ++ ranked o (b ++ drop to s)) (ranked_take from s)
      ∙ ap (λ u. take from (ranked o s) ++ u) (ranked_append b (drop to s) ∙ ap (λ u. ranked o b ++ u) (ranked_drop to s))

-- the rank at a place, where there are ranks
pub entry_ranked : (o s : List ℕ) (i b x : ℕ) → length o ≡ 256 → i < length s → b ≡ get_or s i 0 → b < 256 → x ≡ get_or o b 0 → x ≡ get_or (ranked o s) i 0
entry_ranked o s i b x e h p l q = q ∙ sym (rank_entry o b (omega arith)) ∙ ap (rank o) p ∙ sym (get_or_ranked o s i h)

-- what two bytes tell of the ranks at their places
module _ (o a b : List ℕ) (i j : ℕ) (h : i < length a) (l : j < length b) where
  pub ranks_agree : get_or a i 0 ≡ get_or b j 0 → get_or (ranked o a) i 0 ≡ get_or (ranked o b) j 0
  ranks_agree e = get_or_ranked o a i h ∙ ap (rank o) e ∙ sym (get_or_ranked o b j l)

  pub ranks_below : rank o (get_or a i 0) < rank o (get_or b j 0) → get_or (ranked o a) i 0 < get_or (ranked o b) j 0
  ranks_below q = rw (get_or_ranked o a i h, get_or_ranked o b j l) q

-- no ranks stand for byte order
pub ranked_none : (s : List ℕ) → ranked [] s ≡ s
ranked_none [] = refl
ranked_none (b ∷ s) = ap (λ u. b ∷ u) (ranked_none s)

pub none_ranked : (o s : List ℕ) → length o ≡ 0 → ranked o s ≡ s
none_ranked [] s h = ranked_none s
none_ranked (x ∷ o) s h = absurd (omega arith)

pub bytes_tail : (x : ℕ) (s : List ℕ) → Bytes (x ∷ s) → Bytes s
bytes_tail x s h i l = h (suc i) (omega arith)

pub bytes_head : (x : ℕ) (s : List ℕ) → Bytes (x ∷ s) → x < 256
bytes_head x s h = h 0 (omega arith)

pub bytes_drop : (k : ℕ) (s : List ℕ) → Bytes s → Bytes (drop k s)
bytes_drop zero [] h = h
bytes_drop zero (b ∷ s) h = h
bytes_drop (suc k) [] h = h
bytes_drop (suc k) (b ∷ s) h = bytes_drop k s (bytes_tail b s h)

pub bytes_take : (k : ℕ) (s : List ℕ) → Bytes s → Bytes (take k s)
bytes_take k s h i l =
    let m : i < k = omega (arith, length-take k s) in
    rw (get_or-take k s i 0 m) (h i (omega (arith, length-take k s)))

-- byte order changes nothing
pub byte_order_lists : Lists byte_order (λ b. b) 256
unfolding byte_order
byte_order_lists = record { size = length_table (λ b. b) 256; entry = λ k h. get_or_table (λ b. b) 256 k 0 h }

-- ranks that begin as byte order and are each one more than the one before go on as it does
pub rising_on : (o : List ℕ) (i m : ℕ) → 0 < i → i + m ≤ 256 → Right (λ b. b) o 0 i → Right (λ b. (get_or o (b - 1) 0 + 1) % 256) o i (i + m)
    → Right (λ b. b) o 0 (i + m)
rising_on o i zero p l h r = λ k a b. h k a (omega arith)
rising_on o i (suc m) p l h r =
    let low : Right (λ b. b) o 0 (i + m) = rising_on o i m p (omega arith) h (λ k a b. r k a (omega arith)) in
    let x = r (i + m) (omega arith) (omega arith) in
    let y = low (i + m - 1) (omega arith) (omega arith) in
    right_join _ o 0 (i + m) (i + suc m) low (right_one _ o (i + m) (i + suc m) (omega arith) (omega (arith, x, y)))

pub byte_order_is : (o : List ℕ) → length o ≡ 256 → Right (λ b. b) o 0 256 → o ≡ byte_order
byte_order_is o e h =
    ext_get_or 0 o byte_order (e ∙ sym byte_order_lists.size)
    (λ k l. h k (omega arith) (omega (arith, e)) ∙ sym (byte_order_lists.entry k (omega (arith, e))))

-- written to a row of 256 entries it is the row
pub written_byte_order : (row : List ℕ) → length row ≡ 256 → written byte_order row ≡ byte_order
written_byte_order row e =
    let all : length row ≤ length byte_order = omega (arith, byte_order_lists.size) in
    ap (λ u. byte_order ++ u) (drop_of_length-le row all) ∙ append-nil byte_order

pub byte_ranked : (s : List ℕ) → Bytes s → ranked byte_order s ≡ s
unfolding byte_order
byte_ranked [] h = refl
byte_ranked (b ∷ s) h =
    let p = get_or_table (λ b. b) 256 b b (bytes_head b s h) in
    let q = byte_ranked s (bytes_tail b s h) in
    cc

-- an order
module _ {o : List ℕ} (v : Order o) where
  pub rank_byte : {b : ℕ} → b < 256 → rank o b < 256
  rank_byte {b} h =
      let l : b < length o = omega (arith, v.size) in
      rw (rank_entry o b l) (total_entry 256 o (total_ones 256 o v.once ∙ sym v.size) b l)

  rank_only : (a b : ℕ) → a < 256 → b < 256 → rank o a ≡ rank o b → a ≡ b
  rank_only a b h l e =
      let p : a < length o = omega (arith, v.size) in
      let q : b < length o = omega (arith, v.size) in
      times_only (rank o b) o a b (omega (arith, v.once (rank o b) (rank_byte l))) p q (sym (rank_entry o a p) ∙ e) (sym (rank_entry o b q))

  pub order_ranks : Ranks o
  order_ranks = record { size = inr v.size; apart = rank_only }

  pub ranked_bytes : (s : List ℕ) → Bytes s → Bytes (ranked o s)
  ranked_bytes s h i l =
      let k : i < length s = omega (arith, length_ranked o s) in
      rw (get_or_ranked o s i k) (rank_byte (h i k))

pub no_ranks : Ranks []
no_ranks = record { size = inl refl; apart = λ a b h l e. e }

-- ranks keep different strings different
module _ {o : List ℕ} (v : Ranks o) where
  pub ranked_only : (s t : List ℕ) → Bytes s → Bytes t → ranked o s ≡ ranked o t → s ≡ t
  ranked_only [] [] h l e = refl
  ranked_only [] (y ∷ t) h l e = absurd (omega (arith, ap length e))
  ranked_only (x ∷ s) [] h l e = absurd (omega (arith, ap length e))
  ranked_only (x ∷ s) (y ∷ t) h l e =
      let p : rank o x ≡ rank o y = cc in
      let q : ranked o s ≡ ranked o t = cc in
      let a = v.apart x y (bytes_head x s h) (bytes_head y t l) p in
      let b = ranked_only s t (bytes_tail x s h) (bytes_tail y t l) q in
      cc

  pub ranks_long : (length o ≡ 0 → ⊥) → length o ≡ 256
  ranks_long n = go v.size
    where
      go : (length o ≡ 0) ⊎ (length o ≡ 256) → length o ≡ 256
      go (inl e) = absurd (n e)
      go (inr e) = e

  -- the byte that is not smaller, of two that differ
  pub rank_up : (x y : ℕ) → x < 256 → y < 256 → rank o x ≤ rank o y → (x ≡ y → ⊥) → rank o x < rank o y
  rank_up x y h l m n = go (le_cases m)
    where
      go : (rank o x ≡ rank o y) ⊎ (rank o x < rank o y) → rank o x < rank o y
      go (inl e) = absurd (n (v.apart x y h l e))
      go (inr e) = e

  pub below_told : (x y a b : ℕ) → x < 256 → y < 256 → a ≡ rank o x → b ≡ rank o y → Below o x y (ltb a b)
  below_told x y a b h l p q =
      record {
        yes = λ e. omega (arith, ltb-true a b e);
        no = λ e n. rank_up y x l h (omega (arith, ltb-false a b e)) (λ f. n (sym f));
      }
