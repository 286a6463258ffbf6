-- Section 5: the recurrences of the two tables. The reach table is made from the right by joining words; the prefix table is made along Duval's scan.
-- With them the factors of each suffix and of each prefix are read off, one entry after the other.
use mathlib.Core.List.{List, [], ◌∷◌, ◌++◌, append-nil}
use mathlib.Core.Path.{◌≡◌, refl, sym, ap, ◌∙◌}
use Prim.Native.Nat.{ℕ, zero, suc, ◌+◌, ◌*◌, ◌-◌, ◌≤◌, ◌<◌}
use native.Mathlib.Omega.{arith}
use lib.ListN.{length, take, drop, get_or, length-append, length-take, length-drop, take-append-drop}
use lib.Seq.{take-take, drop-drop, take-add, take_at, drop_at, append_snoc}
use Rattle.words.specs.Order.{Less, Lyndon}
use Rattle.words.specs.Factors.{join, factors}
use Rattle.words.specs.Tables.{LyndonAt, lyndon_at, longest_at, lyndon_array, last_length, last_factor, last_factors}
use Rattle.words.proofs.Bounded.{length_table, get_or_table, largest_max}
use Rattle.words.proofs.Lyndon.{Some, length_some, lyndon_join}
use Rattle.words.proofs.Factors.{AllLe, all_le_trans, join_append, longest_prefix_some, longest_prefix_le, longest_prefix_lyndon, longest_prefix_max, factors_falling, join_factors, factors_only, falling_right, factors_left, factors_right}
use Rattle.words.proofs.Below.{word_length, drop_take}
use Rattle.words.proofs.Scan.{Scan, Stops, scan_start, scan_same, scan_up, scan_again, scan_first, scan_part}
use Rattle.words.proofs.Places.{true_lyndon_at}
use Rattle.words.proofs.Substrings.{longest_at_prefix, factors_first, factors_head, factors_front}

-- the entries of the reach table
module _ (s : List ℕ) (i : ℕ) (h : i < length s) where
  suffix_some : Some (drop i s)
  suffix_some = length_some (drop i s) (omega (arith, length-drop i s))

  pub longest_at_some : 0 < longest_at s i
  longest_at_some = rw (longest_at_prefix s i) (longest_prefix_some (drop i s) suffix_some)

  pub longest_at_fits : i + longest_at s i ≤ length s
  longest_at_fits = omega (arith, longest_at_prefix s i, longest_prefix_le (drop i s), length-drop i s)

  pub longest_at_word : Lyndon (take (longest_at s i) (drop i s))
  longest_at_word = rw (longest_at_prefix s i) (longest_prefix_lyndon (drop i s) suffix_some)

  -- the factors of a suffix, by its entry
  pub chain_suffix : factors (drop i s) ≡ take (longest_at s i) (drop i s) ∷ factors (drop (i + longest_at s i) s)
  chain_suffix = rw (← (drop-drop (longest_at s i) i s), longest_at_prefix s i) (factors_first (drop i s) suffix_some)

  pub lyndon_array_entry : get_or (lyndon_array s) i 0 ≡ longest_at s i
  unfolding lyndon_array
  lyndon_array_entry = get_or_table (longest_at s) (length s) i 0 h

  pub last_factors_entry : get_or (last_factors s) i 0 ≡ last_factor s (i + 1)
  unfolding last_factors
  last_factors_entry = get_or_table (λ k. last_factor s (suc k)) (length s) i 0 h ∙ ap (last_factor s) (omega arith)

-- no Lyndon substring at i is longer than the entry
pub longest_at_most : (s : List ℕ) (l i : ℕ) → LyndonAt s l i → l ≤ longest_at s i
unfolding longest_at
longest_at_most s l i h = largest_max (λ k. lyndon_at s k i) (length s) l (omega (arith, h.fits)) (true_lyndon_at s l i h)

pub lyndon_array_length : (s : List ℕ) → length (lyndon_array s) ≡ length s
unfolding lyndon_array
lyndon_array_length s = length_table (longest_at s) (length s)

pub last_factors_length : (s : List ℕ) → length (last_factors s) ≡ length s
unfolding last_factors
last_factors_length s = length_table (λ k. last_factor s (suc k)) (length s)

-- the reach table from the right: a word of length l at i takes in the next factor while that is greater
module _ (s : List ℕ) (i l : ℕ) (w : Lyndon (take l (drop i s))) where
  pub longest_at_grow : i + l < length s → Less (take l (drop i s)) (take (longest_at s (i + l)) (drop (i + l) s))
      → Lyndon (take (l + longest_at s (i + l)) (drop i s))
  longest_at_grow h up = rw (take-add l (longest_at s (i + l)) (drop i s), drop-drop l i s) (lyndon_join w (longest_at_word s (i + l) h) up)

  pub longest_at_stop_end : i + l ≡ length s → longest_at s i ≡ l
  longest_at_stop_end e =
      let n = word_length s i l (omega arith) in
      let m = longest_prefix_max (drop i s) (take l (drop i s)) (drop l (drop i s)) (sym (take-append-drop l (drop i s))) w in
      omega (arith, longest_at_prefix s i, m, longest_prefix_le (drop i s), length-drop i s)

  pub longest_at_stop : i + l < length s → ¬ Less (take l (drop i s)) (take (longest_at s (i + l)) (drop (i + l) s)) → longest_at s i ≡ l
  longest_at_stop h low = longest_at_prefix s i ∙ (factors_head (drop i s) x fs (sym whole)).0 ∙ word_length s i l (omega arith)
    where
      x : List ℕ
      x = take l (drop i s)

      fs : List (List ℕ)
      fs = factors (drop (i + l) s)

      above : AllLe x fs
      above =
          let e = chain_suffix s (i + l) h in
          let f = rw e at (factors_falling (drop (i + l) s)) in
          rw e (low, all_le_trans (take (longest_at s (i + l)) (drop (i + l) s)) x (factors (drop (i + l + longest_at s (i + l)) s)) low f.1)

      whole : x ∷ fs ≡ factors (drop i s)
      whole =
          factors_only (drop i s) (x ∷ fs) (w, above, factors_falling (drop (i + l) s))
          (ap (λ u. x ++ u) (join_factors (drop (i + l) s) ∙ sym (drop-drop l i s)) ∙ take-append-drop l (drop i s))

-- the last of some factors
last_append : (fs : List (List ℕ)) (g : List ℕ) (gs : List (List ℕ)) → last_length (fs ++ g ∷ gs) ≡ last_length (g ∷ gs)
last_append [] g gs = refl
last_append (f ∷ []) g gs = refl
last_append (f ∷ e ∷ fs) g gs = last_append (e ∷ fs) g gs

last_after : (fs : List (List ℕ)) (t : List ℕ) → 0 < length t → last_length (fs ++ factors t) ≡ last_length (factors t)
last_after fs t h = go (factors t) (join_factors t)
  where
    go : (gs : List (List ℕ)) → join gs ≡ t → last_length (fs ++ gs) ≡ last_length gs
    go [] e = absurd (omega (arith, ap length e))
    go (g ∷ gs) e = last_append fs g gs

-- i is where the first factors of s, those `before`, end
pub record Front (s : List ℕ) (i : ℕ) : Type 0 where
  pub before : List (List ℕ)
  pub after : List (List ℕ)
  pub parts : factors s ≡ before ++ after
  pub at : length (join before) ≡ i

pub front_start : (s : List ℕ) → Front s 0
front_start s = record { before = []; after = factors s; parts = refl; at = refl }

module _ {s : List ℕ} {i : ℕ} (d : Front s i) where
  front_joined : join d.before ++ join d.after ≡ s
  front_joined = sym (join_append d.before d.after) ∙ ap join (sym d.parts) ∙ join_factors s

  front_before : take i s ≡ join d.before
  front_before = ap (take i) (sym front_joined) ∙ take_at (join d.before) (join d.after) i d.at

  front_after : join d.after ≡ drop i s
  front_after = sym (drop_at (join d.before) (join d.after) i d.at) ∙ ap (drop i) front_joined

  -- one word further on
  pub front_next : {j p : ℕ} → Scan s i j p → Stops s j p → Front s (i + p)
  front_next {j} {p} c h =
      record {
        before = d.before ++ (take p (drop i s) ∷ []);
        after = factors (drop (i + p) s);
        parts =
            d.parts ∙ ap (λ u. d.before ++ u) (sym (factors_right s d.before d.after d.parts) ∙ ap factors front_after ∙ scan_first c h)
            ∙ sym (append_snoc d.before (take p (drop i s)) (factors (drop (i + p) s)));
        at =
            ap length (join_append d.before (take p (drop i s) ∷ []) ∙ ap (λ u. join d.before ++ u) (append-nil (take p (drop i s))))
            ∙ omega (arith, length-append (join d.before) (take p (drop i s)), word_length s i p (omega arith));
      }

  -- F8: the factors of a prefix that ends at or after i
  front_take : (r : ℕ) → factors (take (i + r) s) ≡ d.before ++ factors (take r (drop i s))
  front_take r =
      ap factors (take-add i r s ∙ ap (λ u. u ++ take r (drop i s)) front_before)
      ∙ factors_front d.before d.after (rw d.parts at (factors_falling s)) (take r (drop i s)) (drop r (drop i s))
      (front_after ∙ sym (take-append-drop r (drop i s)))

  front_last : (r : ℕ) → 0 < r → i + r ≤ length s → last_factor s (i + r) ≡ last_length (factors (take r (drop i s)))
  unfolding last_factor
  front_last r h l = ap last_length (front_take r) ∙ last_after d.before (take r (drop i s)) (omega (arith, word_length s i r l))

  last_word_lem : (r : ℕ) → Lyndon (take r (drop i s)) → i + r ≤ length s → last_factor s (i + r) ≡ r
  last_word_lem r w l =
      let n = word_length s i r l in
      let e = factors_only (take r (drop i s)) (take r (drop i s) ∷ []) (w, tt, tt) (append-nil (take r (drop i s))) in
      front_last r (omega (arith, w.some)) l ∙ ap last_length (sym e) ∙ n

  -- the prefix table along the scan from i
  pub last_first : i < length s → last_factor s (i + 1) ≡ 1
  last_first h = last_word_lem 1 (scan_start s i h).word (omega arith)

  pub last_up : {j p : ℕ} → Scan s i j p → (k q : ℕ) → k + p ≡ j → i + q ≡ j + 1 → j < length s → get_or s k 0 < get_or s j 0
      → last_factor s (j + 1) ≡ q
  last_up c k q e f l h = rw (← f) (last_word_lem q (scan_up c k q e f l h).word (omega arith))

  pub last_same : {j p : ℕ} → Scan s i j p → (k : ℕ) → k + p ≡ j → j < length s → get_or s j 0 ≡ get_or s k 0
      → last_factor s (j + 1) ≡ last_factor s (k + 1)
  last_same {j} {p} c k e l h =
      let r : ℕ = k + 1 - i in
      ap (last_factor s) {x = j + 1} {y = i + (p + r)} (omega arith) ∙ front_last (p + r) (omega arith) (omega arith)
      ∙ ap last_length (scan_part (scan_same c k e l h) r (omega arith))
      ∙ last_after (take p (drop i s) ∷ []) (take r (drop i s)) (omega (arith, word_length s i r (omega arith)))
      ∙ sym (front_last r (omega arith) (omega arith)) ∙ ap (last_factor s) {x = i + r} {y = k + 1} (omega arith)

-- where e words end
words_none : (i p : ℕ) → i + 0 * p ≡ i
words_none i p = omega arith

words_one : (i p : ℕ) → i + 1 * p ≡ i + p
words_one i p = omega arith

words_more : (i j p e : ℕ) → i + suc (suc e) * p ≤ j
    → (i + p + p ≤ j) × (i + p + suc e * p ≤ j) × (i + suc (suc e) * p ≡ i + p + suc e * p)
words_more i j p e l = (omega arith, omega arith, omega arith)

-- e words further on
pub front_words : {s : List ℕ} {i j p : ℕ} → Front s i → Scan s i j p → Stops s j p → (e : ℕ) → i + e * p ≤ j → Front s (i + e * p)
front_words {s} {i} {j} {p} d c h zero l = rw (words_none i p) d
front_words {s} {i} {j} {p} d c h (suc zero) l = rw (words_one i p) (front_next d c h)
front_words {s} {i} {j} {p} d c h (suc (suc e)) l =
    let (a, b, q) = words_more i j p e l in
    rw q (front_words {i = i + p} (front_next d c h) (scan_again c a) h (suc e) b)

-- a list of factors by its last
record Ends (fs : List (List ℕ)) : Type 0 where
  before : List (List ℕ)
  last : List ℕ
  parts : fs ≡ before ++ (last ∷ [])
  size : last_length fs ≡ length last

ends : (f : List ℕ) (fs : List (List ℕ)) → Ends (f ∷ fs)
ends f [] = record { before = []; last = f; parts = refl; size = refl }
ends f (g ∷ fs) = go (ends g fs)
  where
    go : Ends (g ∷ fs) → Ends (f ∷ g ∷ fs)
    go d = record { before = f ∷ d.before; last = d.last; parts = ap {B = List (List ℕ)} (λ r. f ∷ r) d.parts; size = d.size }

factors_ends : (t : List ℕ) → 0 < length t → Ends (factors t)
factors_ends t h = go (factors t) (join_factors t)
  where
    go : (fs : List (List ℕ)) → join fs ≡ t → Ends fs
    go [] e = absurd (omega (arith, ap length e))
    go (f ∷ fs) e = ends f fs

module _ (s : List ℕ) (q : ℕ) (some : 0 < q) (fits : q ≤ length s) where
  prefix_ends : Ends (factors (take q s))
  prefix_ends = factors_ends (take q s) (omega (arith, length-take q s))

  prefix_joined : take q s ≡ join prefix_ends.before ++ prefix_ends.last
  prefix_joined =
      let d = prefix_ends in
      sym (join_factors (take q s)) ∙ ap join d.parts ∙ join_append d.before (d.last ∷ [])
      ∙ ap (λ u. join d.before ++ u) (append-nil d.last)

  prefix_size : last_factor s q ≡ length prefix_ends.last
  unfolding last_factor
  prefix_size = prefix_ends.size

  prefix_length : q ≡ length (join prefix_ends.before) + last_factor s q
  prefix_length =
      omega (arith, prefix_size, length-take q s, ap length prefix_joined, length-append (join prefix_ends.before) prefix_ends.last)

  pub last_some : 0 < last_factor s q
  last_some =
      let d = prefix_ends in
      let f = falling_right d.before (d.last ∷ []) (rw d.parts at (factors_falling (take q s))) in
      omega (arith, prefix_size, f.0.some)

  pub last_fits : last_factor s q ≤ q
  last_fits = omega (arith, prefix_length)

  -- the factors of a prefix, by its entry
  pub chain_prefix : factors (take q s) ≡ factors (take (q - last_factor s q) s) ++ (take (last_factor s q) (drop (q - last_factor s q) s) ∷ [])
  chain_prefix =
      let d = prefix_ends in
      let n = prefix_length in
      let r : ℕ = q - last_factor s q in
      let left : take r s ≡ join d.before =
      sym (take-take r q s (omega arith)) ∙ ap (take r) prefix_joined ∙ take_at (join d.before) d.last r (omega arith) in
      let right : take (last_factor s q) (drop r s) ≡ d.last =
      sym (drop_take s r (last_factor s q) q (omega arith) (omega arith)) ∙ ap (drop r) prefix_joined
      ∙ drop_at (join d.before) d.last r (omega arith) in
      rw (left, right, factors_left (take q s) d.before (d.last ∷ []) d.parts) d.parts
