-- L3, L4 and section 4: what the state of Duval's scan at place i gives. The part s[i..j) has the period p and begins with a Lyndon word of
-- length p; the next symbol continues it, raises it to a longer Lyndon word, or stops it. Code keeps a `Scan` as its invariant.
use mathlib.Core.Bool.{false}
use mathlib.Core.List.{List, [], ◌∷◌, ◌++◌}
use mathlib.Core.Logic.{◌⊎◌, inl, inr}
use mathlib.Core.Path.{◌≡◌, refl, sym, ap, ◌∙◌}
use Prim.Native.Nat.{ℕ, zero, suc, ◌+◌, ◌*◌, ◌-◌, ◌≤◌, ◌<◌}
use native.Mathlib.Omega.{arith}
use lib.ListN.{length, take, drop, get_or, replicate, length-append, length-take, length-drop}
use lib.Seq.{drop-cons, get_or-take, take-take, drop-drop, ext_get_or, take_at}
use Rattle.words.specs.Order.{Lyndon, lyndon}
pub use Rattle.words.specs.Scan.{Scan}
use Rattle.words.specs.Factors.{join, longest_prefix, factors, starts_with, Group, groups_from}
use Rattle.words.proofs.Bounded.{le_or_lt, le_cases, largest_is}
use Rattle.words.proofs.Order.{ThreeN, smaller_n, equal_n, greater_n, three_n, false_same}
use Rattle.words.proofs.Lyndon.{length_some, lyndon_one, true_lyndon, false_lyndon}
use Rattle.words.proofs.Factors.{join_factors}
use Rattle.words.proofs.Groups.{groups_repeat}
use Rattle.words.proofs.Below.{Below, word_length, drop_take, word_at, below_wider, lyndon_below, below_lyndon}
use Rattle.words.proofs.Substrings.{factors_first}

-- the pattern ends at j, or shows a smaller symbol there than the period asks for
abbrev pub Stops : List ℕ → ℕ → ℕ → Type 0
Stops s j p = (k : ℕ) → k + p ≡ j → j < length s → get_or s j 0 < get_or s k 0

-- the period between two places
scan_period : {s : List ℕ} {i j p : ℕ} → Scan s i j p → (a b : ℕ) → a + p ≡ b → i ≤ a → b < j → get_or s b 0 ≡ get_or s a 0
scan_period {s} c a b e l h = ap (λ u. get_or s u 0) (sym e) ∙ c.period a l (omega arith)

pub scan_start : (s : List ℕ) (i : ℕ) → i < length s → Scan s i (i + 1) 1
scan_start s i h =
    record {
      some = omega arith;
      fits = omega arith;
      ends = omega arith;
      word = rw (drop-cons s i 0 h) (lyndon_one (get_or s i 0));
      period = λ k a b. absurd (omega arith);
    }

pub scan_same : {s : List ℕ} {i j p : ℕ} → Scan s i j p → (k : ℕ) → k + p ≡ j → j < length s → get_or s j 0 ≡ get_or s k 0 → Scan s i (j + 1) p
scan_same {s} {i} {j} {p} c k e l q =
    record {
      some = c.some;
      fits = omega arith;
      ends = omega arith;
      word = c.word;
      period = λ t a b. go t a (le_cases {a = t + p} {b = j} (omega arith));
    }
  where
    go : (t : ℕ) → i ≤ t → (t + p ≡ j) ⊎ (t + p < j) → get_or s (t + p) 0 ≡ get_or s t 0
    go t a (inl f) = ap (λ u. get_or s u 0) f ∙ q ∙ ap (λ u. get_or s u 0) {x = k} {y = t} (omega arith)
    go t a (inr b) = c.period t a b

-- L3: s[i..j] is smaller than each of its suffixes, from one word to the next
module _ {s : List ℕ} {i j p : ℕ} (c : Scan s i j p) (k : ℕ) (e : k + p ≡ j) (h : get_or s k 0 < get_or s j 0) where
  -- s[i..) and s[a..) agree before u and k, so s[i..) and s[b..), one word later, agree before u and j
  agree_later : (a b u : ℕ) → i ≤ a → a + p ≡ b → ((x y : ℕ) → x + a ≡ y + i → i ≤ x → x < u → get_or s x 0 ≡ get_or s y 0) → u + b ≤ j + i
      → (x y : ℕ) → x + b ≡ y + i → i ≤ x → x < u → get_or s x 0 ≡ get_or s y 0
  agree_later a b u l f same m x y g o r =
      same x (y - p) (omega arith) o r ∙ sym (scan_period c (y - p) y (omega arith) (omega arith) (omega arith))

  -- the symbol at j is the difference
  raise_here : (a b u : ℕ) → i ≤ a → a + p ≡ b → b ≤ j → u + a ≡ k + i → get_or s u 0 ≤ get_or s k 0
      → ((x y : ℕ) → x + a ≡ y + i → i ≤ x → x < u → get_or s x 0 ≡ get_or s y 0) → Below s i b (j + 1)
  raise_here a b u l f m g o same =
      record {
        left = u;
        right = j;
        apart = omega arith;
        after = m;
        inside = omega arith;
        less = omega arith;
        before = agree_later a b u l f same (omega arith);
      }

  raise_next : (a b : ℕ) → i ≤ a → a + p ≡ b → b ≤ j → Below s i a (j + 1) → Below s i b (j + 1)
  raise_next a b l f m d = go (three_n d.right k)
    where
      go : ThreeN d.right k → Below s i b (j + 1)
      go (smaller_n o) =
          record {
            left = d.left;
            right = d.right + p;
            apart = omega arith;
            after = omega arith;
            inside = omega arith;
            less = omega (arith, d.less, c.period d.right (omega arith) (omega arith));
            before = agree_later a b d.left l f d.before (omega arith);
          }
      go (equal_n o) =
          raise_here a b d.left l f m (omega arith) (omega (arith, d.less, ap (λ u. get_or s u 0) o)) d.before
      go (greater_n o) =
          let u : ℕ = k + i - a in
          raise_here a b u l f m (omega arith) (omega (arith, d.before u k (omega arith) (omega arith) (omega arith)))
          (λ x y g q r. d.before x y g q (omega arith))

  raise : (n b : ℕ) → b ≤ i + n → i < b → b ≤ j → Below s i b (j + 1)
  raise zero b f l m = absurd (omega arith)
  raise (suc n) b f l m = go (three_n b (i + p)) (λ a x y z. raise n a x y z)
    where
      go : ThreeN b (i + p) → ((a : ℕ) → a ≤ i + n → i < a → a ≤ j → Below s i a (j + 1)) → Below s i b (j + 1)
      go (smaller_n o) ih = below_wider (lyndon_below s i p (omega arith) c.word b l o) (omega arith)
      go (equal_n o) ih =
          raise_here i b k (omega arith) (omega arith) m (omega arith) (omega arith) (λ x y g q r. ap (λ u. get_or s u 0) {x = x} {y = y} (omega arith))
      go (greater_n o) ih = raise_next (b - p) b (omega arith) (omega arith) m (ih (b - p) (omega arith) (omega arith) (omega arith))

pub scan_up : {s : List ℕ} {i j p : ℕ} → Scan s i j p → (k q : ℕ) → k + p ≡ j → i + q ≡ j + 1 → j < length s → get_or s k 0 < get_or s j 0
    → Scan s i (j + 1) q
scan_up {s} {i} {j} {p} c k q e f l h =
    record {
      some = omega arith;
      fits = omega arith;
      ends = omega arith;
      word = below_lyndon s i q (omega arith) (omega arith) (λ b m n. rw f (raise c k e h q b (omega arith) m (omega arith)));
      period = λ k a b. absurd (omega arith);
    }

-- a word grows over suffixes that are greater than it
pub scan_grow : {s : List ℕ} {i j e : ℕ} → Scan s i j (j - i) → j ≤ e → e ≤ length s → ((t : ℕ) → j ≤ t → t < e → Below s i t e) → Scan s i e (e - i)
scan_grow {s} {i} {j} {e} c l h g =
    let f : i + (e - i) ≡ e = omega arith in
    record {
      some = omega arith;
      fits = omega arith;
      ends = h;
      word = below_lyndon s i (e - i) (omega arith) (omega arith) (λ b m n. rw f (go b m (omega arith) (le_or_lt j b)));
      period = λ k a b. absurd (omega arith);
    }
  where
    go : (b : ℕ) → i < b → b < e → (j ≤ b) ⊎ (b < j) → Below s i b e
    go b m n (inl o) = g b o n
    go b m n (inr o) = below_wider (lyndon_below s i (j - i) (omega arith) c.word b m (omega arith)) (omega arith)

-- s[k..) shows again what it showed one word earlier
pub scan_shift : {s : List ℕ} {i j p : ℕ} → Scan s i j p → (k r : ℕ) → i ≤ k → k + p + r ≤ j → take r (drop (k + p) s) ≡ take r (drop k s)
scan_shift {s} {i} {j} {p} c k r l h =
    let a = word_length s (k + p) r (omega arith) in
    let b = word_length s k r (omega arith) in
    ext_get_or 0 _ _ (omega arith) (λ t m.
    word_at s (k + p) r t (k + t + p) (omega arith) (omega arith) ∙ c.period (k + t) (omega arith) (omega arith)
    ∙ sym (word_at s k r t (k + t) refl (omega arith)))

-- the period of a scan, several words on
pub scan_times : {t : List ℕ} {i j p : ℕ} → Scan t i j p → (e k : ℕ) → i ≤ k → k + e * p < j → get_or t (k + e * p) 0 ≡ get_or t k 0
scan_times {t} {i} {j} {p} c zero k l h = ap (λ u. get_or t u 0) {x = k + 0 * p} {y = k} (omega arith)
scan_times {t} {i} {j} {p} c (suc e) k l h =
    let a : k + suc e * p ≡ k + e * p + p = omega arith in
    ap (λ u. get_or t u 0) a ∙ c.period (k + e * p) (omega arith) (omega arith) ∙ scan_times c e k l (omega arith)

-- one word further on
pub scan_again : {s : List ℕ} {i j p : ℕ} → Scan s i j p → i + p + p ≤ j → Scan s (i + p) j p
scan_again {s} {i} {j} {p} c h =
    record {
      some = c.some;
      fits = h;
      ends = c.ends;
      word = rw (scan_shift c i p (omega arith) h) c.word;
      period = λ k a b. c.period k (omega arith) b;
    }

-- a scan from each place of the pattern comes to a stop
pub record Stopped (s : List ℕ) (i : ℕ) : Type 0 where
  pub stop : ℕ
  pub size : ℕ
  pub scan : Scan s i stop size
  pub stops : Stops s stop size

scan_on : (s : List ℕ) (i n j p : ℕ) → j + n ≡ length s → Scan s i j p → Stopped s i
scan_on s i zero j p e c = record { stop = j; size = p; scan = c; stops = λ k f l. absurd (omega arith) }
scan_on s i (suc n) j p e c = go (three_n (get_or s j 0) (get_or s (j - p) 0)) (λ q d. scan_on s i n (j + 1) q (omega arith) d)
  where
    go : ThreeN (get_or s j 0) (get_or s (j - p) 0) → ((q : ℕ) → Scan s i (j + 1) q → Stopped s i) → Stopped s i
    go (smaller_n h) on =
        record {
          stop = j;
          size = p;
          scan = c;
          stops = λ k f l. omega (arith, h, ap (λ u. get_or s u 0) {x = j - p} {y = k} (omega arith));
        }
    go (equal_n h) on = on p (scan_same c (j - p) (omega arith) (omega arith) h)
    go (greater_n h) on = on (j + 1 - i) (scan_up c (j - p) (j + 1 - i) (omega arith) (omega arith) (omega arith) h)

pub scan_stops : (s : List ℕ) (i : ℕ) → i < length s → Stopped s i
scan_stops s i h = scan_on s i (length s - (i + 1)) (i + 1) 1 (omega arith) (scan_start s i h)

-- L4: no longer prefix is a Lyndon word
fall : {s : List ℕ} {i j p : ℕ} → Scan s i j p → Stops s j p → (l : ℕ) → p < l → i + l ≤ length s → Lyndon (take l (drop i s)) → ⊥
fall {s} {i} {j} {p} c h l m f w = go (lyndon_below s i l f w (i + p) (omega (arith, c.some)) (omega arith))
  where
    go : Below s i (i + p) (i + l) → ⊥
    go d = at (three_n d.right j)
      where
        at : ThreeN d.right j → ⊥
        at (smaller_n o) = omega (arith, d.less, scan_period c d.left d.right (omega arith) (omega arith) o)
        at (equal_n o) = omega (arith, d.less, h d.left (omega arith) (omega arith), ap (λ u. get_or s u 0) o)
        at (greater_n o) =
            omega (arith, h (j - p) (omega arith) (omega arith), d.before (j - p) j (omega arith) (omega arith) (omega arith))

pub scan_longest : {s : List ℕ} {i j p : ℕ} → Scan s i j p → Stops s j p → longest_prefix (drop i s) ≡ p
scan_longest {s} {i} {j} {p} c h =
    largest_is (λ l. lyndon (take l (drop i s))) (length (drop i s)) p (omega (arith, length-drop i s)) (λ n. true_lyndon _ c.word)
    (λ l m f. false_lyndon _ (fall c h l m (omega (arith, length-drop i s))))

pub scan_first : {s : List ℕ} {i j p : ℕ} → Scan s i j p → Stops s j p → factors (drop i s) ≡ take p (drop i s) ∷ factors (drop (i + p) s)
scan_first {s} {i} {j} {p} c h =
    rw (scan_longest c h, drop-drop p i s) at (factors_first (drop i s) (length_some (drop i s) (omega (arith, length-drop i s))))

-- a scan sees only what stands before j
scan_take : {s : List ℕ} {i j p : ℕ} → Scan s i j p → Scan (take j s) i j p
scan_take {s} {i} {j} {p} c =
    record {
      some = c.some;
      fits = c.fits;
      ends = omega (arith, length-take j s);
      word = rw (drop_take s i (j - i) j (omega arith) (omega arith), take-take p (j - i) (drop i s) (omega arith)) c.word;
      period = λ k a b. get_or-take j s (k + p) 0 b ∙ c.period k a b ∙ sym (get_or-take j s k 0 (omega arith));
    }

-- the factors of the part that was scanned: its first word, then those of what is left, which stands one word earlier too
pub scan_part : {s : List ℕ} {i j p : ℕ} → Scan s i j p → (r : ℕ) → i + (p + r) ≡ j
    → factors (take (p + r) (drop i s)) ≡ take p (drop i s) ∷ factors (take r (drop i s))
scan_part {s} {i} {j} {p} c r e =
    let a = drop_take s i (p + r) j e (omega arith) in
    let b = drop_take s (i + p) r j (omega arith) (omega arith) ∙ scan_shift c i r (omega arith) (omega arith) in
    rw (a, b, take-take p (p + r) (drop i s) (omega arith)) at (scan_first (scan_take c) (λ k f l. absurd (omega (arith, length-take j s))))

-- fewer than p symbols after the last whole word the pattern stops: the word does not come again
scan_last : {s : List ℕ} {i j p : ℕ} → Scan s i j p → Stops s j p → j < i + p + p → starts_with (take p (drop i s)) (factors (drop (i + p) s)) ≡ false
scan_last {s} {i} {j} {p} c h l = go (factors (drop (i + p) s)) (join_factors (drop (i + p) s))
  where
    go : (fs : List (List ℕ)) → join fs ≡ drop (i + p) s → starts_with (take p (drop i s)) fs ≡ false
    go [] e = refl
    go (f ∷ fs) e = false_same (take p (drop i s)) f no
      where
        no : take p (drop i s) ≡ f → ⊥
        no q =
            let n : length f ≡ p = ap length (sym q) ∙ word_length s i p (omega arith) in
            let w : take p (drop (i + p) s) ≡ take p (drop i s) = ap (take p) (sym e) ∙ take_at f (join fs) p n ∙ sym q in
            let m = simp (length-append, length-drop) at (ap length e) in
            let t : ℕ = j - (i + p) in
            omega (
              arith,
              h (i + t) (omega arith) (omega arith),
              ap (λ u. get_or u t 0) w,
              word_at s (i + p) p t j (omega arith) (omega arith),
              word_at s i p t (i + t) refl (omega arith),
            )

-- the factors from i on are the e whole words before n, and then others
scan_words : {s : List ℕ} {i j p : ℕ} → Scan s i j p → Stops s j p → (e n : ℕ) → i + suc e * p ≡ n → n ≤ j → j < n + p
    → (factors (drop i s) ≡ replicate (suc e) (take p (drop i s)) ++ factors (drop n s)) × (starts_with (take p (drop i s)) (factors (drop n s)) ≡ false)
scan_words {s} {i} {j} {p} c h zero n f a b =
    let q : n ≡ i + p = omega arith in
    (rw q (scan_first c h), rw q (scan_last c h (omega arith)))
scan_words {s} {i} {j} {p} c h (suc e) n f a b =
    let (x, y) = rw (scan_shift c i p (omega arith) (omega arith)) at (scan_words {i = i + p} (scan_again c (omega arith)) h e n (omega arith) a b) in
    (scan_first c h ∙ ap {B = List (List ℕ)} (λ r. take p (drop i s) ∷ r) x, y)

-- the group at i has all e whole words before j
pub scan_group : {s : List ℕ} {i j p : ℕ} → Scan s i j p → Stops s j p → (e : ℕ) → i + e * p ≤ j → j < i + e * p + p
    → groups_from i (factors (drop i s)) ≡ record { start = i; size = p; power = e } ∷ groups_from (i + e * p) (factors (drop (i + e * p) s))
scan_group {s} {i} {j} {p} c h zero a b = absurd (omega arith)
scan_group {s} {i} {j} {p} c h (suc e) a b =
    let (x, y) = scan_words c h e (i + suc e * p) refl a b in
    let fs : List (List ℕ) = factors (drop (i + suc e * p) s) in
    ap (groups_from i) x ∙ groups_repeat (take p (drop i s)) fs i (suc e) y (omega arith)
    ∙ ap {B = List Group} (λ l. record { start = i; size = l; power = suc e } ∷ groups_from (i + suc e * l) fs) (word_length s i p (omega arith))
