-- A pass over the groups of s keeps at the least start or before it: what follows a group, round the end of s, is smaller than its word
-- exactly when the least start is not the group's. At the least start it tells whether s is a shorter word repeated.
use mathlib.Core.Bool.{true, false, ◌&&◌}
use mathlib.Core.List.{List, ◌++◌}
use mathlib.Core.Logic.{◌⊎◌, inl, inr}
use mathlib.Core.Path.{◌≡◌, refl, sym, ap, ◌∙◌}
use Prim.Native.Nat.{ℕ, zero, suc, ◌+◌, ◌-◌, ◌*◌, ◌≤◌, ◌<◌}
use native.Mathlib.Omega.{arith}
use lib.Dec.{ltb, leb}
use lib.ListN.{length, get_or}
use borrow.Author.Tests.{le-leb, lt-leb}
use Rattle.words.specs.Order as order
use Rattle.words.specs.Order.{smaller}
use Rattle.words.specs.Rotation.{least_rotation, repeated}
use Rattle.words.proofs.Below.{First, differ_first}
use Rattle.words.proofs.Bounded.{le_or_lt}
use Rattle.words.proofs.Order.{le_choice, less_differ}
use Rattle.words.proofs.Repeated.{false_repeated}
use Rattle.words.proofs.Rotation.{least_rotation_within, least_start_within}
use Rattle.words.proofs.RotationRound.{round_scan, round_up, round_next, round_start, grown_tells, again_tells, again_not}
use Rattle.words.proofs.Scan.{Scan}
use Rattle.words.proofs.Shared.{smaller_first, smaller_neither}
use Rattle.scan.specs.Group.{NextGroup}
use Rattle.scan.proofs.Next.{GroupScan, group_scan}
use Rattle.std.specs.declared.cmp.Ordering.{Ordering}
use Rattle.std.specs.declared.cmp.Ordering.TheVariants.{Less, Equal, Greater}
use Rattle.std.specs.Ordering.{is_eq, is_ge}
use Rattle.comparing.specs.Compared.{smaller_of}
use Rattle.rotation_round.proofs.Follow.{follow, word, length_follow, length_word, follow_at, word_symbol, follow_same, follow_smaller}

-- a word of s ++ s from i that is longer than what was scanned and ends after length s
record Grown (s : List ℕ) (i span : ℕ) : Type 0 where
  more : ℕ
  scan : Scan (s ++ s) i (i + span + more + 1) (span + more + 1)
  far : length s ≤ i + span + more

longer_tells : (s : List ℕ) {i : ℕ} (span m : ℕ) → Scan (s ++ s) i (i + span + m + 1) (span + m + 1) → length s ≤ i + span + m → 0 < length s
    → i ≡ least_rotation s → repeated s ≡ false
longer_tells s span m c l n e = grown_tells s (rw e at c) (omega (arith, l, e)) n (omega arith)

module _ (s : List ℕ) {i size : ℕ} (e : ℕ) (g : NextGroup s i size (suc e)) (h : i ≤ least_rotation s) where
  c : GroupScan s i size (suc e)
  c = group_scan g

  some : 0 < length s
  some = omega (arith, c.scan.some, c.scan.fits, c.scan.ends)

  next : smaller (follow s g) (word s g) ≡ 1 → i + suc e * size ≤ least_rotation s
  next q = go (differ_first (follow s g) (word s g) (less_differ (follow s g) (word s g) (omega (arith, length_follow s g, length_word s g))
      ((smaller_first (follow s g) (word s g)).1 q)))
    where
      go : First (follow s g) (word s g) → i + suc e * size ≤ least_rotation s
      go d =
          let m = d.place in
          let l : m < size = omega (arith, d.in_left, length_follow s g) in
          round_next s e c.scan c.whole m l
          (λ x u. sym (follow_at s g x (omega arith)) ∙ d.before x u ∙ word_symbol s g x (omega arith)) h
          (omega (arith, d.less, follow_at s g m l, word_symbol s g m l))

  -- the scan that gave the group came to the end
  module _ (never : smaller (follow s g) (word s g) ≡ 1 → ⊥) where
    came : length s ≤ c.stop
    came = go (le_or_lt (length s) c.stop)
      where
        go : (length s ≤ c.stop) ⊎ (c.stop < length s) → length s ≤ c.stop
        go (inl l) = l
        go (inr l) = absurd (never (follow_smaller s g c l))

    over : length s < i + suc e * size + size
    over = omega (arith, came, c.last)

    -- the word once more
    module _ (q : smaller (follow s g) (word s g) ≡ 0) where
      again : Scan (s ++ s) i (i + suc e * size + size) size
      again =
          let f = (smaller_neither (follow s g) (word s g)).1 q in
          round_scan s e c.scan c.whole size (omega arith)
          (λ x u. sym (follow_at s g x u) ∙ ap (λ w. get_or w x 0) f ∙ word_symbol s g x u)

      again_start : i ≡ least_rotation s
      again_start = sym (round_start s h again (suc (suc e)) (omega arith) (omega (arith, over)))

    -- or a longer word
    module _ (q : smaller (follow s g) (word s g) ≡ 0 → ⊥) where
      grown : Grown s i (suc e * size)
      grown = go (le_choice (word s g) (follow s g) (λ l. never ((smaller_first (follow s g) (word s g)).0 l)))
        where
          at : First (word s g) (follow s g) → Grown s i (suc e * size)
          at d = record { more = m; scan = longer; far = far (le_or_lt (length s) (i + suc e * size + m)) }
            where
              m : ℕ
              m = d.place

              l : m < size
              l = omega (arith, d.in_left, length_word s g)

              up : get_or (s ++ s) (i + m) 0 < get_or (s ++ s) (i + suc e * size + m) 0
              up = omega (arith, d.less, follow_at s g m l, word_symbol s g m l)

              longer : Scan (s ++ s) i (i + suc e * size + m + 1) (suc e * size + m + 1)
              longer =
                  round_up s e c.scan c.whole m l
                  (λ x u. sym (follow_at s g x (omega (arith, l))) ∙ sym (d.before x u) ∙ word_symbol s g x (omega (arith, l))) up

              far : (length s ≤ i + suc e * size + m) ⊎ (i + suc e * size + m < length s) → length s ≤ i + suc e * size + m
              far (inl k) = k
              far (inr k) = absurd (omega (arith, up, follow_same s g c m (omega (arith, came))))

          go : order.Less (word s g) (follow s g) ⊎ (word s g ≡ follow s g) → Grown s i (suc e * size)
          go (inl l) =
              at (differ_first (word s g) (follow s g) (less_differ (word s g) (follow s g) (omega (arith, length_follow s g, length_word s g)) l))
          go (inr f) = absurd (q ((smaller_neither (follow s g) (word s g)).0 (sym f)))

      grown_start : i ≡ least_rotation s
      grown_start = sym (round_start s h grown.scan 1 (omega arith) (omega (arith, grown.far)))

    found : (v : Ordering) → smaller_of v ≡ smaller (follow s g) (word s g) → i ≡ least_rotation s
    found Equal f = again_start (sym f)
    found Greater f = grown_start (λ q. omega (arith, f, q))
    found Less f = absurd (never (sym f))

    tells : (v : Ordering) → smaller_of v ≡ smaller (follow s g) (word s g) → (length s ≤ suc e * size + size) ⊎ (suc e * size + size < length s)
        → (is_eq v && leb (length s - suc e * size) size) && ltb size (length s) ≡ repeated s
    tells Equal f (inl l) =
        let z : i ≡ least_rotation s = again_start (sym f) in
        rw (le-leb (length s - suc e * size) size (omega arith))
        (again_tells s (rw z at (again (sym f))) (omega (arith, over, z)) some (suc e) refl (omega (arith, g.fits, z)) l)
    tells Equal f (inr l) =
        let z : i ≡ least_rotation s = again_start (sym f) in
        rw (lt-leb (length s - suc e * size) size (omega arith))
        (sym (again_not s (rw z at (again (sym f))) (omega (arith, over, z)) some (suc e) refl (omega (arith, g.fits, z)) l))
    tells Greater f o =
        let q : smaller (follow s g) (word s g) ≡ 0 → ⊥ = λ q. omega (arith, f, q) in
        let z : i ≡ least_rotation s = grown_start q in
        sym (longer_tells s (suc e * size) (grown q).more (grown q).scan (grown q).far some z)
    tells Less f o = absurd (never (sym f))

-- the same of any power
pub start_next : (s : List ℕ) {i size : ℕ} (power : ℕ) (g : NextGroup s i size power) → i ≤ least_rotation s
    → (v : Ordering) → smaller_of v ≡ smaller (follow s g) (word s g) → is_ge v ≡ false → i + power * size ≤ least_rotation s
start_next s zero g h v f q = absurd (omega (arith, g.some))
start_next s (suc e) g h Less f q = next s e g h (sym f)
start_next s (suc e) g h Equal f q = absurd (cc)
start_next s (suc e) g h Greater f q = absurd (cc)

not_less : (v : Ordering) → is_ge v ≡ true → smaller_of v ≡ 1 → ⊥
not_less Less q h = cc
not_less Equal q h = omega arith
not_less Greater q h = omega arith

pub start_found : (s : List ℕ) {i size : ℕ} (power : ℕ) (g : NextGroup s i size power) → i ≤ least_rotation s
    → (v : Ordering) → smaller_of v ≡ smaller (follow s g) (word s g) → is_ge v ≡ true → i ≡ least_rotation s
start_found s zero g h v f q = absurd (omega (arith, g.some))
start_found s (suc e) g h v f q = found s e g h (λ p. not_less v q (f ∙ p)) v f

pub start_tells : (s : List ℕ) {i size : ℕ} (power : ℕ) (g : NextGroup s i size power) → i ≤ least_rotation s
    → (v : Ordering) → smaller_of v ≡ smaller (follow s g) (word s g) → is_ge v ≡ true
    → (is_eq v && leb (length s - power * size) size) && ltb size (length s) ≡ repeated s
start_tells s zero g h v f q = absurd (omega (arith, g.some))
start_tells s {i} {size} (suc e) g h v f q = tells s e g h (λ p. not_less v q (f ∙ p)) v f (le_or_lt (length s) (suc e * size + size))

-- a pass ends without an answer only where there is no symbol
module _ (s : List ℕ) (i : ℕ) (l : length s ≤ i) (h : i ≤ least_rotation s) where
  none : length s ≤ 0
  none = go (le_or_lt (length s) 0)
    where
      go : (length s ≤ 0) ⊎ (0 < length s) → length s ≤ 0
      go (inl z) = z
      go (inr k) = absurd (omega (arith, least_rotation_within s k))

  pub start_none : 0 ≡ least_rotation s
  start_none = go (le_or_lt (least_rotation s) 0)
    where
      go : (least_rotation s ≤ 0) ⊎ (0 < least_rotation s) → 0 ≡ least_rotation s
      go (inl z) = omega arith
      go (inr k) = absurd (omega (arith, least_start_within s 0 k))

  pub none_tells : false ≡ repeated s
  none_tells = sym (false_repeated s (λ r. omega (arith, none, r.shorter)))
