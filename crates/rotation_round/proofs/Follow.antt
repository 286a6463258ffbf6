-- What follows a group round the end of the pattern, as a string beside the group's word: where the scan that gave the group stopped before the
-- end it is smaller; else it begins as the word does, and the pattern's front decides.
use mathlib.Core.List.{List, ◌++◌}
use mathlib.Core.Logic.{◌⊎◌, inl, inr}
use mathlib.Core.Path.{◌≡◌, refl, sym, ap, ◌∙◌}
use Prim.Native.Nat.{ℕ, zero, suc, ◌+◌, ◌-◌, ◌*◌, ◌≤◌, ◌<◌}
use native.Mathlib.Omega.{arith}
use lib.ListN.{length, take, drop, get_or, length-take, length-drop, get_or-append}
use lib.Seq.{take-append-le, take-take, drop_at, drop-drop, get_or-take, ext_get_or}
use Rattle.words.specs.Order.{smaller, shared}
use Rattle.words.specs.Rotation.{rotation}
use Rattle.words.proofs.Below.{first_differ, word_length, word_at, drop_take}
use Rattle.words.proofs.Bounded.{le_or_lt}
use Rattle.words.proofs.Order.{differ_less}
use Rattle.words.proofs.Rotation.{length_rotation, get_or_rotation}
use Rattle.words.proofs.RotationRound.{scan_doubled, word_before}
use Rattle.words.proofs.Scan.{scan_times}
use Rattle.words.proofs.Shared.{shared_longest, smaller_first, smaller_behind}
use Rattle.scan.specs.Group.{NextGroup}
use Rattle.scan.proofs.Next.{GroupScan, group_scan}
use Rattle.scan.proofs.Pass.{length_fits}

-- where the scan stopped before the end, it did so at a symbol below that of the word
stop_low : {s : List ℕ} {i size : ℕ} (power : ℕ) → 0 < power → (c : GroupScan s i size power) (m : ℕ) → i + power * size + m ≡ c.stop → c.stop < length s
    → get_or (s ++ s) (i + power * size + m) 0 < get_or (s ++ s) (i + m) 0
stop_low zero n c m f l = absurd (omega arith)
stop_low {s} {i} {size} (suc e) n c m f l =
    let k : ℕ = i + e * size + m in
    let a = word_before s e c.scan c.whole m k (omega (arith, c.last)) (omega arith) in
    let b = c.stops k (omega arith) l in
    omega (
      arith,
      a,
      b,
      get_or-append s s 0 c.stop l,
      get_or-append s s 0 k (omega (arith, c.scan.some)),
      ap (λ u. get_or (s ++ s) u 0) f,
    )

module _ (s : List ℕ) {i size power : ℕ} (g : NextGroup s i size power) where
  abbrev pub group_end : ℕ
  group_end = i + power * size

  abbrev pub follow : List ℕ
  follow = take size (rotation s group_end)

  abbrev pub word : List ℕ
  word = take size (drop i s)

  pub size_inside : size ≤ power * size
  size_inside = length_fits g

  pub length_follow : length follow ≡ size
  length_follow = omega (arith, length-take size (rotation s group_end), length_rotation s group_end g.fits, size_inside, g.fits)

  pub length_word : length word ≡ size
  length_word = word_length s i size (omega (arith, size_inside, g.fits))

  pub follow_at : (d : ℕ) → d < size → get_or follow d 0 ≡ get_or (s ++ s) (group_end + d) 0
  follow_at d l = get_or-take size (rotation s group_end) d 0 l ∙ get_or_rotation s group_end d g.fits (omega (arith, size_inside, g.fits))

  pub word_symbol : (d : ℕ) → d < size → get_or word d 0 ≡ get_or (s ++ s) (i + d) 0
  word_symbol d l = word_at s i size d (i + d) refl l ∙ sym (get_or-append s s 0 (i + d) (omega (arith, size_inside, g.fits)))

  -- the scan that gave the group went on to its stop
  module _ (c : GroupScan s i size power) where
    pub follow_same : (d : ℕ) → group_end + d < c.stop → get_or (s ++ s) (group_end + d) 0 ≡ get_or (s ++ s) (i + d) 0
    follow_same d l =
        let e : group_end + d ≡ i + d + power * size = omega arith in
        ap (λ u. get_or (s ++ s) u 0) e ∙ scan_times (scan_doubled c.scan) power (i + d) (omega arith) (omega arith)

    pub follow_smaller : c.stop < length s → smaller follow word ≡ 1
    follow_smaller l =
        let m : ℕ = c.stop - group_end in
        let short : m < size = omega (arith, c.last, c.whole) in
        let low = stop_low power g.some c m (omega (arith, c.whole)) l in
        (smaller_first follow word).0 (differ_less follow word (first_differ follow word m
        (omega (arith, length_follow)) (omega (arith, length_word)) (rw (follow_at m short, word_symbol m short) low)
        (λ d k. follow_at d (omega arith) ∙ follow_same d (omega (arith, c.whole)) ∙ sym (word_symbol d (omega arith)))))

  -- so many symbols are left after the group: enough for the word, or fewer
  abbrev pub rest : ℕ
  rest = length s - group_end

  pub follow_inside : size ≤ rest → 1 ≡ smaller follow word
  follow_inside l = let c = group_scan g in sym (follow_smaller c (omega (arith, c.last)))

  -- they are not how the word begins
  pub follow_differs : rest ≤ size → shared (take rest (drop group_end s)) (take rest (drop i s)) < rest → 1 ≡ smaller follow word
  follow_differs l h = go (group_scan g)
    where
      x : List ℕ
      x = take rest (drop group_end s)

      y : List ℕ
      y = take rest (drop i s)

      length_x : length x ≡ rest
      length_x = word_length s group_end rest (omega arith)

      length_y : length y ≡ rest
      length_y = word_length s i rest (omega (arith, size_inside))

      at : (k d : ℕ) → k + rest ≤ length s → d < rest → get_or (take rest (drop k s)) d 0 ≡ get_or (s ++ s) (k + d) 0
      at k d m n = word_at s k rest d (k + d) refl n ∙ sym (get_or-append s s 0 (k + d) (omega arith))

      go : GroupScan s i size power → 1 ≡ smaller follow word
      go c = to (le_or_lt (length s) c.stop)
        where
          to : (length s ≤ c.stop) ⊎ (c.stop < length s) → 1 ≡ smaller follow word
          to (inl k) =
              let e : x ≡ y =
              ext_get_or 0 x y (length_x ∙ sym length_y) (λ d m.
              at group_end d (omega arith) (omega (arith, length_x)) ∙ follow_same c d (omega (arith, length_x))
              ∙ sym (at i d (omega (arith, size_inside)) (omega (arith, length_x)))) in
              let a = (shared_longest x y rest).0 (omega (arith, length_x), omega (arith, length_y), ap (take rest) e) in
              absurd (omega arith)
          to (inr k) = sym (follow_smaller c k)

  -- they are, and the front of the pattern follows
  pub follow_front : rest ≤ size → rest ≤ shared (take rest (drop group_end s)) (take rest (drop i s))
      → smaller (take (size - rest) s) (take (i + size - (i + rest)) (drop (i + rest) s)) ≡ smaller follow word
  follow_front l h =
      let left = length-drop group_end s in
      let behind = length-drop i s in
      let n = length_rotation s group_end g.fits in
      let a : take rest follow ≡ take rest (drop group_end s) =
      take-take rest size (rotation s group_end) l ∙ take-append-le rest (drop group_end s) (take group_end s) (omega arith) in
      let b : take rest word ≡ take rest (drop i s) = take-take rest size (drop i s) l in
      let e : take rest (drop group_end s) ≡ take rest (drop i s) =
      sym (take-take rest rest (drop group_end s) (omega arith)) ∙ ((shared_longest _ _ rest).1 h).2 ∙ take-take rest rest (drop i s) (omega arith) in
      let x : drop rest follow ≡ take (size - rest) s =
      drop_take (rotation s group_end) rest (size - rest) size (omega arith) (omega (arith, size_inside))
      ∙ ap (take (size - rest)) (drop_at (drop group_end s) (take group_end s) rest (omega arith))
      ∙ take-take (size - rest) group_end s (omega (arith, size_inside)) in
      let m : size - rest ≡ i + size - (i + rest) = omega arith in
      let y : drop rest word ≡ take (i + size - (i + rest)) (drop (i + rest) s) =
      drop_take (drop i s) rest (size - rest) size (omega arith) (omega (arith, size_inside)) ∙ ap (take (size - rest)) (drop-drop rest i s)
      ∙ ap (λ u. take u (drop (i + rest) s)) m in
      sym (smaller_behind follow word rest (a ∙ e ∙ sym b) ∙ ap (λ u. smaller u (drop rest word)) x ∙ ap (smaller (take (size - rest) s)) y)
