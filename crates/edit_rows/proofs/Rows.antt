-- The starts of the longest words written in three parts, up to the middle, in it and behind it, or as one run.
use mathlib.Core.List.{List, ◌++◌, append_assoc}
use mathlib.Core.Path.{◌≡◌, sym, ap, ◌∙◌}
use Prim.Native.Nat.{ℕ, ◌+◌, ◌*◌, ◌≤◌}
use native.Mathlib.Omega.{arith}
use lib.ListN.{length, take, length-append}
use lib.Seq.{length-take-le}
use Rattle.words.specs.Factors.{factors, start_at}
use Rattle.words.specs.Tables.{suffix_groups, longest_starts}
use Rattle.words.proofs.EditParts.{end_grows, end_le}
use Rattle.ranks.specs.Ranks.{ranked}
use Rattle.ranks.proofs.Ranked.{length_ranked}
use Rattle.rows.specs.Row.{written, written_at}
use Rattle.rows.proofs.Written.{written_append, length_written_at}
use Rattle.longest.specs.declared.Longest.{Longest}
use Rattle.longest.specs.Best.{starts_of, Measures}
use Rattle.longest.proofs.Starts.{starts_part}
use Rattle.longest_writing.proofs.Writes.{starts_longest, longest_count}
use Rattle.edit_rows.specs.Rows.{Between}

module _ {t : List ℕ} {end place : ℕ} (w : Between t end place) where
  pub place_fits : place ≤ length t
  place_fits = omega (arith, end_le w.second.index t, w.second.at)

  pub end_fits : end ≤ place
  end_fits = omega (arith, end_grows w.first.index w.second.index (factors t) w.order, w.first.at, w.second.at)

  pub front_is : end ≡ length (take end t)
  front_is = sym (length-take-le end t (omega (arith, end_fits, place_fits)))

  pub middle_is : place ≡ length (take place t)
  middle_is = sym (length-take-le place t place_fits)

  pub groups_asks : {size : ℕ} → length t ≤ 65535 → 3 * length (suffix_groups (take place t) end) ≤ size
      → (length (take place t) ≤ 65535) × (end ≤ length (take place t)) × (3 * length (suffix_groups (take place t) end) ≤ size)
  groups_asks h k = (omega (arith, middle_is, place_fits), omega (arith, middle_is, end_fits), k)

  module _ (l : ℕ) where
    abbrev before : List ℕ
    before = starts_of l (suffix_groups (take end t) 0)

    abbrev inside : List ℕ
    inside = starts_of l (suffix_groups (take place t) end)

    abbrev behind : List ℕ
    behind = starts_of l (suffix_groups t place)

    parts : starts_of l (suffix_groups t 0) ≡ before ++ (inside ++ behind)
    parts =
        starts_part l t 0 w.first.index (omega arith) ∙ ap (λ i. starts_of l (suffix_groups (take i t) 0) ++ starts_of l (suffix_groups t i)) w.first.at
        ∙ ap (λ u. before ++ u) (ap (λ i. starts_of l (suffix_groups t i)) (sym w.first.at) ∙ starts_part l t w.first.index w.second.index w.order
        ∙ ap (λ i. starts_of l (suffix_groups (take i t) (start_at (factors t) w.first.index)) ++ starts_of l (suffix_groups t i)) w.second.at
        ∙ ap (λ i. starts_of l (suffix_groups (take place t) i) ++ behind) w.first.at)

  module _ {found : Longest} {run : ℕ} (m : Measures t found run) (short : length t ≤ 65535) (d : List ℕ) (room : found.count ≤ length d) where
    abbrev x : List ℕ
    x = before found.length

    abbrev y : List ℕ
    y = inside found.length

    abbrev z : List ℕ
    z = behind found.length

    all : longest_starts t ≡ x ++ (y ++ z)
    all = sym (starts_longest t m.best) ∙ parts found.length

    long : length x + (length y + length z) ≤ length d
    long = omega (arith, room, longest_count t m.best, ap length all, length-append x (y ++ z), length-append y z)

    pub first_asks : (length (take end t) ≤ 65535) × (0 ≤ length (take end t)) × (0 + length x ≤ length d)
    first_asks = (omega (arith, front_is, end_fits, place_fits), omega arith, omega (arith, long))

    module _ {a : ℕ} {row : List ℕ} (p : a ≡ 0 + length x) (q : row ≡ written_at 0 x d) where
      row_long : length row ≡ length d
      row_long = ap length q ∙ length_written_at 0 x d (omega (arith, long))

      pub middle_asks : {size : ℕ} → 3 * length (suffix_groups (take place t) end) ≤ size → (length (take place t) ≤ 65535)
          × (end ≤ length (take place t)) × (3 * length (suffix_groups (take place t) end) ≤ size) × (a + length y ≤ length row)
      middle_asks k =
          let g = groups_asks short k in
          (g.0, g.1, g.2, omega (arith, row_long, long))

      module _ {b : ℕ} {row₂ : List ℕ} (r : b ≡ a + length y) (s : row₂ ≡ written_at a y row) where
        pub last_asks : (length t ≤ 65535) × (place ≤ length t) × (b + length z ≤ length row₂)
        last_asks =
            let n = ap length s ∙ length_written_at a y row (omega (arith, row_long, long)) in
            (short, place_fits, omega (arith, n, row_long, long))

        pub parts_written : {row₃ : List ℕ} → row₃ ≡ written_at b z row₂ → row₃ ≡ written (longest_starts t) d
        parts_written e =
            let front = s ∙ ap (written_at a y) q ∙ ap (λ i. written_at i y (written_at 0 x d)) p ∙ written_append 0 x y d (omega (arith, long)) in
            let n : b ≡ 0 + length (x ++ y) = omega (arith, length-append x y) in
            e ∙ ap (written_at b z) front ∙ ap (λ i. written_at i z (written_at 0 (x ++ y) d)) n
            ∙ written_append 0 (x ++ y) z d (omega (arith, length-append x y, long)) ∙ ap (λ u. written u d) (append_assoc x y z ∙ sym all)

-- what is asked of the bytes, where this is so of their ranks
module _ (o s : List ℕ) {end place : ℕ} (w : Between (ranked o s) end place) where
  fits : place ≤ length s
  fits = omega (arith, place_fits w, length_ranked o s)

  pub bytes_front : end ≡ length (take end s)
  bytes_front = sym (length-take-le end s (omega (arith, end_fits w, fits)))

  pub bytes_middle : place ≡ length (take place s)
  bytes_middle = sym (length-take-le place s fits)
