-- The middle groups as a call makes them: those of the edited pattern up to the place of resume, from the end of the kept factors on.
use mathlib.Core.List.{List}
use mathlib.Core.Path.{◌≡◌, sym, ap, ◌∙◌}
use Prim.Native.Nat.{ℕ, ◌+◌, ◌-◌, ◌≤◌}
use native.Mathlib.Omega.{arith}
use lib.ListN.{length, take, drop}
use lib.Seq.{take-take, drop_at, length-take-le}
use Rattle.words.specs.Factors.{factors, start_at, groups_from}
use Rattle.words.specs.Tables.{suffix_groups}
use Rattle.words.specs.Edit.{edited, place, kept, resume, middle, middle_groups}
use Rattle.words.proofs.EditParts.{factors_before, factors_after, take_split, starting_le}
use Rattle.words.proofs.Edit.{resume_factor, kept_same, kept_first, resume_first, middle_is}

module _ (s : List ℕ) (from to : ℕ) (b : List ℕ) (h : from ≤ to) (l : to ≤ length s) where
  abbrev t : List ℕ
  t = edited s from to b

  abbrev c : ℕ
  c = kept s from to b

  abbrev d : ℕ
  d = resume_factor s from to b

  pub front_factors : factors (take (place from to b (resume s from to b)) t) ≡ take d (factors t)
  front_factors =
      ap (λ i. factors (take i t)) (resume_first s from to b h l) ∙ factors_before d t

  kept_end : start_at (factors s) c ≡ start_at (factors (take (place from to b (resume s from to b)) t)) c
  kept_end =
      rw (front_factors, take-take c d (factors t) (kept_first s from to b h l), kept_same s from to b h l)

  pub middle_suffix : suffix_groups (take (place from to b (resume s from to b)) t) (start_at (factors s) c) ≡ middle_groups s from to b
  unfolding suffix_groups middle_groups
  middle_suffix = ap (groups_from (start_at (factors s) c)) parts
    where
      fits : c ≤ length (factors t)
      fits = omega (arith, kept_first s from to b h l, starting_le (from + length b) (factors t))

      u : List ℕ
      u = take (place from to b (resume s from to b)) t

      parts : factors (drop (start_at (factors s) c) u) ≡ middle s from to b
      parts =
          ap (λ i. factors (drop i u)) kept_end ∙ factors_after c u ∙ ap (drop c) (front_factors ∙ take_split c d (factors t) (kept_first s from to b h l))
          ∙ drop_at (take c (factors t)) (take (d - c) (drop c (factors t))) c (length-take-le c (factors t) fits)
          ∙ sym (middle_is s from to b h l)
