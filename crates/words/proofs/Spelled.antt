-- Groups spelled out are the factors that they were made of, and groups read off the row of numbers that they fill are the same groups.
use mathlib.Core.List.{List, [], ◌∷◌, ◌++◌, append_assoc, append-nil}
use mathlib.Core.Path.{◌≡◌, refl, sym, ap, ap₂, ◌∙◌}
use Prim.Native.Nat.{ℕ, zero, suc, ◌+◌, ◌*◌, ◌<◌}
use native.Mathlib.Omega.{arith}
use lib.ListN.{length, take, drop, replicate}
use lib.Seq.{take-append_seam, drop-append_seam, drop-drop}
use Rattle.words.specs.Factors.{join, factors, Group, spelled, groups_from, group_numbers, number_groups}
use Rattle.words.specs.Tables.{groups}
use Rattle.words.proofs.Factors.{join_append, join_factors}
use Rattle.words.proofs.Groups.{Packed, none, more, packed}
use Rattle.words.proofs.Repeated.{repeat_length}

first_word : (t : List ℕ) (i e : ℕ) (f : List ℕ) (fs : List (List ℕ)) → 0 < e → drop i t ≡ join (replicate e f ++ fs) → take (length f) (drop i t) ≡ f
first_word t i zero f fs n j = absurd (omega arith)
first_word t i (suc e) f fs n j = ap (take (length f)) j ∙ take-append_seam f (join (replicate e f ++ fs))

behind : (t : List ℕ) (i e : ℕ) (f : List ℕ) (fs : List (List ℕ)) → drop i t ≡ join (replicate e f ++ fs) → drop (i + e * length f) t ≡ join fs
behind t i e f fs j =
    ap (λ k. drop (i + k) t) (sym (repeat_length f e)) ∙ sym (drop-drop (length (join (replicate e f))) i t)
    ∙ ap (drop (length (join (replicate e f)))) (j ∙ join_append (replicate e f) fs) ∙ drop-append_seam (join (replicate e f)) (join fs)

spelled_packed : (t : List ℕ) (rest : List (List ℕ)) {i : ℕ} {fs : List (List ℕ)} {gs : List Group} → Packed i fs gs → drop i t ≡ join (fs ++ rest)
    → spelled t gs ≡ fs
spelled_packed t rest none j = refl
spelled_packed t rest {i} (more e f fs n h p) j =
    let k = j ∙ ap join (append_assoc (replicate e f) fs rest) in
    ap₂ (λ w ws. replicate e w ++ ws) (first_word t i e f (fs ++ rest) n k) (spelled_packed t rest p (behind t i e f (fs ++ rest) k))

pub spelled_groups : (t : List ℕ) (i : ℕ) (fs rest : List (List ℕ)) → drop i t ≡ join (fs ++ rest) → spelled t (groups_from i fs) ≡ fs
spelled_groups t i fs rest j = spelled_packed t rest (packed i fs) j

pub groups_spelled : (s : List ℕ) → spelled s (groups s) ≡ factors s
unfolding groups
groups_spelled s = spelled_groups s 0 (factors s) [] (sym (join_factors s) ∙ ap join (sym (append-nil (factors s))))

pub number_groups_lem : (gs : List Group) (rest : List ℕ) → number_groups (length gs) (group_numbers gs ++ rest) ≡ gs
number_groups_lem [] rest = refl
number_groups_lem (g ∷ gs) rest = ap (λ t. g ∷ t) (number_groups_lem gs rest)
