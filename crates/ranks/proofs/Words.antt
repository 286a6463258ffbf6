-- Lists of words of bytes, and each word's ranks: of joined words and of groups spelled out they are the same words of the ranks.
-- Words that have the same ranks are the same.
use mathlib.Core.List.{List, [], ◌∷◌, ◌++◌, map, map-append}
use mathlib.Core.Path.{◌≡◌, refl, ap, ap₂, ◌∙◌}
use Prim.Native.Nat.{ℕ, zero, suc, ◌+◌, ◌<◌}
use native.Mathlib.Omega.{arith}
use lib.ListN.{length, take, drop, get_or, replicate, length-append, get_or-append}
use lib.Seq.{get_or-append-add}
use Rattle.words.specs.Edit.{edited}
use Rattle.words.specs.Factors.{join, Group, word_of, spelled}
use Rattle.ranks.specs.Ranks.{Bytes, byte_order, ranked}
use Rattle.ranks.specs.Inner.{Ranks}
use Rattle.ranks.proofs.Ranked.{ranked_append, ranked_part, byte_ranked, bytes_head, bytes_tail, bytes_drop, bytes_take, ranked_only}

-- bytes, part by part
pub bytes_left : (s t : List ℕ) → Bytes (s ++ t) → Bytes s
bytes_left s t h i l = rw (← get_or-append s t 0 i l) (h i (omega (arith, length-append s t)))

pub bytes_right : (s t : List ℕ) → Bytes (s ++ t) → Bytes t
bytes_right s t h i l = rw (← get_or-append-add s t i 0) (h (length s + i) (omega (arith, length-append s t)))

pub bytes_append : (s t : List ℕ) → Bytes s → Bytes t → Bytes (s ++ t)
bytes_append [] t p q i l = q i l
bytes_append (x ∷ s) t p q zero l = bytes_head x s p
bytes_append (x ∷ s) t p q (suc i) l = bytes_append s t (bytes_tail x s p) q i (omega arith)

pub bytes_edited : (s : List ℕ) (from to : ℕ) (b : List ℕ) → Bytes s → Bytes b → Bytes (edited s from to b)
unfolding edited
bytes_edited s from to b p q =
    bytes_append (take from s) (b ++ drop to s) (bytes_take from s p) (bytes_append b (drop to s) q (bytes_drop to s p))

-- each word's symbols are bytes
abbrev pub AllBytes : List (List ℕ) → Type 0
AllBytes [] = Unit {0}
AllBytes (f ∷ fs) = Bytes f × AllBytes fs

pub all_bytes : (fs : List (List ℕ)) → Bytes (join fs) → AllBytes fs
all_bytes [] h = tt
all_bytes (f ∷ fs) h = (bytes_left f (join fs) h, all_bytes fs (bytes_right f (join fs) h))

pub bytes_join : (fs : List (List ℕ)) → AllBytes fs → Bytes (join fs)
bytes_join [] h = λ i l. absurd (omega arith)
bytes_join (f ∷ fs) h = bytes_append f (join fs) h.0 (bytes_join fs h.1)

pub bytes_word : (fs : List (List ℕ)) → AllBytes fs → (k : ℕ) → k < length fs → Bytes (get_or fs k [])
bytes_word [] h k l = absurd (omega arith)
bytes_word (f ∷ fs) h zero l = h.0
bytes_word (f ∷ fs) h (suc k) l = bytes_word fs h.1 k (omega arith)

pub all_append : (fs gs : List (List ℕ)) → AllBytes fs → AllBytes gs → AllBytes (fs ++ gs)
all_append [] gs p q = q
all_append (f ∷ fs) gs p q = (p.0, all_append fs gs p.1 q)

pub all_take : (k : ℕ) (fs : List (List ℕ)) → AllBytes fs → AllBytes (take k fs)
all_take zero [] h = tt
all_take zero (f ∷ fs) h = tt
all_take (suc k) [] h = tt
all_take (suc k) (f ∷ fs) h = (h.0, all_take k fs h.1)

pub all_replicate : (n : ℕ) (f : List ℕ) → Bytes f → AllBytes (replicate n f)
all_replicate zero f h = tt
all_replicate (suc n) f h = (h, all_replicate n f h)

pub all_spelled : (s : List ℕ) → Bytes s → (gs : List Group) → AllBytes (spelled s gs)
all_spelled s h [] = tt
all_spelled s h (g ∷ gs) =
    all_append (replicate g.power (word_of s g)) (spelled s gs)
    (all_replicate g.power (word_of s g) (bytes_take g.size (drop g.start s) (bytes_drop g.start s h))) (all_spelled s h gs)

-- each word's ranks
module _ (o : List ℕ) where
  pub ranked_join : (fs : List (List ℕ)) → ranked o (join fs) ≡ join (map (ranked o) fs)
  ranked_join [] = refl
  ranked_join (f ∷ fs) = ranked_append o f (join fs) ∙ ap (λ u. ranked o f ++ u) (ranked_join fs)

  pub ranked_first : (k : ℕ) (fs : List (List ℕ)) → map (ranked o) (take k fs) ≡ take k (map (ranked o) fs)
  ranked_first zero [] = refl
  ranked_first zero (f ∷ fs) = refl
  ranked_first (suc k) [] = refl
  ranked_first (suc k) (f ∷ fs) = ap {B = List (List ℕ)} (λ u. ranked o f ∷ u) (ranked_first k fs)

  pub ranked_replicate : (n : ℕ) (f : List ℕ) → map (ranked o) (replicate n f) ≡ replicate n (ranked o f)
  ranked_replicate zero f = refl
  ranked_replicate (suc n) f = ap {B = List (List ℕ)} (λ u. ranked o f ∷ u) (ranked_replicate n f)

  pub ranked_spelled : (s : List ℕ) (gs : List Group) → map (ranked o) (spelled s gs) ≡ spelled (ranked o s) gs
  ranked_spelled s [] = refl
  ranked_spelled s (g ∷ gs) =
      map-append (ranked o) (replicate g.power (word_of s g)) (spelled s gs)
      ∙ ap₂ (λ u w. u ++ w) (ranked_replicate g.power (word_of s g) ∙ ap (replicate g.power) (ranked_part o g.size g.start s)) (ranked_spelled s gs)

-- with each byte's value as its rank they are the words themselves
pub byte_ranked_all : (fs : List (List ℕ)) → AllBytes fs → map (ranked byte_order) fs ≡ fs
byte_ranked_all [] h = refl
byte_ranked_all (f ∷ fs) h = ap₂ {C = List (List ℕ)} (λ u us. u ∷ us) (byte_ranked f h.0) (byte_ranked_all fs h.1)

-- ranks keep different words different
pub ranked_all_only : {o : List ℕ} → Ranks o → (fs gs : List (List ℕ)) → AllBytes fs → AllBytes gs → map (ranked o) fs ≡ map (ranked o) gs → fs ≡ gs
ranked_all_only v [] [] p q e = refl
ranked_all_only v [] (g ∷ gs) p q e = absurd (omega (arith, ap length e))
ranked_all_only v (f ∷ fs) [] p q e = absurd (omega (arith, ap length e))
ranked_all_only {o} v (f ∷ fs) (g ∷ gs) p q e =
    let a : ranked o f ≡ ranked o g = cc in
    let b : map (ranked o) fs ≡ map (ranked o) gs = cc in
    let c = ranked_only v f g p.0 q.0 a in
    let d = ranked_all_only v fs gs p.1 q.1 b in
    cc
