-- Neighbouring groups of a pattern: the word of a group has as many symbols as the group says, at least one, and the word of the next group is
-- smaller and another one.
use mathlib.Core.Bool.{false}
use mathlib.Core.List.{List, [], ◌∷◌, ◌++◌}
use mathlib.Core.Logic.{◌⊎◌, inl, inr}
use mathlib.Core.Path.{◌≡◌, sym, ap}
use Prim.Native.Nat.{ℕ, zero, suc, ◌+◌, ◌*◌, ◌<◌}
use native.Mathlib.Omega.{arith}
use lib.ListN.{length, take, drop, replicate}
use Rattle.words.specs.Order.{Less, same}
use Rattle.words.specs.Factors.{join, factors, Group, word_of}
use Rattle.words.specs.Tables.{groups}
use Rattle.words.proofs.Order.{le_choice, same_false}
use Rattle.words.proofs.Factors.{Falling, all_le_right, join_factors, factors_falling, falling_right}
use Rattle.words.proofs.Groups.{Packed, more, packed}
use Rattle.words.proofs.Joined.{others_stand, first_stands}
use Rattle.words.proofs.Repeated.{repeat_length}

-- what stands behind e equal words
pub behind_stand : (t : List ℕ) (i e : ℕ) (f : List ℕ) (fs : List (List ℕ)) → drop i t ≡ join (replicate e f ++ fs) → drop (i + e * length f) t ≡ join fs
behind_stand t i e f fs = others_stand t i (i + e * length f) (replicate e f) fs (ap (λ k. i + k) (repeat_length f e))

-- groups of falling factors that stand in t from a place on, up to its end
pub record Standing (t : List ℕ) (gs : List Group) : Type 0 where
  pub place : ℕ
  pub words : List (List ℕ)
  pub packing : Packed place words gs
  pub falling : Falling words
  pub stand : drop place t ≡ join words

pub standing_groups : (s : List ℕ) → Standing s (groups s)
unfolding groups
standing_groups s =
    record { place = 0; words = factors s; packing = packed 0 (factors s); falling = factors_falling s; stand = sym (join_factors s) }

standing_rest : {t : List ℕ} {g : Group} {gs : List Group} → Standing t (g ∷ gs) → Standing t gs
standing_rest {t} r = go _ _ r.packing r.falling r.stand
  where
    go : {i : ℕ} {fs : List (List ℕ)} (g : Group) (gs : List Group) → Packed i fs (g ∷ gs) → Falling fs → drop i t ≡ join fs → Standing t gs
    go {i} g gs (more e f fs n h p) a j =
        record {
          place = i + e * length f;
          words = fs;
          packing = p;
          falling = falling_right (replicate e f) fs a;
          stand = behind_stand t i e f fs j;
        }

pub standing_behind : {t : List ℕ} (before : List Group) {gs : List Group} → Standing t (before ++ gs) → Standing t gs
standing_behind [] r = r
standing_behind (b ∷ before) r = standing_behind before (standing_rest r)

-- the first word of e equal ones
word_first : (t : List ℕ) (i e : ℕ) (f : List ℕ) (fs : List (List ℕ)) → 0 < e → drop i t ≡ join (replicate e f ++ fs) → take (length f) (drop i t) ≡ f
word_first t i zero f fs n j = absurd (omega arith)
word_first t i (suc e) f fs n j = (first_stands t i f (replicate e f ++ fs) j).0

pub word_size : {t : List ℕ} {g : Group} {gs : List Group} → Standing t (g ∷ gs) → (0 < g.size) × (length (word_of t g) ≡ g.size)
word_size {t} r = go _ _ r.packing r.falling r.stand
  where
    some : (e : ℕ) (f : List ℕ) (fs : List (List ℕ)) → 0 < e → Falling (replicate e f ++ fs) → 0 < length f
    some zero f fs n a = absurd (omega arith)
    some (suc e) f fs n a = a.0.some

    go : {i : ℕ} {fs : List (List ℕ)} (g : Group) (gs : List Group) → Packed i fs (g ∷ gs) → Falling fs → drop i t ≡ join fs
        → (0 < g.size) × (length (word_of t g) ≡ g.size)
    go {i} g gs (more e f fs n h p) a j = (some e f fs n a, ap length (word_first t i e f fs n j))

-- of falling factors, one that stands behind equal ones and differs from them is smaller
falls : (e : ℕ) (f g : List ℕ) (fs : List (List ℕ)) → 0 < e → Falling (replicate e f ++ (g ∷ fs)) → same f g ≡ false → Less g f
falls zero f g fs n a d = absurd (omega arith)
falls (suc e) f g fs n a d = go (le_choice g f (all_le_right f (replicate e f) (g ∷ fs) a.1).0)
  where
    go : Less g f ⊎ (g ≡ f) → Less g f
    go (inl h) = h
    go (inr h) = absurd (same_false f g d (sym h))

pub next_smaller : {t : List ℕ} {g h : Group} {gs : List Group} → Standing t (g ∷ h ∷ gs) → Less (word_of t h) (word_of t g)
next_smaller {t} r = go _ _ _ r.packing r.falling r.stand
  where
    go : {i : ℕ} {fs : List (List ℕ)} (g h : Group) (gs : List Group) → Packed i fs (g ∷ h ∷ gs) → Falling fs → drop i t ≡ join fs
        → Less (word_of t h) (word_of t g)
    go {i} g h gs (more e f _ n d (more zero f' fs m l p)) a j = absurd (omega arith)
    go {i} g h gs (more e f _ n d (more (suc e') f' fs m l p)) a j =
        let behind = f' ∷ (replicate e' f' ++ fs) in
        let w = word_first t i e f behind n j in
        let v = word_first t (i + e * length f) (suc e') f' fs m (behind_stand t i e f behind j) in
        rw (w, v) (falls e f f' (replicate e' f' ++ fs) n a d)
