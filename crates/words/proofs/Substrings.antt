-- F5 to F9: longest Lyndon substrings, the factors of prefixes and suffixes, and least suffixes.
use mathlib.Core.Bool.{Bool, true, false}
use mathlib.Core.List.{List, [], ◌∷◌, ◌++◌, append_assoc, append-nil}
use mathlib.Core.Logic.{◌⊎◌, inl, inr, ◌↔◌}
use mathlib.Core.Path.{◌≡◌, refl, sym, ap, ◌∙◌}
use Prim.Native.Nat.{ℕ, zero, suc, ◌+◌, ◌-◌, ◌≤◌, ◌<◌}
use native.Mathlib.Omega.{arith}
use lib.Dec.{ltb}
use lib.ListN.{length, take, drop, get_or, length-append, length-take, length-drop, take-append-drop}
use lib.Seq.{take-append_seam, drop-append_seam, length-take-le, drop_at}
use borrow.Author.Tests.{ltb-true, lt-ltb}
use Rattle.words.specs.Order.{Less, Lyndon}
use Rattle.words.specs.Factors.{join, longest_prefix, factors}
use Rattle.words.specs.Tables.{LyndonAt, lyndon_at, longest_at, last_length, lyndon_starts, longest, longest_starts}
use Rattle.words.specs.Demand.{Member, FactorStart}
use Rattle.words.proofs.Bounded.{le_or_lt, largest_max, largest_passes, largest_is}
use Rattle.words.proofs.Order.{Le, le_trans, le_prefix, less_trans, less_irrefl, differ_append, differ_less}
use Rattle.words.proofs.Lyndon.{Some, some_length, length_some, lyndon_differ, lyndon_one}
use Rattle.words.proofs.Factors.{AllLe, Falling, AllAbove, all_le_trans, join_append, Within, within, first_longest, factors_falling, join_factors, factors_only, factors_right}
use Rattle.words.proofs.Factors.{falling_append, falling_left, falling_right, falling_above, longest_prefix_le, longest_prefix_lyndon, longest_prefix_max}
use Rattle.words.proofs.Places.{member_some, ascending_next, lyndon_at_true, true_lyndon_at, starts_member, starts_ascending}

-- the first factor is as long as the longest Lyndon prefix, and the others join to the rest
pub factors_head : (s f : List ℕ) (fs : List (List ℕ)) → factors s ≡ f ∷ fs → (longest_prefix s ≡ length f) × (join fs ≡ drop (length f) s)
factors_head s f fs e = (omega (arith, least, most), rw (← whole) (sym (drop-append_seam f (join fs))))
  where
    whole : f ++ join fs ≡ s
    whole = rw e at (join_factors s)

    falls : Falling (f ∷ fs)
    falls = rw e at (factors_falling s)

    least : length f ≤ longest_prefix s
    least = longest_prefix_max s f (join fs) (sym whole) falls.0

    some : Some s
    some = length_some s (omega (arith, falls.0.some, least, longest_prefix_le s))

    most : longest_prefix s ≤ length f
    most =
        let p = longest_prefix s in
        let (r, q) = first_longest f fs falls (take p s) (drop p s) (longest_prefix_lyndon s some) (whole ∙ sym (take-append-drop p s)) in
        omega (arith, ap length q, length-append (take p s) r, length-take-le p s (longest_prefix_le s))

pub factors_first : (s : List ℕ) → Some s → factors s ≡ take (longest_prefix s) s ∷ factors (drop (longest_prefix s) s)
factors_first s n = go (factors s) refl
  where
    go : (fs : List (List ℕ)) → factors s ≡ fs → factors s ≡ take (longest_prefix s) s ∷ factors (drop (longest_prefix s) s)
    go [] e = absurd (omega (arith, some_length s n, ap length (rw e at (join_factors s))))
    go (f ∷ fs) e =
        let (p, q) = factors_head s f fs e in
        let whole : f ++ join fs ≡ s = rw e at (join_factors s) in
        let first : take (length f) s ≡ f = rw (← whole) (take-append_seam f (join fs)) in
        rw (p, first, ← q, factors_right s (f ∷ []) fs e) e

-- F5: the reach entry is the length of the first factor of the suffix
pub longest_at_prefix : (s : List ℕ) (i : ℕ) → longest_at s i ≡ longest_prefix (drop i s)
unfolding longest_at
longest_at_prefix s i = largest_is (λ l. lyndon_at s l i) (length s) (longest_prefix (drop i s)) (omega (arith, most)) passes above
  where
    t : List ℕ
    t = drop i s

    most : longest_prefix t ≤ length s - i
    most = omega (arith, longest_prefix_le t, length-drop i s)

    passes : 0 < longest_prefix t → lyndon_at s (longest_prefix t) i ≡ true
    passes h =
        true_lyndon_at s (longest_prefix t) i
        (record {
          fits = omega (arith, most);
          word = longest_prefix_lyndon t (length_some t (omega (arith, longest_prefix_le t)));
        })

    above : (j : ℕ) → longest_prefix t < j → j ≤ length s → lyndon_at s j i ≡ false
    above j h l = go (lyndon_at s j i) refl
      where
        go : (b : Bool) → lyndon_at s j i ≡ b → lyndon_at s j i ≡ false
        go false e = e
        go true e =
            let w = lyndon_at_true s j i e in
            let m = longest_prefix_max t (take j t) (drop j t) (sym (take-append-drop j t)) w.word in
            absurd (omega (arith, m, w.fits, length-take j t, length-drop i s))

-- F8: a cut inside the later factors leaves the earlier ones
front_below : (m : List ℕ) (gs : List (List ℕ)) → Falling gs → AllLe m gs → (x y : List ℕ) → join gs ≡ x ++ y → AllLe m (factors x)
front_below m gs h a x y e = go gs (factors x) refl h a e
  where
    go : (gs fs : List (List ℕ)) → factors x ≡ fs → Falling gs → AllLe m gs → join gs ≡ x ++ y → AllLe m fs
    go gs [] q h a e = tt
    go [] (f ∷ fs) q h a e =
        let w : f ++ join fs ≡ x = rw q at (join_factors x) in
        let k : Falling (f ∷ fs) = rw q at (factors_falling x) in
        absurd (omega (arith, k.0.some, ap length w, length-append f (join fs), ap length e, length-append x y))
    go (g ∷ gs) (f ∷ fs) q h a e =
        let w : f ++ join fs ≡ x = rw q at (join_factors x) in
        let k : Falling (f ∷ fs) = rw q at (factors_falling x) in
        let (r, p) = first_longest g gs h f (join fs ++ y) k.0 (e ∙ ap (λ u. u ++ y) (sym w) ∙ append_assoc f (join fs) y) in
        let le : Le f m = le_trans f g m (rw p (le_prefix f r)) a.0 in
        (le, all_le_trans f m fs le k.1)

pub factors_front : (fs gs : List (List ℕ)) → Falling (fs ++ gs) → (x y : List ℕ) → join gs ≡ x ++ y → factors (join fs ++ x) ≡ fs ++ factors x
factors_front fs gs h x y e =
    sym
    (factors_only (join fs ++ x) (fs ++ factors x)
    (falling_append fs (factors x) (falling_left fs gs h) (factors_falling x) (above fs (falling_above fs gs h)))
    (join_append fs (factors x) ∙ ap (λ u. join fs ++ u) (join_factors x)))
  where
    above : (ks : List (List ℕ)) → AllAbove ks gs → AllAbove ks (factors x)
    above [] a = tt
    above (k ∷ ks) a = (front_below k gs (falling_right fs gs h) a.0 x y e, above ks a.1)

-- F9: the last factor is the longest suffix that is a Lyndon word
pub last_parts : (f : List ℕ) (fs : List (List ℕ)) → (before : List (List ℕ)) × (g : List ℕ) × (f ∷ fs ≡ before ++ g ∷ [])
last_parts f [] = ([], f, refl)
last_parts f (g ∷ fs) =
    let (before, l, e) = last_parts g fs in
    (f ∷ before, l, ap {B = List (List ℕ)} (λ r. f ∷ r) e)

last_length_lem : (fs : List (List ℕ)) (g : List ℕ) → last_length (fs ++ g ∷ []) ≡ length g
last_length_lem [] g = refl
last_length_lem (f ∷ []) g = refl
last_length_lem (f ∷ h ∷ fs) g = last_length_lem (h ∷ fs) g

pub last_longest : (s u v : List ℕ) → s ≡ u ++ v → Lyndon v → length v ≤ last_length (factors s)
last_longest s u v e h = go w.after w.parts w.back
  where
    w : Within (factors s) u v []
    w = within (factors s) (factors_falling s) u v [] h (join_factors s ∙ e ∙ ap (λ x. u ++ x) (sym (append-nil v)))

    go : (after : List (List ℕ)) → factors s ≡ w.before ++ w.factor ∷ after → [] ≡ w.right ++ join after → length v ≤ last_length (factors s)
    go [] p q =
        rw (p, last_length_lem w.before w.factor)
        (omega (arith, ap length w.inside, length-append w.left (v ++ w.right), length-append v w.right))
    go (f ∷ fs) p q =
        let k = falling_right w.before (w.factor ∷ f ∷ fs) (rw p at (factors_falling s)) in
        absurd (omega (arith, k.2.0.some, ap length q, length-append w.right (f ++ join fs), length-append f (join fs)))

pub last_suffix : (s : List ℕ) → Some s → (u : List ℕ) × (v : List ℕ) × (s ≡ u ++ v) × Lyndon v × (length v ≡ last_length (factors s))
last_suffix s n = go (factors s) refl
  where
    go : (fs : List (List ℕ)) → factors s ≡ fs → (u : List ℕ) × (v : List ℕ) × (s ≡ u ++ v) × Lyndon v × (length v ≡ last_length (factors s))
    go [] e = absurd (omega (arith, some_length s n, ap length (rw e at (join_factors s))))
    go (f ∷ fs) e =
        let (before, g, p) = last_parts f fs in
        let q : factors s ≡ before ++ g ∷ [] = e ∙ p in
        let whole : join before ++ (g ++ []) ≡ s = sym (join_append before (g ∷ [])) ∙ ap join (sym q) ∙ join_factors s in (
          join before,
          g,
          sym whole ∙ ap (λ x. join before ++ x) (append-nil g),
          (falling_right before (g ∷ []) (rw q at (factors_falling s))).0,
          sym (ap last_length q ∙ last_length_lem before g),
        )

-- F6: no Lyndon substring is longer than the longest, and its places are exactly those listed
pub longest_bound : (s : List ℕ) (l i : ℕ) → LyndonAt s l i → l ≤ longest s
unfolding longest
longest_bound s l i h =
    largest_max (λ k. ltb 0 (length (lyndon_starts s k))) (length s) l (omega (arith, h.fits))
    (lt-ltb 0 (length (lyndon_starts s l)) (member_some (lyndon_starts s l) i ((starts_member s l i).1 h)))

pub longest_listed : (s : List ℕ) (i : ℕ) → Member i (longest_starts s) ↔ LyndonAt s (longest s) i
unfolding longest_starts
longest_listed s i = starts_member s (longest s) i

pub longest_ascending : (s : List ℕ) (k : ℕ) → suc k < length (longest_starts s) → get_or (longest_starts s) k 0 < get_or (longest_starts s) (suc k) 0
unfolding longest_starts
longest_ascending s k h = ascending_next (lyndon_starts s (longest s)) (starts_ascending s (longest s)) k h

first_symbol : (s : List ℕ) → 0 < length s → LyndonAt s 1 0
first_symbol [] h = absurd (omega arith)
first_symbol (x ∷ xs) h = record { fits = omega arith; word = lyndon_one x }

pub longest_some : (s : List ℕ) → 0 < length s → 0 < length (longest_starts s)
unfolding longest_starts longest
longest_some s h =
    ltb-true 0 (length (lyndon_starts s (longest s)))
    (largest_passes (λ k. ltb 0 (length (lyndon_starts s k))) (length s) (omega (arith, longest_bound s 1 0 (first_symbol s h))))

pub longest_none : longest [] ≡ 0
unfolding longest
longest_none = refl

-- F7: a suffix smaller than all that start before it begins a factor, or is empty
data Spot (fs : List (List ℕ)) (r : ℕ) : Type 0 where
  starts : (k : ℕ) → k < length fs → length (join (take k fs)) ≡ r → Spot fs r
  inner : (before : List (List ℕ)) (u v : List ℕ) (after : List (List ℕ)) → fs ≡ before ++ (u ++ v) ∷ after → Some u → Some v
      → length (join before) + length u ≡ r → Spot fs r

spot : (fs : List (List ℕ)) (r : ℕ) → r < length (join fs) → Spot fs r
spot [] r h = absurd (omega arith)
spot (f ∷ fs) zero h = starts 0 (omega arith) refl
spot (f ∷ fs) (suc r) h = go (le_or_lt (length f) (suc r)) (λ q l. spot fs q l)
  where
    shift : (q : ℕ) → length f + q ≡ suc r → Spot fs q → Spot (f ∷ fs) (suc r)
    shift q d (starts k l e) = starts (suc k) (omega arith) (omega (arith, d, e, length-append f (join (take k fs))))
    shift q d (inner before u v after p nu nv e) =
        inner (f ∷ before) u v after (ap {B = List (List ℕ)} (λ x. f ∷ x) p) nu nv (omega (arith, d, e, length-append f (join before)))

    go : (length f ≤ suc r) ⊎ (suc r < length f) → ((q : ℕ) → q < length (join fs) → Spot fs q) → Spot (f ∷ fs) (suc r)
    go (inl l) ih = shift (suc r - length f) (omega arith) (ih (suc r - length f) (omega (arith, h, length-append f (join fs))))
    go (inr l) ih =
        let u = take (suc r) f in
        let v = drop (suc r) f in
        let m : length u ≡ suc r = length-take-le (suc r) f (omega arith) in
        inner [] u v fs (ap {B = List (List ℕ)} (λ x. x ∷ fs) (sym (take-append-drop (suc r) f))) (length_some u (omega (arith, m)))
        (length_some v (omega (arith, l, length-drop (suc r) f))) (omega (arith, m))

pub least_suffix : (s : List ℕ) (r : ℕ) → r < length s → ((j : ℕ) → j < r → Less (drop r s) (drop j s)) → FactorStart s r
least_suffix s r h l = go (spot (factors s) r (rw (join_factors s) h))
  where
    go : Spot (factors s) r → FactorStart s r
    go (starts k b e) = record { index = k; within = b; at = e }
    go (inner before u v after p nu nv e) =
        let j = join before in
        let z = join after in
        let whole : j ++ ((u ++ v) ++ z) ≡ s = sym (join_append before ((u ++ v) ∷ after)) ∙ ap join (sym p) ∙ join_factors s in
        let first : drop (length j) s ≡ (u ++ v) ++ z = rw (← whole) (drop-append_seam j ((u ++ v) ++ z)) in
        let parts : s ≡ (j ++ u) ++ (v ++ z) =
        sym whole ∙ ap (λ x. j ++ x) (append_assoc u v z) ∙ sym (append_assoc j u (v ++ z)) in
        let later : drop r s ≡ v ++ z = rw parts (drop_at (j ++ u) (v ++ z) r (length-append j u ∙ e)) in
        let word : Lyndon (u ++ v) = (falling_right before ((u ++ v) ∷ after) (rw p at (factors_falling s))).0 in
        let up : Less ((u ++ v) ++ z) (v ++ z) =
        differ_less ((u ++ v) ++ z) (v ++ z) (differ_append (u ++ v) v z z (lyndon_differ word u v nu nv refl)) in
        let down : Less (v ++ z) ((u ++ v) ++ z) = rw (later, first) at (l (length j) (omega (arith, e, some_length u nu))) in
        absurd (less_irrefl (v ++ z) (less_trans (v ++ z) ((u ++ v) ++ z) (v ++ z) down up))
