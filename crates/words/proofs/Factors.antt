-- F1 to F4: a Lyndon substring lies within one factor, a pattern has exactly one factorisation, and `factors` gives it.
-- `Falling` is the working form of the first two qualities: Lyndon words, each at least all later ones.
use mathlib.Core.List.{List, [], ◌∷◌, ◌++◌, append_assoc, append-nil}
use mathlib.Core.Logic.{◌↔◌}
use mathlib.Core.Path.{◌≡◌, refl, sym, ap, ◌∙◌}
use Prim.Native.Nat.{ℕ, zero, suc, ◌+◌, ◌≤◌, ◌<◌}
use native.Mathlib.Omega.{arith}
use lib.ListN.{length, take, drop, get_or, length-append, take-append-drop, length-drop, length-take}
use lib.Seq.{take-append_seam}
use Rattle.words.specs.Order.{Less, Lyndon, lyndon}
use Rattle.words.specs.Factors.{join, Factorisation, longest_prefix, factors_up_to, factors}
use Rattle.words.proofs.Bounded.{largest_le, largest_max, largest_passes}
use Rattle.words.proofs.Order.{Le, less_irrefl, less_le_less, le_trans, le_prefix}
use Rattle.words.proofs.Lyndon.{Some, some_length, some_left, Cut, long, short, cut, cut_equal, lyndon_some, lyndon_less, lyndon_le, lyndon_one, lyndon_join, lyndon_true, true_lyndon}

abbrev pub AllLe : List ℕ → List (List ℕ) → Type 0
AllLe m [] = Unit {0}
AllLe m (f ∷ fs) = Le f m × AllLe m fs

abbrev pub Falling : List (List ℕ) → Type 0
Falling [] = Unit {0}
Falling (f ∷ fs) = Lyndon f × AllLe f fs × Falling fs

pub all_le_trans : (m n : List ℕ) (fs : List (List ℕ)) → Le m n → AllLe m fs → AllLe n fs
all_le_trans m n [] h a = tt
all_le_trans m n (f ∷ fs) h a = (le_trans f m n a.0 h, all_le_trans m n fs h a.1)

pub join_append : (fs gs : List (List ℕ)) → join (fs ++ gs) ≡ join fs ++ join gs
join_append [] gs = refl
join_append (f ∷ fs) gs = rw (join_append fs gs) (sym (append_assoc f (join fs) (join gs)))

-- a nonempty front of joined words, none above m, ends in a nonempty word that is not above m
abbrev EndsLow : List ℕ → List ℕ → Type 0
EndsLow m t = (p : List ℕ) × (g : List ℕ) × (t ≡ p ++ g) × Some g × Le g m

ends_low : (m : List ℕ) (fs : List (List ℕ)) → AllLe m fs → (t z : List ℕ) → Some t → join fs ≡ t ++ z → EndsLow m t
ends_low m [] a t z n e = absurd (omega (arith, some_length t n, simp length-append at (ap length e)))
ends_low m (f ∷ fs) a t z n e = go (cut f (join fs) t z e) (λ r nr q. ends_low m fs a.1 r z nr q)
  where
    go : Cut f (join fs) t z → ((r : List ℕ) → Some r → join fs ≡ r ++ z → EndsLow m r) → EndsLow m t
    go (long r nr p q) ih = ([], t, refl, n, le_trans t f m (rw p (le_prefix t r)) a.0)
    go (short [] p q) ih = ([], t, refl, n, rw (p, append-nil) a.0)
    go (short (c ∷ r) p q) ih =
        let (x, g, y, ng, l) = ih (c ∷ r) tt q in
        (f ++ x, g, p ∙ ap (λ u. f ++ u) y ∙ sym (append_assoc f x g), ng, l)

-- a Lyndon word that begins in the member f does not end beyond it
not_across : {f : List ℕ} (fs : List (List ℕ)) → Lyndon f → AllLe f fs → (a t r z : List ℕ) → f ≡ a ++ t → Some t → Some r
    → Lyndon (t ++ r) → join fs ≡ r ++ z → ⊥
not_across {f} fs hf al a t r z e nt nr hy j =
    let (p, g, q, ng, l) = ends_low f fs al r z nr j in
    let low : Less (t ++ r) g = lyndon_less hy (t ++ p) g (some_left t p nt) ng (ap (λ u. t ++ u) q ∙ sym (append_assoc t p g)) in
    less_irrefl (t ++ r) (less_le_less (t ++ r) f (t ++ r) (less_le_less (t ++ r) g f low l) (le_trans f t (t ++ r) (lyndon_le hf a t nt e) (le_prefix t r)))

-- F1: y, found in the joined words between a and c, lies within one member
pub record Within (fs : List (List ℕ)) (a y c : List ℕ) : Type 0 where
  pub before : List (List ℕ)
  pub factor : List ℕ
  pub after : List (List ℕ)
  pub left : List ℕ
  pub right : List ℕ
  pub parts : fs ≡ before ++ factor ∷ after
  pub inside : factor ≡ left ++ (y ++ right)
  pub front : a ≡ join before ++ left
  pub back : c ≡ right ++ join after

pub within : (fs : List (List ℕ)) → Falling fs → (a y c : List ℕ) → Lyndon y → join fs ≡ a ++ (y ++ c) → Within fs a y c
within [] h a y c hy e =
    absurd (omega (arith, some_length y (lyndon_some hy), simp length-append at (ap length e)))
within (f ∷ fs) h a y c hy e = go (cut f (join fs) a (y ++ c) e) (λ t q. within fs h.2 t y c hy q)
  where
    go : Cut f (join fs) a (y ++ c) → ((t : List ℕ) → join fs ≡ t ++ (y ++ c) → Within fs t y c) → Within (f ∷ fs) a y c
    go (short t p q) ih =
        let w = ih t q in
        record {
          before = f ∷ w.before;
          factor = w.factor;
          after = w.after;
          left = w.left;
          right = w.right;
          parts = ap {B = List (List ℕ)} (λ r. f ∷ r) w.parts;
          inside = w.inside;
          front = p ∙ ap (λ u. f ++ u) w.front ∙ sym (append_assoc f (join w.before) w.left);
          back = w.back;
        }
    go (long t nt p q) ih = at (cut y c t (join fs) q)
      where
        at : Cut y c t (join fs) → Within (f ∷ fs) a y c
        at (short r p' q') =
            record {
              before = [];
              factor = f;
              after = fs;
              left = a;
              right = r;
              parts = refl;
              inside = rw (p, p') refl;
              front = refl;
              back = q';
            }
        at (long r nr p' q') = absurd (not_across fs h.0 h.1 a t r c p nt nr (rw p' at hy) q')

-- F2: the first member is the longest prefix that is a Lyndon word
pub first_longest : (f : List ℕ) (fs : List (List ℕ)) → Falling (f ∷ fs) → (y z : List ℕ) → Lyndon y → f ++ join fs ≡ y ++ z
    → (r : List ℕ) × (f ≡ y ++ r)
first_longest f fs h y z hy e = go (cut f (join fs) y z e)
  where
    go : Cut f (join fs) y z → (r : List ℕ) × (f ≡ y ++ r)
    go (long t nt p q) = (t, p)
    go (short [] p q) = ([], rw (p, append-nil, append-nil) refl)
    go (short (c ∷ t) p q) =
        absurd (not_across fs h.0 h.1 [] f (c ∷ t) z refl (lyndon_some h.0) tt (rw p at hy) q)

pub falling_unique : (fs gs : List (List ℕ)) → Falling fs → Falling gs → join fs ≡ join gs → fs ≡ gs
falling_unique [] [] h k e = refl
falling_unique [] (g ∷ gs) h k e = absurd (omega (arith, k.0.some, simp length-append at (ap length e)))
falling_unique (f ∷ fs) [] h k e = absurd (omega (arith, h.0.some, simp length-append at (ap length e)))
falling_unique (f ∷ fs) (g ∷ gs) h k e =
    let (r, p) = first_longest f fs h g (join gs) k.0 e in
    let (s, q) = first_longest g gs k f (join fs) h.0 (sym e) in
    let l : length f ≡ length g + length r = simp length-append at (ap length p) in
    let m : length g ≡ length f + length s = simp length-append at (ap length q) in
    let c = cut_equal f (join fs) g (join gs) e (omega arith) in
    let t = falling_unique fs gs h.2 k.2 c.1 in
    let u = c.0 in
    cc

-- the plain form of the qualities and the working one
pub falling_of : (s : List ℕ) (fs : List (List ℕ)) → Factorisation s fs → Falling fs
falling_of s fs h = go fs h.words h.falling
  where
    go : (fs : List (List ℕ)) → ((k : ℕ) → k < length fs → Lyndon (get_or fs k [])) → ((k : ℕ) → suc k < length fs → ¬ Less (get_or fs k []) (get_or fs (suc k) []))
        → Falling fs
    go [] w l = tt
    go (f ∷ []) w l = (w 0 (omega arith), tt, tt)
    go (f ∷ g ∷ fs) w l =
        let r = go (g ∷ fs) (λ k h. w (suc k) (omega arith)) (λ k h. l (suc k) (omega arith)) in
        let le : Le g f = l 0 (omega arith) in
        (w 0 (omega arith), (le, all_le_trans g f fs le r.1), r)

pub falling_words : (fs : List (List ℕ)) → Falling fs → (k : ℕ) → k < length fs → Lyndon (get_or fs k [])
falling_words [] h k l = absurd (omega arith)
falling_words (f ∷ fs) h zero l = h.0
falling_words (f ∷ fs) h (suc k) l = falling_words fs h.2 k (omega arith)

pub falling_next : (fs : List (List ℕ)) → Falling fs → (k : ℕ) → suc k < length fs → ¬ Less (get_or fs k []) (get_or fs (suc k) [])
falling_next [] h k l = absurd (omega arith)
falling_next (f ∷ []) h k l = absurd (omega arith)
falling_next (f ∷ g ∷ fs) h zero l = h.1.0
falling_next (f ∷ g ∷ fs) h (suc k) l = falling_next (g ∷ fs) h.2 k (omega arith)

pub of_falling : (s : List ℕ) (fs : List (List ℕ)) → Falling fs → join fs ≡ s → Factorisation s fs
of_falling s fs h e = record { words = falling_words fs h; falling = falling_next fs h; joined = e }

-- F3
pub longest_prefix_some : (s : List ℕ) → Some s → 0 < longest_prefix s
longest_prefix_some [] n = absurd n
longest_prefix_some (x ∷ xs) n =
    largest_max (λ l. lyndon (take l (x ∷ xs))) (length (x ∷ xs)) 1 (omega arith) (true_lyndon (x ∷ []) (lyndon_one x))

pub longest_prefix_le : (s : List ℕ) → longest_prefix s ≤ length s
longest_prefix_le s = largest_le (λ l. lyndon (take l s)) (length s)

pub longest_prefix_lyndon : (s : List ℕ) → Some s → Lyndon (take (longest_prefix s) s)
longest_prefix_lyndon s n =
    lyndon_true _ (largest_passes (λ l. lyndon (take l s)) (length s) (longest_prefix_some s n))

-- no Lyndon prefix is longer
pub longest_prefix_max : (s y z : List ℕ) → s ≡ y ++ z → Lyndon y → length y ≤ longest_prefix s
longest_prefix_max s y z e h =
    let l : length s ≡ length y + length z = simp length-append at (ap length e) in
    largest_max (λ k. lyndon (take k s)) (length s) (length y) (omega arith) (true_lyndon (take (length y) s) (rw (e, take-append_seam y z) h))

falling_up_to : (n : ℕ) (s : List ℕ) → length s ≤ n → Falling (factors_up_to n s) × (join (factors_up_to n s) ≡ s)
falling_up_to zero [] h = (tt, refl)
falling_up_to zero (x ∷ xs) h = absurd (omega arith)
falling_up_to (suc n) [] h = (tt, refl)
falling_up_to (suc n) (x ∷ xs) h =
    go (longest_prefix (x ∷ xs)) (longest_prefix_some (x ∷ xs) tt) (longest_prefix_lyndon (x ∷ xs) tt) (longest_prefix_max (x ∷ xs))
    (λ r l. falling_up_to n r l)
  where
    s : List ℕ
    s = x ∷ xs

    low : (p : ℕ) → Lyndon (take p s) → ((y z : List ℕ) → s ≡ y ++ z → Lyndon y → length y ≤ p) → (gs : List (List ℕ)) → Falling gs
        → join gs ≡ drop p s → AllLe (take p s) gs
    low p hp max [] hg e = tt
    low p hp max (g ∷ gs) hg e = (le, all_le_trans g (take p s) gs le hg.1)
      where
        le : Le g (take p s)
        le k =
            let y : s ≡ (take p s ++ g) ++ join gs = sym (rw (append_assoc, e) (take-append-drop p s)) in
            let m = max (take p s ++ g) (join gs) y (lyndon_join hp hg.0 k) in
            omega (arith, hg.0.some, m, length-append (take p s) g, length-take p s, length-append (take p s ++ g) (join gs), ap length y)

    go : (p : ℕ) → 0 < p → Lyndon (take p s) → ((y z : List ℕ) → s ≡ y ++ z → Lyndon y → length y ≤ p)
        → ((r : List ℕ) → length r ≤ n → Falling (factors_up_to n r) × (join (factors_up_to n r) ≡ r))
        → Falling (take p s ∷ factors_up_to n (drop p s)) × (take p s ++ join (factors_up_to n (drop p s)) ≡ s)
    go p some hp max ih =
        let (f, j) = ih (drop p s) (rw (length-drop p s) (omega arith)) in
        ((hp, low p hp max (factors_up_to n (drop p s)) f j, f), rw j (take-append-drop p s))

pub factors_falling : (s : List ℕ) → Falling (factors s)
unfolding factors
factors_falling s = (falling_up_to (length s) s (omega arith)).0

pub join_factors : (s : List ℕ) → join (factors s) ≡ s
unfolding factors
join_factors s = (falling_up_to (length s) s (omega arith)).1

falling_few : (fs : List (List ℕ)) → Falling fs → length fs ≤ length (join fs)
falling_few [] h = omega arith
falling_few (f ∷ fs) h = omega (arith, h.0.some, length-append f (join fs), falling_few fs h.2)

-- a pattern has no more factors than symbols
pub factors_few : (s : List ℕ) → length (factors s) ≤ length s
factors_few s = omega (arith, falling_few (factors s) (factors_falling s), ap length (join_factors s))

pub factors_only : (s : List ℕ) (fs : List (List ℕ)) → Falling fs → join fs ≡ s → fs ≡ factors s
factors_only s fs h e = falling_unique fs (factors s) h (factors_falling s) (e ∙ sym (join_factors s))

pub factorisation : (s : List ℕ) (fs : List (List ℕ)) → Factorisation s fs ↔ (fs ≡ factors s)
factorisation s fs = (λ h. factors_only s fs (falling_of s fs h) h.joined, λ e. rw e (of_falling s (factors s) (factors_falling s) (join_factors s)))

-- F4
abbrev pub AllAbove : List (List ℕ) → List (List ℕ) → Type 0
AllAbove [] gs = Unit {0}
AllAbove (f ∷ fs) gs = AllLe f gs × AllAbove fs gs

all_le_append : (m : List ℕ) (fs gs : List (List ℕ)) → AllLe m fs → AllLe m gs → AllLe m (fs ++ gs)
all_le_append m [] gs a b = b
all_le_append m (f ∷ fs) gs a b = (a.0, all_le_append m fs gs a.1 b)

pub all_le_left : (m : List ℕ) (fs gs : List (List ℕ)) → AllLe m (fs ++ gs) → AllLe m fs
all_le_left m [] gs a = tt
all_le_left m (f ∷ fs) gs a = (a.0, all_le_left m fs gs a.1)

pub all_le_right : (m : List ℕ) (fs gs : List (List ℕ)) → AllLe m (fs ++ gs) → AllLe m gs
all_le_right m [] gs a = a
all_le_right m (f ∷ fs) gs a = all_le_right m fs gs a.1

pub falling_append : (fs gs : List (List ℕ)) → Falling fs → Falling gs → AllAbove fs gs → Falling (fs ++ gs)
falling_append [] gs h k a = k
falling_append (f ∷ fs) gs h k a = (h.0, all_le_append f fs gs h.1 a.0, falling_append fs gs h.2 k a.1)

pub falling_left : (fs gs : List (List ℕ)) → Falling (fs ++ gs) → Falling fs
falling_left [] gs h = tt
falling_left (f ∷ fs) gs h = (h.0, all_le_left f fs gs h.1, falling_left fs gs h.2)

pub falling_right : (fs gs : List (List ℕ)) → Falling (fs ++ gs) → Falling gs
falling_right [] gs h = h
falling_right (f ∷ fs) gs h = falling_right fs gs h.2

pub falling_above : (fs gs : List (List ℕ)) → Falling (fs ++ gs) → AllAbove fs gs
falling_above [] gs h = tt
falling_above (f ∷ fs) gs h = (all_le_right f fs gs h.1, falling_above fs gs h.2)

pub factors_left : (s : List ℕ) (fs gs : List (List ℕ)) → factors s ≡ fs ++ gs → factors (join fs) ≡ fs
factors_left s fs gs e = sym (factors_only (join fs) fs (falling_left fs gs (rw e at (factors_falling s))) refl)

pub factors_right : (s : List ℕ) (fs gs : List (List ℕ)) → factors s ≡ fs ++ gs → factors (join gs) ≡ gs
factors_right s fs gs e = sym (factors_only (join gs) gs (falling_right fs gs (rw e at (factors_falling s))) refl)
