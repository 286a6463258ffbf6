-- L1 and L2: a Lyndon word is smaller than its suffixes by a difference, and two of them in rising order join to one.
-- Words are cut as w ≡ u ++ v; `Some` is "nonempty" and `Cut` says how two cuts of one word lie.
use mathlib.Core.Bool.{Bool, true, false, ◌||◌}
use mathlib.Core.List.{List, [], ◌∷◌, ◌++◌, append-nil}
use mathlib.Core.Path.{◌≡◌, refl, sym, ap}
use Prim.Native.Nat.{ℕ, zero, suc, ◌+◌, ◌<◌}
use native.Mathlib.Omega.{arith}
use lib.ListN.{length, take, drop, length-append, take-append-drop, length-drop, length-take}
use lib.Seq.{drop-append_seam}
use lib.Dec.{ltb, eqb}
use borrow.Author.Tests.{ltb-true, lt-ltb, eqb-true}
use Rattle.words.specs.Order.{Less, less, Lyndon, lyndon}
use Rattle.words.proofs.Bounded.{and_true, true_false, every_true, true_every}
use Rattle.words.proofs.Order.{Differ, Le, How, prefix, differ, less_how, less_trans, less_front, less_differ, differ_append, differ_less, less_le, le_refl, less_true, true_less}

abbrev pub Some : List ℕ → Type 0
Some [] = ⊥
Some (x ∷ xs) = Unit {0}

pub some_length : (w : List ℕ) → Some w → 0 < length w
some_length [] n = absurd n
some_length (x ∷ xs) n = omega arith

pub length_some : (w : List ℕ) → 0 < length w → Some w
length_some [] h = absurd (omega arith)
length_some (x ∷ xs) h = tt

pub some_left : (u v : List ℕ) → Some u → Some (u ++ v)
some_left [] v n = absurd n
some_left (x ∷ u) v n = tt

pub some_right : (u v : List ℕ) → Some v → Some (u ++ v)
some_right [] v n = n
some_right (x ∷ u) v n = tt

-- Levi's lemma
pub data Cut (a b c d : List ℕ) : Type 0 where
  long : (t : List ℕ) → Some t → a ≡ c ++ t → d ≡ t ++ b → Cut a b c d
  short : (t : List ℕ) → c ≡ a ++ t → b ≡ t ++ d → Cut a b c d

pub cut : (a b c d : List ℕ) → a ++ b ≡ c ++ d → Cut a b c d
cut [] b c d e = short c refl e
cut (x ∷ a) b [] d e = long (x ∷ a) tt refl (sym e)
cut (x ∷ a) b (y ∷ c) d e = go (cut a b c d (cc))
  where
    h : x ≡ y
    h = cc

    go : Cut a b c d → Cut (x ∷ a) b (y ∷ c) d
    go (long t n p q) = long t n (cc (h, p)) q
    go (short t p q) = short t (cc (h, p)) q

-- a list taken by its front's length
pub cut_equal : (a b c d : List ℕ) → a ++ b ≡ c ++ d → length a ≡ length c → (a ≡ c) × (b ≡ d)
cut_equal [] b [] d e l = (refl, e)
cut_equal [] b (y ∷ c) d e l = absurd (omega arith)
cut_equal (x ∷ a) b [] d e l = absurd (omega arith)
cut_equal (x ∷ a) b (y ∷ c) d e l =
    let h : x ≡ y = cc in
    let (p, q) = cut_equal a b c d (cc) (omega arith) in
    (cc, q)

-- Lyndon words by their cuts
pub lyndon_some : {w : List ℕ} → Lyndon w → Some w
lyndon_some {w} h = length_some w h.some

pub lyndon_less : {w : List ℕ} → Lyndon w → (u v : List ℕ) → Some u → Some v → w ≡ u ++ v → Less w v
lyndon_less {w} h u v nu nv e =
    let l : length w ≡ length u + length v = simp length-append at (ap length e) in
    let m = some_length u nu in
    let n = some_length v nv in
    let q : drop (length u) w ≡ v = rw e (drop-append_seam u v) in
    rw q at (h.least (length u) m (omega arith))

pub lyndon_differ : {w : List ℕ} → Lyndon w → (u v : List ℕ) → Some u → Some v → w ≡ u ++ v → Differ w v
lyndon_differ {w} h u v nu nv e =
    let l : length w ≡ length u + length v = simp length-append at (ap length e) in
    less_differ w v (omega arith) (lyndon_less h u v nu nv e)

-- a Lyndon word is at most each of its nonempty suffixes
pub lyndon_le : {w : List ℕ} → Lyndon w → (u v : List ℕ) → Some v → w ≡ u ++ v → Le w v
lyndon_le {w} h [] v nv e = rw e (le_refl v)
lyndon_le {w} h (x ∷ u) v nv e = less_le w v (lyndon_less h (x ∷ u) v tt nv e)

pub lyndon_by_cuts : (w : List ℕ) → Some w → ((u v : List ℕ) → Some u → Some v → w ≡ u ++ v → Less w v) → Lyndon w
lyndon_by_cuts w n h =
    record {
      some = some_length w n;
      least = λ k p l.
          h (take k w) (drop k w) (length_some (take k w) (rw (length-take k w) (omega arith)))
          (length_some (drop k w) (rw (length-drop k w) (omega arith))) (sym (take-append-drop k w));
    }

pub lyndon_one : (x : ℕ) → Lyndon (x ∷ [])
lyndon_one x = record { some = omega arith; least = λ k p l. absurd (omega arith) }

-- L2
joined_less : (u v : List ℕ) → Lyndon v → Some u → Less u v → Less (u ++ v) v
joined_less u v h nu l = go (less_how u v l)
  where
    go : How u v → Less (u ++ v) v
    go (prefix c t e) = rw (← e) at (less_front u v (c ∷ t) (lyndon_less h u (c ∷ t) nu tt e))
    go (differ d) = differ_less (u ++ v) v (rw append-nil at (differ_append u v v [] d))

pub lyndon_join : {u v : List ℕ} → Lyndon u → Lyndon v → Less u v → Lyndon (u ++ v)
lyndon_join {u} {v} hu hv l = lyndon_by_cuts (u ++ v) (some_left u v (lyndon_some hu)) up
  where
    whole : Less (u ++ v) v
    whole = joined_less u v hv (lyndon_some hu) l

    up : (a b : List ℕ) → Some a → Some b → u ++ v ≡ a ++ b → Less (u ++ v) b
    up a b na nb e = go (cut u v a b e)
      where
        go : Cut u v a b → Less (u ++ v) b
        go (long t nt p q) = rw q (differ_less (u ++ v) (t ++ v) (differ_append u t v v (lyndon_differ hu a t na nt p)))
        go (short [] p q) = rw (← q) whole
        go (short (c ∷ t) p q) = less_trans (u ++ v) v b whole (lyndon_less hv (c ∷ t) b tt nb q)

-- the test
pub lyndon_true : (w : List ℕ) → lyndon w ≡ true → Lyndon w
lyndon_true w e =
    record {
      some = ltb-true 0 (length w) (and_true (ltb 0 (length w)) _ e).0;
      least = λ k p l. go k p (every_true (λ j. eqb j 0 || less w (drop j w)) (length w) (and_true (ltb 0 (length w)) _ e).1 k l);
    }
  where
    go : (k : ℕ) → 0 < k → (eqb k 0 || less w (drop k w)) ≡ true → Less w (drop k w)
    go k p q = at (eqb k 0) refl q
      where
        at : (b : Bool) → eqb k 0 ≡ b → (b || less w (drop k w)) ≡ true → Less w (drop k w)
        at true r f = absurd (let z = eqb-true k 0 r in omega arith)
        at false r f = less_true w (drop k w) f

pub true_lyndon : (w : List ℕ) → Lyndon w → lyndon w ≡ true
true_lyndon w h = rw (lt-ltb 0 (length w) h.some) (true_every (λ j. eqb j 0 || less w (drop j w)) (length w) each)
  where
    each : (k : ℕ) → k < length w → (eqb k 0 || less w (drop k w)) ≡ true
    each zero l = refl
    each (suc k) l = rw (true_less w (drop (suc k) w) (h.least (suc k) (omega arith) l)) (go (eqb (suc k) 0))
      where
        go : (b : Bool) → (b || true) ≡ true
        go true = refl
        go false = refl

pub lyndon_false : (w : List ℕ) → lyndon w ≡ false → Lyndon w → ⊥
lyndon_false w e h = true_false (true_lyndon w h) e

pub false_lyndon : (w : List ℕ) → (Lyndon w → ⊥) → lyndon w ≡ false
false_lyndon w h = go (lyndon w) refl
  where
    go : (b : Bool) → lyndon w ≡ b → lyndon w ≡ false
    go true e = absurd (h (lyndon_true w e))
    go false e = e
