-- Equal neighbouring factors counted forward along the Lyndon array, from the start of a group.
use mathlib.Core.Bool.{Bool, true, false}
use mathlib.Core.List.{List, [], ◌∷◌, ◌++◌, append_assoc}
use mathlib.Core.Path.{◌≡◌, refl, sym, ap, ◌∙◌}
use Prim.Native.Nat.{ℕ, ◌+◌, ◌*◌, ◌-◌, ◌≤◌, ◌<◌}
use native.Mathlib.Omega.{arith}
use lib.ListN.{length, take, drop, get_or, replicate, drop_of_length-le, replicate-append-replicate}
use Rattle.words.specs.Order.{same}
use Rattle.words.specs.Factors.{factors, starts_with, groups_from}
use Rattle.words.specs.Tables.{longest_at, lyndon_array, suffix_groups}
use Rattle.words.proofs.Below.{word_length}
use Rattle.words.proofs.Order.{same_true, false_same}
use Rattle.words.proofs.Groups.{groups_repeat}
use Rattle.words.proofs.Stored.{stored_long, stored_entry}
use Rattle.words.proofs.Tables.{longest_at_some, longest_at_fits, chain_suffix, lyndon_array_length}
use Rattle.ranks.specs.Inner.{Ranks}
use Rattle.ranks.specs.Ranks.{Bytes, ranked}
use Rattle.ranks.proofs.Ranked.{length_ranked, ranked_part, bytes_take, bytes_drop}
use Rattle.ranks.proofs.Shared.{same_ranked}
use Rattle.scan.specs.Group.{NextGroup}

-- a row whose first entries are the Lyndon array
module _ (o s row : List ℕ) (h : take (length s) row ≡ lyndon_array (ranked o s)) where
  long : length (ranked o s) ≡ length s
  long = length_ranked o s

  pub array_room : length s ≤ length row
  array_room = stored_long (length s) row (lyndon_array (ranked o s)) (lyndon_array_length (ranked o s) ∙ long) h

  pub array_entry : (i : ℕ) → i < length s → get_or row i 0 ≡ longest_at (ranked o s) i
  array_entry i l = stored_entry (ranked o s) row (rw long h) i (rw long l)

  pub array_fits : (i : ℕ) → i < length s → i + get_or row i 0 ≤ length s
  array_fits i l = omega (arith, array_entry i l, longest_at_fits (ranked o s) i (rw long l), long)

-- two words are the same where their ranks are
pub same_words : {o : List ℕ} → Ranks o → (s : List ℕ) → Bytes s → (i j size : ℕ)
    → same (take (i + size - i) (drop i s)) (take (j + size - j) (drop j s)) ≡ same (take (i + size - i) (drop i (ranked o s))) (take (j + size - j) (drop j (ranked o s)))
same_words {o} v s b i j size =
    let m = i + size - i in
    let n = j + size - j in
    let p = bytes_take m (drop i s) (bytes_drop i s b) in
    let q = bytes_take n (drop j s) (bytes_drop j s b) in
    sym (rw (ranked_part o m i s, ranked_part o n j s) at (same_ranked v (take m (drop i s)) (take n (drop j s)) p q))

-- from i on stand `power` equal factors of length `size`, up to j
pub record Equal (s : List ℕ) (i size power j : ℕ) : Type 0 where
  pub factor : 0 < size
  pub some : 0 < power
  pub few : power ≤ j
  pub first : i + size ≤ j
  pub at : j ≡ i + power * size
  pub ends : j ≤ length s
  pub parts : factors (drop i s) ≡ replicate power (take size (drop i s)) ++ factors (drop j s)

pub equal_start : (s : List ℕ) (i size : ℕ) → i < length s → size ≡ longest_at s i → Equal s i size 1 (i + size)
equal_start s i size l e =
    record {
      factor = rw e (longest_at_some s i l);
      some = omega arith;
      few = omega (arith, longest_at_some s i l);
      first = omega arith;
      at = omega arith;
      ends = rw e (longest_at_fits s i l);
      parts = rw e (chain_suffix s i l);
    }

module _ {s : List ℕ} {i size power j : ℕ} (c : Equal s i size power j) where
  equal_stop : starts_with (take size (drop i s)) (factors (drop j s)) ≡ false → NextGroup s i size power
  unfolding suffix_groups
  equal_stop q =
      let w = take size (drop i s) in
      let n = word_length s i size (omega arith) in
      record {
        factor = c.factor;
        some = c.some;
        fits = omega arith;
        group = ap (groups_from i) c.parts ∙ rw (← c.at) (rw (n, ← c.at) at (groups_repeat w (factors (drop j s)) i power q c.some));
      }

  pub stop_end : length s ≤ j → NextGroup s i size power
  unfolding factors
  stop_end l = equal_stop (rw (drop_of_length-le s l) refl)

  -- x is the entry at j
  module _ {x : ℕ} (l : j < length s) (entry : x ≡ longest_at s j) where
    pub stop_length : (x ≡ size → ⊥) → NextGroup s i size power
    stop_length q =
        equal_stop
        (rw (chain_suffix s j l)
        (false_same (take size (drop i s)) (take (longest_at s j) (drop j s))
        (λ e. q (omega (arith, ap length e, word_length s i size (omega arith), word_length s j (longest_at s j) (longest_at_fits s j l))))))

    -- b is whether the word at j is the word at i
    module _ {b : Bool} (k : x ≡ size) (h : b ≡ same (take (i + size - i) (drop i s)) (take (j + size - j) (drop j s))) where
      words : same (take size (drop i s)) (take size (drop j s)) ≡ b
      words =
          let m : i + size - i ≡ size = omega arith in
          let n : j + size - j ≡ size = omega arith in
          sym (rw (m, n) at h)

      pub stop_word : b ≡ false → NextGroup s i size power
      stop_word q = equal_stop (rw (chain_suffix s j l, ← entry, k) (words ∙ q))

      pub equal_turn : b ≡ true → Equal s i size (power + 1) (j + size)
      equal_turn q =
          let w = take size (drop i s) in
          let n : factors (drop j s) ≡ w ∷ factors (drop (j + size) s) =
          rw (same_true w (take size (drop j s)) (words ∙ q), ← k, entry) (chain_suffix s j l) in
          record {
            factor = c.factor;
            some = omega arith;
            few = omega arith;
            first = omega arith;
            at = omega arith;
            ends = omega (arith, longest_at_fits s j l);
            parts =
                c.parts ∙ ap (λ t. replicate power w ++ t) n ∙ sym (append_assoc (replicate power w) (w ∷ []) (factors (drop (j + size) s)))
                ∙ ap (λ t. t ++ factors (drop (j + size) s)) (replicate-append-replicate power 1 w);
          }
