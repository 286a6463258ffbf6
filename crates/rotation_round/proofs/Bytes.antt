-- What follows a group of the ranks, read off the bytes of the pattern: as many are left, they share as much, and the ranks of its front decide.
use mathlib.Core.List.{List}
use mathlib.Core.Path.{◌≡◌, ap}
use Prim.Native.Nat.{ℕ, ◌+◌, ◌-◌, ◌*◌, ◌≤◌, ◌<◌}
use native.Mathlib.Omega.{arith}
use lib.ListN.{length, take, drop}
use Rattle.words.specs.Order.{smaller, shared}
use Rattle.ranks.specs.Inner.{Ranks}
use Rattle.ranks.specs.Ranks.{Bytes, ranked}
use Rattle.ranks.proofs.Ranked.{length_ranked, ranked_take, ranked_part, bytes_take, bytes_drop}
use Rattle.ranks.proofs.Shared.{shared_ranked}
use Rattle.scan.specs.Group.{NextGroup}
use Rattle.rotation_round.proofs.Follow.{follow, word, rest, size_inside, follow_inside, follow_differs, follow_front}

module _ (o s : List ℕ) {i size power : ℕ} (g : NextGroup (ranked o s) i size power) where
  pub group_inside : i + power * size ≤ length s
  group_inside = omega (arith, g.fits, length_ranked o s)

  pub word_inside : i + size ≤ length s
  word_inside = omega (arith, group_inside, size_inside (ranked o s) g)

  abbrev left : ℕ
  left = length s - (i + power * size)

  abbrev told : ℕ
  told = smaller (follow (ranked o s) g) (word (ranked o s) g)

  same_rest : rest (ranked o s) g ≡ left
  same_rest = ap (λ n. n - (i + power * size)) (length_ranked o s)

  pub bytes_inside : size ≤ left → 1 ≡ told
  bytes_inside l = follow_inside (ranked o s) g (rw same_rest l)

  -- where they are known to be bytes
  module _ (v : Ranks o) (b : Bytes s) where
    abbrev both : List ℕ → ℕ
    both u = shared (take left (drop (i + power * size) u)) (take left (drop i u))

    same_both : both (ranked o s) ≡ both s
    same_both =
        let x = bytes_take left (drop (i + power * size) s) (bytes_drop (i + power * size) s b) in
        let y = bytes_take left (drop i s) (bytes_drop i s b) in
        let e = ranked_part o left (i + power * size) s in
        let f = ranked_part o left i s in
        rw (e, f) at (shared_ranked v (take left (drop (i + power * size) s)) (take left (drop i s)) x y)

    pub bytes_differ : left ≤ size → both s < left → 1 ≡ told
    bytes_differ l h = follow_differs (ranked o s) g (rw same_rest l) (rw (same_rest, same_both) h)

    pub bytes_front : left ≤ size → left ≤ both s
        → smaller (ranked o (take (size - left) s)) (ranked o (take (i + size - (i + left)) (drop (i + left) s))) ≡ told
    bytes_front l h =
        rw (ranked_take o (size - left) s, ranked_part o (i + size - (i + left)) (i + left) s)
        (rw same_rest at (follow_front (ranked o s) g (rw same_rest l) (rw (same_rest, same_both) h)))
