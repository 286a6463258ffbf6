-- The digest of a row whose entries are converted to numbers, entry by entry.
use Rattle.std.proofs.Common.{List, [], ◌∷◌, ◌++◌, ℕ, ◌+◌, ◌*◌, ◌%◌, ◌≡◌, refl, ap, sym, ◌∙◌, ◌<◌, length, take, get_or}
use Rattle.std.proofs.lemmas.List.{take_more}
use Rattle.show.specs.Digest.{digest_from, Numbers}

-- one number more
pub digest_more : (d : ℕ) (ns : List ℕ) (n : ℕ) → digest_from d (ns ++ n ∷ []) ≡ (digest_from d ns * 31 + n) % 65521
digest_more d [] n = refl
digest_more d (m ∷ ns) n = digest_more ((d * 31 + m) % 65521) ns n

pub numbers_more : {A : Type 0} (converts : A → ℕ → Type 0) (xs : List A) (ns : List ℕ) (x : A) (n : ℕ) → Numbers converts xs ns → converts x n
    → Numbers converts (xs ++ x ∷ []) (ns ++ n ∷ [])
numbers_more converts [] [] x n h g = (g, tt)
numbers_more converts [] (m ∷ ns) x n h g = absurd h
numbers_more converts (y ∷ xs) [] x n h g = absurd h
numbers_more converts (y ∷ xs) (m ∷ ns) x n h g = (h.0, numbers_more converts xs ns x n h.1 g)

-- the digest so far, and one entry more
pub digested_more : {A : Type 0} (converts : A → ℕ → Type 0) (xs : List A) (i d : ℕ) (x : A) (n : ℕ) → i < length xs → x ≡ get_or xs i x → converts x n
    → (ns : List ℕ) × Numbers converts (take i xs) ns × (d ≡ digest_from 0 ns)
    → (ns : List ℕ) × Numbers converts (take (i + 1) xs) ns × ((d * 31 + n) % 65521 ≡ digest_from 0 ns)
digested_more converts xs i d x n h e g (ns, m, q) =
    let p : take (i + 1) xs ≡ take i xs ++ x ∷ [] = take_more xs i x h ∙ ap (λ y. take i xs ++ y ∷ []) (sym e) in (
      ns ++ n ∷ [],
      rw p (numbers_more converts (take i xs) ns x n m g),
      ap (λ k. (k * 31 + n) % 65521) q ∙ sym (digest_more 0 ns n),
    )

-- entries that are numbers are their own: the digest of such a row is that of its entries
pub numbers_same : (xs ns : List ℕ) → Numbers (λ x n. n ≡ x) xs ns → ns ≡ xs
numbers_same [] [] h = refl
numbers_same [] (m ∷ ns) h = absurd h
numbers_same (x ∷ xs) [] h = absurd h
numbers_same (x ∷ xs) (n ∷ ns) h = ap (λ y. y ∷ ns) h.0 ∙ ap (λ ys. x ∷ ys) (numbers_same xs ns h.1)
