-- The law of the column `shared`, under every order: on each line of a listing it is less than the column `length`, the number of the word's bytes.
use mathlib.Core.List.{List, [], ◌∷◌, ◌++◌}
use mathlib.Core.Path.{◌≡◌, sym, ap, ◌∙◌}
use Prim.Native.Nat.{ℕ, ◌<◌}
use native.Mathlib.Omega.{arith}
use lib.ListN.{length}
use Rattle.ranks.specs.Ranks.{ranked}
use Rattle.ranks.proofs.Ranked.{length_ranked, ranked_part}
use Rattle.ranks.proofs.Shared.{shared_least}
use Rattle.words.specs.Factors.{Group, word_of}
use Rattle.words.specs.Tables.{groups}
use Rattle.words.proofs.Neighbours.{Standing, standing_groups, standing_behind, word_size, next_smaller}
use Rattle.words.proofs.Shared.{shared_shorter}
use Rattle.text.specs.Listing.{shared_column}

module _ (o s : List ℕ) where
  -- the ranks of a group's word
  word_ranked : (g : Group) → ranked o (word_of s g) ≡ word_of (ranked o s) g
  word_ranked g = ranked_part o g.size g.start s

  word_length : (g : Group) (gs : List Group) → Standing (ranked o s) (g ∷ gs) → length (word_of s g) ≡ g.size
  word_length g gs r = sym (length_ranked o (word_of s g)) ∙ ap length (word_ranked g) ∙ (word_size r).1

  -- two words share no more bytes than ranks
  pub first_column : (g : Group) (gs : List Group) → Standing (ranked o s) (g ∷ gs) → (shared_column s g gs < g.size) × (length (word_of s g) ≡ g.size)
  first_column g [] r = ((word_size r).0, word_length g [] r)
  first_column g (h ∷ gs) r =
      let least = rw (word_ranked g, word_ranked h) at (shared_least o (word_of s g) (word_of s h)) in
      let short = shared_shorter (word_of (ranked o s) g) (word_of (ranked o s) h) (next_smaller r) in
      (omega (arith, least, short, (word_size r).1), word_length g (h ∷ gs) r)

  -- for each line of the listing of s: its group is g, and those of the lines behind it are `after`
  pub column_shorter : (before : List Group) (g : Group) (after : List Group) → groups (ranked o s) ≡ before ++ g ∷ after
      → (shared_column s g after < g.size) × (length (word_of s g) ≡ g.size)
  column_shorter before g after e = first_column g after (standing_behind before (rw e at (standing_groups (ranked o s))))
