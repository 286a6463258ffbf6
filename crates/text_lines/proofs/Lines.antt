-- The lines of a pass over the groups, turn by turn, and the listing, with a buffer length that always suffices.
use mathlib.Core.List.{List, [], ◌∷◌, ◌++◌}
use mathlib.Core.Logic.{◌⊎◌, inl, inr}
use mathlib.Core.Path.{◌≡◌, refl, sym, ap, ◌∙◌}
use Prim.Native.Nat.{ℕ, ◌+◌, ◌-◌, ◌*◌, ◌/◌, ◌≤◌, ◌<◌}
use native.Mathlib.Omega.{arith}
use lib.ListN.{length, take, drop, length-append, length-drop}
use lib.Seq.{length-take-le}
use Rattle.ranks.specs.Ranks.{Bytes, byte_order, ranked}
use Rattle.ranks.proofs.Ranked.{length_ranked, none_ranked, byte_ranked}
use Rattle.rows.specs.Written.{Fits, Writes}
use Rattle.rows.specs.declared.Writer.{Writer}
use Rattle.rows.proofs.Writing.{writes_then}
use Rattle.refusals.specs.Refusals.{max_pattern}
use Rattle.scan.specs.Group.{NextGroup, GroupFrom}
use Rattle.scan.proofs.Next.{groups_start, suffix_end, next_group}
use Rattle.scan.proofs.Pass.{length_fits}
use Rattle.words.specs.Factors.{Group, join, word_of}
use Rattle.words.specs.Order.{shared}
use Rattle.words.specs.Tables.{groups, suffix_groups}
use Rattle.words.proofs.Bounded.{le_or_lt}
use Rattle.words.proofs.Groups.{group}
use Rattle.words.proofs.Scan.{scan_stops}
use Rattle.words.proofs.Shared.{shared_right}
use Rattle.text.specs.Inner.{max_listing}
use Rattle.text.specs.Listing.{header, shared_column, line, lines, listing_text, listing_by}
use Rattle.text.proofs.Lengths.{length_header}
use Rattle.text_lines.specs.declared.LinesLeft.{LinesLeft}
use Rattle.text_lines.specs.Texts.{line_texts, first_size, first_power}
use Rattle.text_lines.proofs.Most.{suffix_most}

-- the part of s from i to j
abbrev part : List ℕ → ℕ → ℕ → List ℕ
part s i j = take (j - i) (drop i s)

-- the lines, one by one, joined
pub lines_joined : (t : List ℕ) (gs : List Group) → join (line_texts t gs) ≡ lines t gs
lines_joined t [] = refl
lines_joined t (g ∷ gs) = ap (λ u. line g.start g.size g.power (word_of t g) (shared_column t g gs) ++ u) (lines_joined t gs)

pub first_length : {texts rest : List (List ℕ)} (text : List ℕ) → texts ≡ text ∷ rest → length (join texts) ≡ length text + length (join rest)
first_length {texts} {rest} text e = ap length (ap join e) ∙ length-append text (join rest)

-- before the end, the group found ahead is the one that starts there
pub ahead : (it : LinesLeft) → (it.at ≡ length it.s.now → ⊥) → NextGroup (ranked it.ranks.list.now it.s.now) it.at it.ahead.length it.ahead.power
ahead it h =
    let t = ranked it.ranks.list.now it.s.now in
    let c = scan_stops t it.at (omega (arith, h, it.within, length_ranked it.ranks.list.now it.s.now)) in
    let g = next_group c.scan c.stops in
    let size : c.size ≡ it.ahead.length = sym (ap first_size g.group) ∙ it.found.0 in
    let power : (c.stop - it.at) / c.size ≡ it.ahead.power = sym (ap first_power g.group) ∙ it.found.1 in
    rw (power, size) at g

-- what the iterator knows of a group that was found
module _ {t : List ℕ} {i l e : ℕ} where
  pub found_from : GroupFrom t i l e → (first_size (suffix_groups t i) ≡ l) × (first_power (suffix_groups t i) ≡ e)
  found_from g = go (le_or_lt (length t) i)
    where
      go : (length t ≤ i) ⊎ (i < length t) → (first_size (suffix_groups t i) ≡ l) × (first_power (suffix_groups t i) ≡ e)
      go (inl h) = (ap first_size (suffix_end t i h) ∙ sym (g.none h).0, ap first_power (suffix_end t i h) ∙ sym (g.none h).1)
      go (inr h) = (ap first_size (g.group h).group, ap first_power (g.group h).group)

-- one turn of the pass over the groups of t, whose words are spelled of s: the line of the group at i, whose word is compared with the next one's, and
-- the lines that are left
module _ (s : List ℕ) {t : List ℕ} {i l e l' e' c : ℕ} (same : length t ≡ length s) (g : NextGroup t i l e) (next : GroupFrom t (i + e * l) l' e')
    (is_shared : c ≡ shared (take l (drop i s)) (take l' (drop (i + e * l) s))) where
  column : shared_column s (group i l e) (suffix_groups t (i + e * l)) ≡ c
  column = go (le_or_lt (length t) (i + e * l)) ∙ sym is_shared
    where
      go : (length t ≤ i + e * l) ⊎ (i + e * l < length t)
          → shared_column s (group i l e) (suffix_groups t (i + e * l)) ≡ shared (take l (drop i s)) (take l' (drop (i + e * l) s))
      go (inl h) =
          let z : shared (take l (drop i s)) [] ≡ 0 = omega (arith, shared_right (take l (drop i s)) []) in
          rw (next.none h).0 (ap (shared_column s (group i l e)) (suffix_end t (i + e * l) h) ∙ sym z)
      go (inr h) = ap (shared_column s (group i l e)) (next.group h).group

  pub line_turn : line_texts s (suffix_groups t i) ≡ line i (length (part s i (i + l))) e (part s i (i + l)) c ∷ line_texts s (suffix_groups t (i + e * l))
  line_turn =
      let n : i + l - i ≡ l = omega arith in
      let m : length (take l (drop i s)) ≡ l = length-take-le l (drop i s) (omega (arith, same, length-drop i s, length_fits g, g.fits)) in
      ap (line_texts s) g.group
      ∙ ap (λ n. line i l e (take l (drop i s)) n ∷ line_texts s (suffix_groups t (i + e * l))) column ∙ rw (n, m)

-- the listing: the header, then the lines of all groups of the ranks
module _ (o s : List ℕ) where
  abbrev all : List ℕ
  all = lines s (suffix_groups (ranked o s) 0)

  listing_parts : listing_by o s ≡ header ++ all
  unfolding listing_by
  listing_parts = ap (λ gs. header ++ lines s gs) (groups_start (ranked o s))

  pub listing_length : length (listing_by o s) ≡ 32 + length all
  listing_length = ap length listing_parts ∙ length-append header all ∙ ap (λ n. n + length all) length_header

  -- a buffer of this length suffices for any listing of so many bytes
  pub listing_most : length s ≤ max_pattern → length (listing_by o s) ≤ 32 + 20 * length s
  listing_most h = omega (arith, listing_length, suffix_most o s 0 (omega arith) (omega arith))

  pub listing_put : {w w₁ w₂ : Writer} → Fits (listing_by o s) w → Writes header w w₁ → Writes all w₁ w₂ → Writes (listing_by o s) w w₂
  listing_put h p q = rw listing_parts (writes_then p q (omega (arith, h, listing_length, length_header)))

-- the same ranks give the same listing; no ranks, and byte order, give the one that names no order
pub listing_same : (o p s : List ℕ) → ranked o s ≡ ranked p s → listing_by o s ≡ listing_by p s
unfolding listing_by
listing_same o p s e = ap (λ t. header ++ lines s (groups t)) e

pub listing_none : (o s : List ℕ) → length o ≡ 0 → listing_by o s ≡ listing_text s
unfolding listing_by listing_text
listing_none o s e = ap (λ t. header ++ lines s (groups t)) (none_ranked o s e)

pub listing_bytes : (s : List ℕ) → Bytes s → listing_by byte_order s ≡ listing_text s
unfolding listing_by listing_text
listing_bytes s h = ap (λ t. header ++ lines s (groups t)) (byte_ranked s h)

pub listing_room : (s : List ℕ) → length s ≤ max_pattern → length (listing_text s) ≤ max_listing
listing_room s h = omega (arith, listing_most [] s h, ap length (listing_none [] s refl))
