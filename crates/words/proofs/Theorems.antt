-- The theorems about the definitions, for the auditor: each is a statement over specs/, what Answer and Joined define and four records that
-- stand with their laws (Packed, Within, FactorAt, FirstOver), and a citation of its proof. They say that the tests agree with the propositions,
-- that the computed definitions mean what the papers say, and that the owner's demands 2 and 3 and the law of the seams hold for all patterns and
-- all edits with from ≤ to ≤ length s.
use mathlib.Core.Bool.{true, false}
use mathlib.Core.List.{List, [], ◌∷◌, ◌++◌}
use mathlib.Core.Logic.{◌↔◌}
use mathlib.Core.Path.{◌≡◌, refl}
use Prim.Native.Nat.{ℕ, ◌+◌, ◌-◌, ◌*◌, ◌^◌, ◌≤◌, ◌<◌}
use lib.ListN.{length, take, drop, get_or}
use Rattle.words.specs.Order.{Less, less, smaller, shared, Lyndon, lyndon}
use Rattle.words.specs.Factors.{Factorisation, factors, Group, word_of, spelled, groups_from, group_numbers, number_groups}
use Rattle.words.specs.Tables.{LyndonAt, longest_at, lyndon_array, last_factor, last_factors, longest, longest_starts, longest_word, groups}
use Rattle.words.specs.Rotation.{rotation, least_rotation, UniqueLeast, Repeated, repeated}
use Rattle.words.specs.Tree.{split, tree_nodes, Node}
use Rattle.words.specs.Edit.{edited, middle_groups, bits}
use Rattle.words.specs.Demand.{Member, DemandTwo}
use Rattle.words.proofs.Answer.{Answer, answer, MeetsThree}
use Rattle.words.proofs.Order.{less_true, true_less}
use Rattle.words.proofs.Shared as shared_laws
use Rattle.words.proofs.Lyndon.{lyndon_true, true_lyndon}
use Rattle.words.proofs.Factors.{Within, within, factorisation, factors_falling, join_factors}
use Rattle.words.proofs.Groups.{Packed, packed, packed_only}
use Rattle.words.proofs.Spelled as spelled_laws
use Rattle.words.proofs.Longest as longest_laws
use Rattle.words.proofs.Substrings as substrings
use Rattle.words.proofs.Tables as tables
use Rattle.words.proofs.Rotation as rotations
use Rattle.words.proofs.RotationGroups as rotation_groups
use Rattle.words.proofs.Repeated as repeats
use Rattle.words.proofs.UniqueLeast as unique_laws
use Rattle.words.proofs.Tree as trees
use Rattle.words.proofs.Fresh as fresh
use Rattle.words.proofs.Demand as demands
use Rattle.words.proofs.Joined as joined_laws
use Rattle.words.proofs.Joined.{join_equal, kept_groups, resumed_groups}
use Rattle.words.proofs.Neighbours as neighbours
use Rattle.words.proofs.Only as only_laws

-- the tests agree with the propositions
pub less_test : (x y : List ℕ) → Less x y ↔ (less x y ≡ true)
less_test x y = (true_less x y, less_true x y)

pub lyndon_test : (w : List ℕ) → Lyndon w ↔ (lyndon w ≡ true)
lyndon_test w = (true_lyndon w, lyndon_true w)

-- which of two strings is smaller: what 1, 2 and 0 mean
pub smaller_first : (a b : List ℕ) → Less a b ↔ (smaller a b ≡ 1)
smaller_first = shared_laws.smaller_first

pub smaller_second : (a b : List ℕ) → Less b a ↔ (smaller a b ≡ 2)
smaller_second = shared_laws.smaller_second

pub smaller_neither : (a b : List ℕ) → (a ≡ b) ↔ (smaller a b ≡ 0)
smaller_neither = shared_laws.smaller_neither

-- the shared length: the first k symbols are a common beginning exactly when k is at most that; it is less than the whole of the greater string
pub shared_longest : (a b : List ℕ) (k : ℕ) → ((k ≤ length a) × (k ≤ length b) × (take k a ≡ take k b)) ↔ (k ≤ shared a b)
shared_longest = shared_laws.shared_longest

pub shared_shorter : (a b : List ℕ) → Less b a → shared a b < length a
shared_shorter = shared_laws.shared_shorter

-- factors: existence and uniqueness
pub factorisation_unique : (s : List ℕ) (fs : List (List ℕ)) → Factorisation s fs ↔ (fs ≡ factors s)
factorisation_unique = factorisation

pub demand_two_lem : (s : List ℕ) → DemandTwo s (factors s)
demand_two_lem s = record { qualities = (factorisation s (factors s)).1 refl; only = λ gs h. (factorisation s gs).0 h }

-- groups: spelled out they are the factors, powers are at least 1, and neighbouring groups have different words; nothing else is so
pub groups_maximal : (i : ℕ) (fs : List (List ℕ)) (gs : List Group) → Packed i fs gs ↔ (gs ≡ groups_from i fs)
groups_maximal i fs gs = (packed_only, λ e. rw e (packed i fs))

-- the groups of a pattern spelled out are its factors, and groups read off the front of a row that they were written to are the same
pub groups_spelled : (s : List ℕ) → spelled s (groups s) ≡ factors s
groups_spelled = spelled_laws.groups_spelled

pub number_groups_lem : (gs : List Group) (rest : List ℕ) → number_groups (length gs) (group_numbers gs ++ rest) ≡ gs
number_groups_lem = spelled_laws.number_groups_lem

-- of two neighbouring groups the second's word is smaller, and so another one; each word has as many symbols as its group says
pub next_smaller : (s : List ℕ) (before : List Group) (g h : Group) (after : List Group) → groups s ≡ before ++ g ∷ h ∷ after
    → Less (word_of s h) (word_of s g)
next_smaller s before g h after e = neighbours.next_smaller (neighbours.standing_behind before (rw e at (neighbours.standing_groups s)))

pub word_size : (s : List ℕ) (before : List Group) (g : Group) (after : List Group) → groups s ≡ before ++ g ∷ after
    → (0 < g.size) × (length (word_of s g) ≡ g.size)
word_size s before g after e = neighbours.word_size (neighbours.standing_behind before (rw e at (neighbours.standing_groups s)))

-- each Lyndon substring lies within one factor
pub lyndon_within : (s a y c : List ℕ) → s ≡ a ++ (y ++ c) → Lyndon y → Within (factors s) a y c
lyndon_within s a y c e h = within (factors s) (factors_falling s) a y c h (rw (join_factors s) e)

-- the longest Lyndon substrings are exactly the longest factors, at their places
pub longest_is_factor : (s : List ℕ) (i : ℕ) → LyndonAt s (longest s) i ↔ longest_laws.FactorAt s (longest s) i
longest_is_factor = longest_laws.longest_factors

pub longest_most : (s : List ℕ) (l i : ℕ) → LyndonAt s l i → l ≤ longest s
longest_most = substrings.longest_bound

pub longest_starts_lem : (s : List ℕ) (i : ℕ) → Member i (longest_starts s) ↔ LyndonAt s (longest s) i
longest_starts_lem = substrings.longest_listed

pub longest_first : (s : List ℕ) → 0 < length s
    → Member (longest_word s).0 (longest_starts s) × ((i : ℕ) → Member i (longest_starts s) → (longest_word s).0 ≤ i) × ((longest_word s).1 ≡ longest s)
longest_first = longest_laws.longest_word_lem

-- the reach table: its entry is the longest Lyndon substring at i, the first factor of the suffix; the chain gives the suffix's factors
pub lyndon_array_entry : (s : List ℕ) (i : ℕ) → i < length s → get_or (lyndon_array s) i 0 ≡ longest_at s i
lyndon_array_entry = tables.lyndon_array_entry

pub lyndon_array_word : (s : List ℕ) (i : ℕ) → i < length s → LyndonAt s (longest_at s i) i
lyndon_array_word s i h = record { fits = tables.longest_at_fits s i h; word = tables.longest_at_word s i h }

pub lyndon_array_most : (s : List ℕ) (l i : ℕ) → LyndonAt s l i → l ≤ longest_at s i
lyndon_array_most = tables.longest_at_most

pub lyndon_array_chain : (s : List ℕ) (i : ℕ) → i < length s
    → factors (drop i s) ≡ take (longest_at s i) (drop i s) ∷ factors (drop (i + longest_at s i) s)
lyndon_array_chain = tables.chain_suffix

-- the prefix table: its entry is the length of the prefix's last factor; the chain gives the prefix's factors
pub last_factors_entry : (s : List ℕ) (i : ℕ) → i < length s → get_or (last_factors s) i 0 ≡ last_factor s (i + 1)
last_factors_entry = tables.last_factors_entry

pub last_factors_chain : (s : List ℕ) (q : ℕ) → 0 < q → q ≤ length s
    → factors (take q s) ≡ factors (take (q - last_factor s q) s) ++ (take (last_factor s q) (drop (q - last_factor s q) s) ∷ [])
last_factors_chain = tables.chain_prefix

-- the phase mark: no rotation is smaller, none that starts before is as small, and the groups of s s show it
pub least_rotation_least : (s : List ℕ) (j : ℕ) → j < length s → ¬ Less (rotation s j) (rotation s (least_rotation s))
least_rotation_least = rotations.least_rotation_least

pub least_rotation_first : (s : List ℕ) (j : ℕ) → j < least_rotation s → Less (rotation s (least_rotation s)) (rotation s j)
least_rotation_first = rotations.least_rotation_first

pub least_rotation_group : (s : List ℕ) (g : Group) → 0 < length s → rotation_groups.FirstOver (length s) (groups (s ++ s)) g
    → least_rotation s ≡ g.start
least_rotation_group = rotation_groups.least_rotation_group

-- a shorter word repeated: the test agrees with the record; the least rotation starts at one place alone exactly when the pattern is not empty
-- and not repeated, and the place is the phase mark
pub repeated_test : (s : List ℕ) → Repeated s ↔ (repeated s ≡ true)
repeated_test s = (repeats.true_repeated s, repeats.repeated_true s)

pub unique_least : (s : List ℕ) (r : ℕ) → UniqueLeast s r ↔ ((0 < length s) × (repeated s ≡ false) × (r ≡ least_rotation s))
unique_least = unique_laws.unique_least

-- the tree: its rule, its number of nodes, and each node a Lyndon word
pub tree_rule : (i : ℕ) (w : List ℕ) → 1 < length w
    → tree_nodes i w ≡ record { start = i; size = length w } ∷ (tree_nodes i (take (split w) w) ++ tree_nodes (i + split w) (drop (split w) w))
tree_rule = trees.tree_node

pub tree_longest : (w : List ℕ) (k : ℕ) → 1 < length w → Lyndon (drop (split w) w) × (0 < k → Lyndon (drop k w) → split w ≤ k)
tree_longest w k h = (trees.split_right w h, trees.split_longest w k)

pub tree_count : (i : ℕ) (w : List ℕ) → Lyndon w → length (tree_nodes i w) + 1 ≡ 2 * length w
tree_count i w h = trees.tree_count i w h.some

pub tree_words : (w : List ℕ) → Lyndon w → (k : ℕ) (d : Node) → k < length (tree_nodes 0 w)
    → LyndonAt w (get_or (tree_nodes 0 w) k d).size (get_or (tree_nodes 0 w) k d).start
tree_words = trees.tree_words

-- the binary digits
pub bits_enough : (m : ℕ) → m < 2 ^ bits m
bits_enough = fresh.bits_below

pub bits_fewest : (m d : ℕ) → m < 2 ^ d → bits m ≤ d
bits_fewest = fresh.bits_least

-- the answer to an edit
pub demand_three_lem : (s : List ℕ) (from to : ℕ) (b : List ℕ) → from ≤ to → to ≤ length s → MeetsThree s from to b (answer s from to b)
demand_three_lem = demands.demand_three_lem

-- no other answer meets it
pub demand_three_only : (s : List ℕ) (from to : ℕ) (b : List ℕ) → from ≤ to → to ≤ length s → (a : Answer) → MeetsThree s from to b a
    → a ≡ answer s from to b
demand_three_only = only_laws.demand_three_only

-- the seams: the groups of the edited pattern are those of its three parts, each grouped on its own, with equal neighbours joined
pub seams_joined : (s : List ℕ) (from to : ℕ) (b : List ℕ) → from ≤ to → to ≤ length s
    → groups (edited s from to b)
    ≡ join_equal (edited s from to b) (kept_groups s from to b ++ (middle_groups s from to b ++ resumed_groups s from to b))
seams_joined = joined_laws.seams_joined
