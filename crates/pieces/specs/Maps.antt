-- The maps of a supernode of stride 4 (02 [1]): "each has a 15-bit internal map in level order and a 16-bit external map". Its places
-- are numbered in level order, 0 to 14 on its own four levels, 15 to 30 on the level below, where its children begin, left to right.
-- Place i is bit i of the internal map, place 15 + i bit i of the external map, the lowest bit first. A path is a number of four bits,
-- the first bit the highest.
use Rattle.std.specs.Prelude.{ℕ, zero, suc, ◌+◌, ◌-◌, ◌*◌, ◌/◌, ◌%◌, ◌^◌, ◌<◌, ◌≡◌, Bool, true, false, cond, List, [], ◌∷◌, ◌++◌, eqb, ltb, length, get_or}
use Rattle.pieces.specs.BinaryTrie.{BinaryTrie, empty, knot, mark, side_of}

-- the levels of a supernode, its own places, and its branches
abbrev pub STEP : ℕ
STEP = 4

abbrev pub INTERNAL : ℕ
INTERNAL = 2 ^ STEP - 1

abbrev pub EXTERNAL : ℕ
EXTERNAL = 2 ^ STEP

-- ---- places
unfoldable pub place_level : ℕ → ℕ
place_level i = cond (ltb i 1) 0 (cond (ltb i 3) 1 (cond (ltb i 7) 2 (cond (ltb i 15) 3 4)))

-- the place at level j on the path p
unfoldable pub place_on : (p j : ℕ) → ℕ
place_on p j = 2 ^ j - 1 + p / 2 ^ (STEP - j)

unfoldable pub on_path : (p i : ℕ) → Bool
on_path p i = eqb (place_on p (place_level i)) i

-- ---- maps
abbrev pub digit : Bool → ℕ
digit true = 1
digit false = 0

-- the map of n bits whose bit i is set where f says so; how many of the first n are; bit i of a map
unfoldable pub map_of : (n : ℕ) → (ℕ → Bool) → ℕ
map_of zero f = 0
map_of (suc n) f = digit (f n) * 2 ^ n + map_of n f

unfoldable pub count_set : (ℕ → Bool) → (n : ℕ) → ℕ
count_set f zero = 0
count_set f (suc n) = digit (f n) + count_set f n

unfoldable pub bit_at : (map i : ℕ) → Bool
bit_at map i = eqb (map / 2 ^ i % 2) 1

-- "A fixed table of sixteen masks gives, for each 4-bit path, the internal bits on it"
unfoldable pub mask_of : ℕ → ℕ
mask_of p = map_of INTERNAL (on_path p)

pub record MasksAre (masks : List ℕ) : Type 0 where
  pub sixteen : EXTERNAL ≡ length masks
  pub each : (p : ℕ) → p < EXTERNAL → get_or masks p 0 ≡ mask_of p

-- ---- the maps of the supernode that begins at a trie's first node
unfoldable pub is_node : BinaryTrie → Bool
is_node empty = false
is_node (knot m l r) = true

-- where the last j bits of p lead
unfoldable pub subtrie_along : (j : ℕ) → BinaryTrie → (p : ℕ) → BinaryTrie
subtrie_along zero t p = t
subtrie_along (suc j) t p = subtrie_along j (side_of (p / 2 ^ j % 2) t) p

-- the subtrie at place i
unfoldable pub subtrie_at : (i : ℕ) → BinaryTrie → BinaryTrie
subtrie_at i t = subtrie_along (place_level i) t (i - (2 ^ place_level i - 1))

-- an entry ends at place i; a node stands behind branch i
abbrev pub is_marked : BinaryTrie → (i : ℕ) → Bool
is_marked t i = ltb 0 (mark (subtrie_at i t))

abbrev pub is_kid : BinaryTrie → (i : ℕ) → Bool
is_kid t i = is_node (subtrie_at (INTERNAL + i) t)

unfoldable pub internal_map : BinaryTrie → ℕ
internal_map t = map_of INTERNAL (is_marked t)

unfoldable pub external_map : BinaryTrie → ℕ
external_map t = map_of EXTERNAL (is_kid t)

-- ---- its children and its hops, in that order
-- t, where it is a node
unfoldable pub if_node : BinaryTrie → List BinaryTrie
if_node empty = []
if_node (knot m l r) = knot m l r ∷ []

unfoldable pub if_mark : ℕ → List ℕ
if_mark zero = []
if_mark (suc m) = suc m ∷ []

unfoldable pub kids_to : (n : ℕ) → BinaryTrie → List BinaryTrie
kids_to zero t = []
kids_to (suc n) t = kids_to n t ++ if_node (subtrie_at (INTERNAL + n) t)

unfoldable pub marks_to : (n : ℕ) → BinaryTrie → List ℕ
marks_to zero t = []
marks_to (suc n) t = marks_to n t ++ if_mark (mark (subtrie_at n t))

abbrev pub kids : BinaryTrie → List BinaryTrie
kids t = kids_to EXTERNAL t

abbrev pub marks : BinaryTrie → List ℕ
marks t = marks_to INTERNAL t
