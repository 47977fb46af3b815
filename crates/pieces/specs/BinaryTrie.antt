-- The binary trie (02 [1]): "every start of an entry is a node, the whole entry and length 0 included (no node in an empty table)". A
-- node has the mark of the entry that it is, 0 where it is none, and two subtries. Entries are functions of an index, a bit string is a
-- length d and a number q, as in strides' Entries.antt.
use Rattle.std.specs.Prelude.{ℕ, zero, suc, ◌+◌, ◌≤◌, ◌<◌, ◌≡◌, Bool, true, false, ◌&&◌, ◌||◌, List, eqb, leb, length}
use Rattle.table.specs.Prefix.{start}
use Rattle.table.specs.Table.{at}
use Rattle.strides.specs.Trie.{Trie, none, node}
use Rattle.strides.specs.Entries.{with_bit, mark_at}

pub data BinaryTrie : Type 0 where
  empty : BinaryTrie
  knot : (mark : ℕ) (left right : BinaryTrie) → BinaryTrie

-- refusal 6 counts them
unfoldable pub binary_nodes : BinaryTrie → ℕ
binary_nodes empty = 0
binary_nodes (knot m l r) = suc (binary_nodes l + binary_nodes r)

-- the bits (d, q) begin entry i; they begin some entry of the first n
unfoldable pub begins_entry : (W : ℕ) (val len : ℕ → ℕ) (d q i : ℕ) → Bool
begins_entry W val len d q i = leb d (len i) && eqb (start W d (val i)) q

unfoldable pub some_begins : (W : ℕ) (val len : ℕ → ℕ) (n d q : ℕ) → Bool
some_begins W val len zero d q = false
some_begins W val len (suc n) d q = begins_entry W val len d q n || some_begins W val len n d q

abbrev pub SomeBegins : (W : ℕ) (val len : ℕ → ℕ) (n d q : ℕ) → Type 0
SomeBegins W val len n d q = (i : ℕ) × (i < n) × (d ≤ len i) × (start W d (val i) ≡ q)

-- the trie below the bits (d, q), m levels at most: S tells where a node stands, M gives the marks
unfoldable pub knot_if : Bool → ℕ → BinaryTrie → BinaryTrie → BinaryTrie
knot_if true m l r = knot m l r
knot_if false m l r = empty

unfoldable pub binary_below : (S : ℕ → ℕ → Bool) (M : ℕ → ℕ → ℕ) (m d q : ℕ) → BinaryTrie
binary_below S M zero d q = empty
binary_below S M (suc m) d q = knot_if (S d q) (M d q) (binary_below S M m (suc d) (with_bit q 0)) (binary_below S M m (suc d) (with_bit q 1))

-- levels 0 to W
unfoldable pub binary_trie_of : (W : ℕ) (val len mark : ℕ → ℕ) (n : ℕ) → BinaryTrie
binary_trie_of W val len mark n = binary_below (some_begins W val len n) (mark_at W val len mark n) (suc W) 0 0

-- ---- the same from the 1-bit trie: a mark m over it
unfoldable pub leaf : ℕ → BinaryTrie
leaf zero = empty
leaf (suc m) = knot (suc m) empty empty

unfoldable pub over : ℕ → Trie → BinaryTrie
over m none = leaf m
over m (node p a q b) = knot m (over p a) (over q b)

-- ---- of a node
unfoldable pub mark : BinaryTrie → ℕ
mark empty = 0
mark (knot m l r) = m

abbrev pub side_of : ℕ → BinaryTrie → BinaryTrie
side_of i empty = empty
side_of zero (knot m l r) = l
side_of (suc i) (knot m l r) = r

-- the binary trie of a table
abbrev pub table_binary : (W : ℕ) (vs ls hs : List ℕ) → BinaryTrie
table_binary W vs ls hs = binary_trie_of W (at vs) (at ls) (at hs) (length vs)
