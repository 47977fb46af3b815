-- The element rows of a trie (01, "The element rows"): "A block of stride s is 2^s rows, indexed by the next s address bits.
-- Blocks lie without gaps, breadth first, left to right, the root at row 0." The blocks of level n are those with n blocks
-- above them; the levels lie one after the other (Order.antt: a queue of blocks takes them so). The stride of a block at the
-- node t with r levels left is σ r t. Where c stands beside a trie, its next block begins c levels lower (0: here).
use Rattle.std.specs.Prelude.{ℕ, zero, suc, pred, ◌+◌, ◌^◌, ◌≤◌, ◌≡◌, List, [], ◌∷◌, ◌++◌, map, length}
use Rattle.strides.specs.Trie.{Trie, none, node, left, kid, bit, mark_along, sub_along}
use Rattle.walk.specs.Rows.{Row}
use Rattle.walk.specs.Rows.{Lists, row_at, row_of}
use Rattle.layout.specs.Marks.{hop_in, length_in}

abbrev pub Strides : Type 0
Strides = ℕ → Trie → ℕ

-- how many rows the blocks of level n have (level 0: the blocks that begin next)
unfoldable pub wide : Strides → Trie → (c n r : ℕ) → ℕ
wide σ none c n r = 0
wide σ (node p a q b) (suc c) n r = wide σ a c n r + wide σ b c n r
wide σ (node p a q b) zero n zero = 0
wide σ (node p a q b) zero zero (suc r) = 2 ^ σ (suc r) (node p a q b)
wide σ (node p a q b) zero (suc n) (suc r) =
    wide σ a (pred (σ (suc r) (node p a q b))) n r + wide σ b (pred (σ (suc r) (node p a q b))) n r

-- what stands to the left of a bit: nothing of a 0, all of the left side of a 1
abbrev pub passed : ℕ → ℕ → ℕ
passed zero rows = 0
passed (suc i) rows = rows

-- how many rows of level n stand left of the path of the last w bits of x
unfoldable pub left_of : Strides → (w : ℕ) → Trie → (c n r x : ℕ) → ℕ
left_of σ zero t c n r x = 0
left_of σ (suc w) t (suc c) n r x = passed (bit w x) (wide σ (left t) c n r) + left_of σ w (kid (bit w x) t) c n r x
left_of σ (suc w) t zero n zero x = 0
left_of σ (suc w) t zero zero (suc r) x = 0
left_of σ (suc w) t zero (suc n) (suc r) x =
    passed (bit w x) (wide σ (left t) (pred (σ (suc r) t)) n r) + left_of σ w (kid (bit w x) t) (pred (σ (suc r) t)) n r x

-- ---- one row
-- "Link is the first row of the child block, and child stride its stride; both are 0 where there is none."
abbrev pub link_to : Trie → ℕ → ℕ
link_to none first = 0
link_to (node p a q b) first = first

abbrev pub stride_of : Strides → (r : ℕ) → Trie → ℕ
stride_of σ r none = 0
stride_of σ r (node p a q b) = σ r (node p a q b)

-- row x of the 2 ^ c rows below t: its hop and length are those of the last nonzero mark on the row's path, else of `best`; the child
-- blocks have r levels left and lie from row `free` on
unfoldable pub row_below : Strides → (c r : ℕ) → Trie → (best free x : ℕ) → Row
row_below σ c r t best free x =
    let m = mark_along c t x best in
    let u = sub_along c t x in
    record { hop = hop_in m; len = length_in m; link = link_to u (free + left_of σ c t c 0 r x); stride = stride_of σ r u }

-- ---- all rows
-- g 0, g 1, .., g (n - 1)
unfoldable pub list_of : ℕ → (ℕ → Row) → List Row
list_of zero g = []
list_of (suc n) g = g 0 ∷ list_of n (λ i. g (suc i))

-- a block: one row for each path of its stride, and no hop from above it; r levels are left below it
unfoldable pub block_rows : Strides → (r : ℕ) → Trie → (free : ℕ) → List Row
block_rows σ r t free = list_of (2 ^ σ (suc r) t) (row_below σ (σ (suc r) t) r t 0 free)

-- the blocks of level n, left to right; their child blocks lie from row `free` on
unfoldable pub level_rows : Strides → Trie → (c n r free : ℕ) → List Row
level_rows σ none c n r free = []
level_rows σ (node p a q b) (suc c) n r free = level_rows σ a c n r free ++ level_rows σ b c n r (free + wide σ a c (suc n) r)
level_rows σ (node p a q b) zero n zero free = []
level_rows σ (node p a q b) zero zero (suc r) free = block_rows σ r (node p a q b) free
level_rows σ (node p a q b) zero (suc n) (suc r) free =
    level_rows σ a (pred (σ (suc r) (node p a q b))) n r free
    ++ level_rows σ b (pred (σ (suc r) (node p a q b))) n r (free + wide σ a (pred (σ (suc r) (node p a q b))) (suc n) r)

-- the first row of level n, with k levels in all
unfoldable pub first_row : Strides → Trie → (k n : ℕ) → ℕ
first_row σ t k zero = 0
first_row σ t k (suc n) = first_row σ t k n + wide σ t 0 n k

-- the levels before level n, one after the other
unfoldable pub levels_rows : Strides → Trie → (k n : ℕ) → List Row
levels_rows σ t k zero = []
levels_rows σ t k (suc n) = levels_rows σ t k n ++ level_rows σ t 0 n k (first_row σ t k (suc n))

-- all rows, and their number E
unfoldable pub rows_of : Strides → (k : ℕ) → Trie → List Row
rows_of σ k t = levels_rows σ t k k

unfoldable pub row_count : Strides → (k : ℕ) → Trie → ℕ
row_count σ k t = first_row σ t k k

-- the lists hold these rows, from row b on
abbrev pub Hold : Lists → (b : ℕ) → List Row → Type 0
Hold ls b [] = Unit {0}
Hold ls b (x ∷ rs) = (row_at ls b ≡ x) × Hold ls (suc b) rs

-- ---- the blocks on an address's path
-- a block on the path: its level, its stride, and the address bits left where it begins
pub record Begun : Type 0 where
  pub level : ℕ
  pub stride : ℕ
  pub bits : ℕ

-- those of the nodes that begin the address x and at which the strides begin a block; w bits are left, the next level is n
unfoldable pub blocks_along : Strides → (w : ℕ) → Trie → (c n r x : ℕ) → List Begun
blocks_along σ zero t c n r x = []
blocks_along σ (suc w) none c n r x = []
blocks_along σ (suc w) (node p a q b) (suc c) n r x = blocks_along σ w (kid (bit w x) (node p a q b)) c n r x
blocks_along σ (suc w) (node p a q b) zero n zero x = []
blocks_along σ (suc w) (node p a q b) zero n (suc r) x =
    record { level = n; stride = σ (suc r) (node p a q b); bits = suc w }
    ∷ blocks_along σ w (kid (bit w x) (node p a q b)) (pred (σ (suc r) (node p a q b))) (suc n) r x

-- how many they are, with the level limit k
abbrev pub block_count : Strides → (W : ℕ) → Trie → (k x : ℕ) → ℕ
block_count σ W t k x = length (blocks_along σ W t 0 0 k x)

-- the first row of the block of level n on the path of x: all earlier levels lie before it, and of its own what is left of it
unfoldable pub block_row : Strides → (w k : ℕ) → Trie → (x n : ℕ) → ℕ
block_row σ w k t x n = first_row σ t k n + left_of σ w t 0 n k x

-- the row that the next bits of x pick in a block: `first n` is the first row of the block of level n
abbrev pub row_in : (x : ℕ) (first : ℕ → ℕ) → Begun → ℕ
row_in x first b = row_of x (first b.level) b.stride b.bits

-- the rows on the path of an address of w bits: of each block on it the first row, plus the index that the next s bits make
unfoldable pub rows_along : Strides → (w k : ℕ) → Trie → (x : ℕ) → List ℕ
rows_along σ w k t x = map (row_in x (block_row σ w k t x)) (blocks_along σ w t 0 0 k x)

-- two choices of strides
module _ (σ τ : Strides) where
  -- they agree wherever a block begins, and each block has a stride
  abbrev pub Agree : Trie → (c r : ℕ) → Type 0
  Agree none c r = Unit {0}
  Agree (node p a q b) (suc c) r = Agree a c r × Agree b c r
  Agree (node p a q b) zero zero = ⊥
  Agree (node p a q b) zero (suc r) =
      (1 ≤ σ (suc r) (node p a q b))
      × (σ (suc r) (node p a q b) ≡ τ (suc r) (node p a q b))
      × Agree a (pred (σ (suc r) (node p a q b))) r
      × Agree b (pred (σ (suc r) (node p a q b))) r
