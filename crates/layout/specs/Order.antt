-- "Blocks lie without gaps, breadth first, left to right, the root at row 0" (01), said a second time: a queue of blocks. The
-- first block is taken and its rows are laid; its child blocks, left to right, get the next free rows and join the queue at its
-- end. Blocks.antt says the same rows level by level; the law between the two is `rows_queue` (proofs/Order.antt).
use Rattle.std.specs.Prelude.{ℕ, zero, suc, pred, ◌+◌, List, [], ◌∷◌, ◌++◌}
use Rattle.strides.specs.Trie.{Trie, none, node}
use Rattle.walk.specs.Rows.{Row}
use Rattle.layout.specs.Blocks.{Strides, wide, level_rows}

-- a block: its levels left, and the subtrie of its node
pub data Block : Type 0 where
  block : ℕ → Trie → Block

-- the blocks of level n, left to right
unfoldable pub level_of : Strides → Trie → (c n r : ℕ) → List Block
level_of σ none c n r = []
level_of σ (node p a q b) (suc c) n r = level_of σ a c n r ++ level_of σ b c n r
level_of σ (node p a q b) zero n zero = []
level_of σ (node p a q b) zero zero (suc r) = block (suc r) (node p a q b) ∷ []
level_of σ (node p a q b) zero (suc n) (suc r) =
    level_of σ a (pred (σ (suc r) (node p a q b))) n r ++ level_of σ b (pred (σ (suc r) (node p a q b))) n r

-- the root's block, and the child blocks of a block
abbrev pub root_block : Strides → (k : ℕ) → Trie → List Block
root_block σ k t = level_of σ t 0 0 k

unfoldable pub children : Strides → Block → List Block
children σ (block r t) = level_of σ t 0 1 r

-- the order in which a queue takes the blocks, in at most `turns` turns
unfoldable pub queue : Strides → (turns : ℕ) → List Block → List Block
queue σ zero q = []
queue σ (suc turns) [] = []
queue σ (suc turns) (x ∷ q) = x ∷ queue σ turns (q ++ children σ x)

-- the rows of blocks in this order: those of each block, whose child blocks lie from the next free row on
unfoldable pub laid_out : Strides → (free : ℕ) → List Block → List Row
laid_out σ free [] = []
laid_out σ free (block r t ∷ q) = level_rows σ t 0 0 r free ++ laid_out σ (free + wide σ t 0 1 r) q
