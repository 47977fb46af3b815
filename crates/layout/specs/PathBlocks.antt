-- "The blocks on an address's path are .. those of the 1-bit nodes that begin the address and at which the chosen strides begin a
-- block" (01, "The element rows"), one by one: the root's block, and after a block the one at the node that stands its stride lower
-- on the path. Blocks.antt lists them (`blocks_along`); the two are one (proofs/PathBlocks.antt, `blocks_are`).
use Rattle.std.specs.Prelude.{ℕ, suc, ◌+◌, ◌-◌, ◌*◌, ◌^◌}
use Rattle.table.specs.Prefix.{start}
use Rattle.strides.specs.Trie.{Trie, Some, sub_along}
use Rattle.layout.specs.Blocks.{Strides}

-- the subtrie of the node that is the first d bits of the address x; none where there is no such node
abbrev pub node_on : (W : ℕ) → Trie → (x d : ℕ) → Trie
node_on W t x d = sub_along d t (start W d x)

-- a block of level n begins at depth d on the path of x, where k is the level limit
pub data BlockAt (σ : Strides) (W k : ℕ) (t : Trie) (x : ℕ) : (n d : ℕ) → Type 0 where
  at_root : Some t → BlockAt σ W k t x 0 0
  after : {n d : ℕ} → BlockAt σ W k t x n d → Some (node_on W t x (d + σ (k - n) (node_on W t x d)))
      → BlockAt σ W k t x (suc n) (d + σ (k - n) (node_on W t x d))

-- the path of row i of a block of stride s at the node of the d bits q, filled up with zeros: an address of W bits
abbrev pub row_path : (W d s q i : ℕ) → ℕ
row_path W d s q i = (q * 2 ^ s + i) * 2 ^ (W - (d + s))
