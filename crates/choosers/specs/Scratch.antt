-- The 1-bit trie in lent scratch: rows of ROW numbers, one a node (01: "a constant number of u64 each"). Columns: 0 and 1
-- the links to the nodes below (a link is a row and one, 0 is none), 2 and 3 the marks beside them, DEPTH the depth, the
-- next ones to COST spare and 0, COST + j the least cost and STRIDE + j its stride with j + 1 levels left. Readers follow
-- links from a root link; rows may lie in any order.
use Rattle.std.specs.Prelude.{◌≡◌, refl, List, cond, ℕ, ◌+◌, ◌-◌, ◌*◌, ◌≤◌, ◌<◌, length, get_or, eqb}
use Rattle.strides.specs.Trie.{Trie, none, node, depth}
use Rattle.walk.specs.Limits.{LEVELS, HOPS}
use Rattle.layout.specs.Marks.{LENGTHS}

-- ---- the columns, under the names that the code gives them

abbrev pub DEPTH : ℕ
DEPTH = 4

abbrev pub COST : ℕ
COST = 8

abbrev pub STRIDE : ℕ
STRIDE = COST + LEVELS

-- with r levels left cost and stride stand r columns after these
abbrev pub before_costs : ℕ
before_costs = COST - 1

abbrev pub before_strides : ℕ
before_strides = STRIDE - 1

-- numbers in a row
abbrev pub ROW : ℕ
ROW = STRIDE + LEVELS

-- 02, [2]: "scratch rows may take 72 numbers"
row_numbers : ROW ≡ 72
row_numbers = refl

-- a mark is below this: it is a hop and a length in one
abbrev pub MARKS : ℕ
MARKS = HOPS * LENGTHS

-- ---- reading a row

-- column c of the row that the link k names; 0 of no row
unfoldable pub ask : List ℕ → ℕ → ℕ → ℕ
ask rows k c = cond (eqb k 0) 0 (get_or rows ((k - 1) * ROW + c) 0)

-- the stride of a block at link k with r levels left. The plan has a place for each level, from the first on: where the choice is fixed,
-- the level's stride; where it is not, 0, and each row has its own
unfoldable pub stride_at : List ℕ → List ℕ → ℕ → ℕ → ℕ
stride_at rows plan k r = cond (eqb k 0) 0 (cond (eqb (get_or plan 0 0) 0) (ask rows k (before_strides + r)) (get_or plan (length plan - r) 0))

-- the row of link k holds the node t with the marks p and q, its depth, and its strides σ
pub record Here (σ : ℕ → Trie → ℕ) (rows plan : List ℕ) (k p q : ℕ) (t : Trie) : Type 0 where
  pub some : 0 < k
  pub fits : k * ROW ≤ length rows
  pub mark0 : ask rows k 2 ≡ p
  pub mark1 : ask rows k 3 ≡ q
  pub small0 : p < MARKS
  pub small1 : q < MARKS
  pub deep : ask rows k DEPTH ≡ depth t
  pub stride : (r : ℕ) → 1 ≤ r → r ≤ length plan → stride_at rows plan k r ≡ σ r t

-- the link k stands for the trie t, with the strides σ
abbrev pub Stands : (ℕ → Trie → ℕ) → List ℕ → List ℕ → ℕ → Trie → Type 0
Stands σ rows plan k none = k ≡ 0
Stands σ rows plan k (node p a q b) =
    Here σ rows plan k p q (node p a q b) × Stands σ rows plan (ask rows k 0) a × Stands σ rows plan (ask rows k 1) b
