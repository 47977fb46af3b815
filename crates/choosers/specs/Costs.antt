-- The least costs in the rows (columns COST and STRIDE), and how they are worked out from the bottom up, some numbers of levels in a
-- pass: `sums` holds, for each level below a node and each number of levels left, what the blocks there cost together; a node hands its
-- sums up to the one above. Every sum and power is held at the cap.
use Rattle.std.specs.Prelude.{◌≡◌, List, ℕ, zero, suc, pred, ◌+◌, ◌-◌, ◌*◌, ◌/◌, ◌^◌, ◌≤◌, ◌<◌, length, get_or}
use Rattle.strides.specs.Trie.{Trie, node, depth, sum_below}
use Rattle.strides.specs.Recurrence.{at_cap, scan, opt_by, pick_by}
use Rattle.walk.specs.Limits.{WIDTH, LEVELS}
use Rattle.choosers.specs.Limits.{cost_cap}
use Rattle.choosers.specs.Scratch.{ROW, ask, COST, DEPTH, STRIDE, before_costs}
use Rattle.choosers.specs.Trees.{Tree, nil, fork, shape, link_of, col, Stand, Deep, HasRow, Apart}

abbrev pub held : ℕ → ℕ
held x = at_cap cost_cap x

-- ---- what the rows hold

-- row x holds the least costs and strides of t for 1 to `levels` levels left
pub record Priced (levels : ℕ) (rows : List ℕ) (x : ℕ) (t : Trie) : Type 0 where
  pub cost : (r : ℕ) → r < levels → col rows x (COST + r) ≡ opt_by held r t
  pub stride : (r : ℕ) → r < levels → col rows x (STRIDE + r) ≡ pick_by held r t

-- so does each row of the tree
abbrev pub AllPriced : ℕ → List ℕ → Tree → Type 0
AllPriced levels rows nil = Unit {0}
AllPriced levels rows (fork x p l q r) =
    Priced levels rows x (node p (shape l) q (shape r)) × AllPriced levels rows l × AllPriced levels rows r

-- ---- the cheapest stride of a node of depth d, where `below j` is what the blocks j + 1 levels lower cost together

-- what n blocks of stride j + 1 cost
unfoldable pub price : (ℕ → ℕ) → ℕ → ℕ → ℕ
price below n j = held (n * held (2 ^ suc j) + below j)

-- with one level left the stride reaches the bottom
unfoldable pub best_cost : (ℕ → ℕ) → ℕ → ℕ → ℕ → ℕ
best_cost below n d zero = held (n * held (2 ^ d))
best_cost below n d (suc q) = (scan (price below n) (pred d)).1

unfoldable pub best_stride : (ℕ → ℕ) → ℕ → ℕ → ℕ → ℕ
best_stride below n d zero = d
best_stride below n d (suc q) = suc (scan (price below n) (pred d)).0

-- a column of a list: its first number stands at a place, and the next ones `pitch` places later each
abbrev pub column : (first pitch : ℕ) → List ℕ → ℕ → ℕ
column first pitch list j = get_or list (j * pitch + first) 0

-- ---- a pass: from + 1 to `to` levels left

-- numbers of levels in a pass
abbrev pub COLUMNS : ℕ
COLUMNS = 8

pub record Pass (from to : ℕ) : Type 0 where
  pub some : from < to
  pub few : to ≤ from + COLUMNS
  pub most : to ≤ LEVELS

-- lines of the sums: at level d those of WIDTH - d levels, and of the nodes above; and one that is only read (`lines_enough`)
abbrev pub sum_lines : ℕ
sum_lines = WIDTH * (WIDTH + 1) / 2 + 1

abbrev pub sum_cells : ℕ
sum_cells = sum_lines * COLUMNS

-- line j, at a number of levels left that is c more than the pass begins with
abbrev pub slot : List ℕ → ℕ → ℕ → ℕ
slot sums j c = column c COLUMNS sums j

-- row x: what is stored of the choices, from the sums that stand from place `first` on; all else is kept
pub record Stored (from to : ℕ) (rows : List ℕ) (x d first : ℕ) (sums rows' : List ℕ) : Type 0 where
  pub cost : (r : ℕ) → from ≤ r → r < to → col rows' x (COST + r) ≡ best_cost (column (first + (r - from)) COLUMNS sums) 1 d r
  pub stride : (r : ℕ) → from ≤ r → r < to → col rows' x (STRIDE + r) ≡ best_stride (column (first + (r - from)) COLUMNS sums) 1 d r
  pub before : (i : ℕ) → i < x * ROW + (COST + from) → get_or rows' i 0 ≡ get_or rows i 0
  pub between : (i : ℕ) → x * ROW + (COST + to) ≤ i → i < x * ROW + (STRIDE + from) → get_or rows' i 0 ≡ get_or rows i 0
  pub after : (i : ℕ) → x * ROW + (STRIDE + to) ≤ i → get_or rows' i 0 ≡ get_or rows i 0

-- no sum is above the cap
abbrev pub SmallSums : List ℕ → Type 0
SmallSums sums = (i : ℕ) → get_or sums i 0 ≤ cost_cap

-- the costs of the row at link k are added in line j of the sums
pub record RowAdded (from to : ℕ) (rows : List ℕ) (k j : ℕ) (sums sums' : List ℕ) : Type 0 where
  pub here : (r : ℕ) → 1 ≤ r → from ≤ r → r < to → slot sums' j (r - from) ≡ held (slot sums j (r - from) + ask rows k (before_costs + r))
  pub before : (i : ℕ) → i < j * COLUMNS → get_or sums' i 0 ≡ get_or sums i 0
  pub after : (i : ℕ) → j * COLUMNS + (to - from) ≤ i → get_or sums' i 0 ≡ get_or sums i 0
  pub small : SmallSums sums → SmallSums sums'

-- the n places from `down` on are added to those from `up` on, and cleared
pub record Lifted (sums : List ℕ) (up down n : ℕ) (sums' : List ℕ) : Type 0 where
  pub lifted : (i : ℕ) → i < n → get_or sums' (up + i) 0 ≡ held (get_or sums (up + i) 0 + get_or sums (down + i) 0)
  pub gone : (i : ℕ) → i < n → get_or sums' (down + i) 0 ≡ 0
  pub before : (i : ℕ) → i < up → get_or sums' i 0 ≡ get_or sums i 0
  pub between : (i : ℕ) → up + n ≤ i → i < down → get_or sums' i 0 ≡ get_or sums i 0
  pub after : (i : ℕ) → down + n ≤ i → get_or sums' i 0 ≡ get_or sums i 0
  pub small : SmallSums sums → SmallSums sums'

-- the m lines from line `below` on are added to those after line j, and cleared; the costs of the row at link k are added in line j
pub record HandedUp (from to : ℕ) (rows : List ℕ) (k j below m : ℕ) (sums sums' : List ℕ) : Type 0 where
  pub own : (r : ℕ) → 1 ≤ r → from ≤ r → r < to → slot sums' j (r - from) ≡ held (slot sums j (r - from) + ask rows k (before_costs + r))
  pub lifted : (i c : ℕ) → i < m → c < COLUMNS → slot sums' (j + suc i) c ≡ held (slot sums (j + suc i) c + slot sums (below + i) c)
  pub gone : (i : ℕ) → below * COLUMNS ≤ i → i < (below + m) * COLUMNS → get_or sums' i 0 ≡ 0
  pub before : (i : ℕ) → i < j * COLUMNS → get_or sums' i 0 ≡ get_or sums i 0
  pub between : (i : ℕ) → (j + suc m) * COLUMNS ≤ i → i < below * COLUMNS → get_or sums' i 0 ≡ get_or sums i 0
  pub after : (i : ℕ) → (below + m) * COLUMNS ≤ i → get_or sums' i 0 ≡ get_or sums i 0
  pub small : SmallSums sums → SmallSums sums'

-- settled from the sums that stand from line `below` on, which are then handed up to line j
pub record SettleIn (from to : ℕ) (rows : List ℕ) (k j below : ℕ) (sums : List ℕ) : Type 0 where
  pub pass : Pass from to
  pub some : 0 < k
  pub fits : k * ROW ≤ length rows
  pub deep : (1 ≤ ask rows k DEPTH) × (ask rows k DEPTH ≤ WIDTH)
  pub reach : j + ask rows k DEPTH ≤ below
  pub room : (below + ask rows k DEPTH) * COLUMNS ≤ length sums

-- ---- a whole tree

-- the tree stands in rows that are there, with its depths, and is priced for the numbers of levels before the pass
pub record TreeIn (from : ℕ) (rows : List ℕ) (k d : ℕ) (t : Tree) : Type 0 where
  pub link : k ≡ link_of t
  pub stand : Stand rows t
  pub depths : Deep rows t
  pub priced : AllPriced from rows t
  pub apart : Apart t
  pub fits : (y : ℕ) → HasRow y t → (y + 1) * ROW ≤ length rows
  pub deep : d + depth (shape t) ≤ WIDTH

-- then it is priced; the columns for more levels, and all other rows, are kept
pub record TreeOut (to : ℕ) (rows rows' : List ℕ) (t : Tree) : Type 0 where
  pub stand : Stand rows' t
  pub depths : Deep rows' t
  pub priced : AllPriced to rows' t
  pub above : (y r : ℕ) → HasRow y t → to ≤ r → r < LEVELS
      → (col rows' y (COST + r) ≡ col rows y (COST + r)) × (col rows' y (STRIDE + r) ≡ col rows y (STRIDE + r))
  pub others : (y : ℕ) → (HasRow y t → ⊥) → (c : ℕ) → c < ROW → col rows' y c ≡ col rows y c

abbrev pub TreeAsk : (from : ℕ) → List ℕ → ℕ → ℕ → Type 0
TreeAsk from rows k d = (t : Tree) × TreeIn from rows k d t

abbrev pub TreeDone : (from to : ℕ) → List ℕ → ℕ → ℕ → List ℕ → Type 0
TreeDone from to rows k d rows' = (t : Tree) → TreeIn from rows k d t → TreeOut to rows rows' t

-- ---- and its sums

-- n and n - 1 and so on to 0, together
unfoldable pub sum_to : ℕ → ℕ
sum_to zero = 0
sum_to (suc n) = suc n + sum_to n

-- the lines from j on are for w levels; those after them are 0
pub record SumsIn (j w : ℕ) (sums : List ℕ) : Type 0 where
  pub long : length sums ≡ sum_cells
  pub room : j + sum_to w + 1 ≤ sum_lines
  pub small : SmallSums sums
  pub blank : (i : ℕ) → (j + w) * COLUMNS ≤ i → get_or sums i 0 ≡ 0

-- what the nodes of t cost with r + 1 levels left is added, level by level, and all else is kept
pub record SumsOut (from to j : ℕ) (t : Trie) (sums sums' : List ℕ) : Type 0 where
  pub added : (i r : ℕ) → i < depth t → from ≤ suc r → suc r < to
      → slot sums' (j + i) (suc r - from) ≡ held (slot sums (j + i) (suc r - from) + sum_below i (opt_by held r) t)
  pub before : (i : ℕ) → i < j * COLUMNS → get_or sums' i 0 ≡ get_or sums i 0
  pub after : (i : ℕ) → (j + depth t) * COLUMNS ≤ i → get_or sums' i 0 ≡ get_or sums i 0
  pub small : SmallSums sums'

abbrev pub SumsDone : (from to : ℕ) → List ℕ → (k d j : ℕ) → List ℕ → List ℕ → Type 0
SumsDone from to rows k d j sums sums' = (t : Tree) → TreeIn from rows k d t → SumsOut from to j (shape t) sums sums'

-- what the nodes of a and b cost together, i levels below their roots, stands from line j on
abbrev pub Sums : (from to j : ℕ) → List ℕ → Trie → Trie → Type 0
Sums from to j sums a b =
    (i r : ℕ) → from ≤ suc r → suc r < to
    → slot sums (j + i) (suc r - from) ≡ held (sum_below i (opt_by held r) a + sum_below i (opt_by held r) b)
