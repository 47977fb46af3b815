-- What the functions that write element rows ask and give: the rows below a node (fill), a node passed on the way (pass), the blocks of a
-- level (level), all levels (lay). Each asks for some trie and strides that stand in the scratch rows, and gives the rows of every such trie and
-- strides, so that nobody has to show that two of them are one. The rows before and after those it writes it keeps.
use Rattle.std.specs.Prelude.{ℕ, suc, ◌+◌, ◌*◌, ◌^◌, ◌≤◌, ◌<◌, ◌≡◌, List, length, get_or}
use Rattle.strides.specs.Trie.{Trie}
use Rattle.strides.specs.Strides.{Good}
use Rattle.walk.specs.Limits.{WIDTH, LEVELS}
use Rattle.tries.specs.Limits.{ELEMENTS}
use Rattle.walk.specs.Rows.{Lists, shortest, row_at}
use Rattle.choosers.specs.Scratch.{ROW, Stands, stride_at}
use Rattle.layout.specs.Marks.{hop_in, length_in}
use Rattle.layout.specs.Blocks.{Strides, wide, row_below, level_rows, rows_of, row_count, Hold}

-- the lists have e rows, and that is not too many (refusal 7)
pub record HasRoom (e : ℕ) (ls : Lists) : Type 0 where
  pub fits : e ≤ shortest ls
  pub few : e ≤ ELEMENTS

-- the link k stands for t, whose blocks have at most r levels and at most w address bits; the next begins c levels lower
pub record Trunk (σ : Strides) (t : Trie) (rows plan : List ℕ) (k w c r : ℕ) : Type 0 where
  pub stands : Stands σ rows plan k t
  pub good : Good σ t w c r
  pub narrow : w ≤ WIDTH
  pub levels : r ≤ length plan
  pub planned : length plan ≤ LEVELS

-- ---- one value from place `base` to before `end` of a list, and else what it held
pub record Spread (base end v : ℕ) (l l' : List ℕ) : Type 0 where
  pub wrote : (i : ℕ) → base ≤ i → i < end → get_or l' i 0 ≡ v
  pub before : (i : ℕ) → i < base → get_or l' i 0 ≡ get_or l i 0
  pub after : (i : ℕ) → end ≤ i → get_or l' i 0 ≡ get_or l i 0

-- ---- the rows from `base` to before `end`, below which there is no node: hop and length of the mark `best`, and no child
pub record Bare (base end best : ℕ) (ls ls' : Lists) : Type 0 where
  pub hop : Spread base end (hop_in best) ls.hop ls'.hop
  pub len : Spread base end (length_in best) ls.len ls'.len
  pub link : Spread base end 0 ls.link ls'.link
  pub stride : Spread base end 0 ls.stride ls'.stride

-- ---- the 2 ^ c rows from `base` on, below the trie at link k; child blocks lie from row `free` on
pub record FillAsks (σ : Strides) (t : Trie) (rows plan : List ℕ) (k c r base free : ℕ) (ls : Lists) : Type 0 where
  pub w : ℕ
  pub trunk : Trunk σ t rows plan k w c r
  pub short : c ≤ WIDTH
  pub e : ℕ
  pub own : base + 2 ^ c ≤ e
  pub children : free + wide σ t c 0 r ≤ e
  pub room : HasRoom e ls

-- where `best` is the mark so far in the block; the next free row is then free'
pub record FillGives (σ : Strides) (t : Trie) (c r base best free : ℕ) (ls : Lists) (free' : ℕ) (ls' : Lists) : Type 0 where
  pub next : free' ≡ free + wide σ t c 0 r
  pub wrote : (x : ℕ) → x < 2 ^ c → row_at ls' (base + x) ≡ row_below σ c r t best free x
  pub before : (i : ℕ) → i < base → row_at ls' i ≡ row_at ls i
  pub after : (i : ℕ) → base + 2 ^ c ≤ i → row_at ls' i ≡ row_at ls i

abbrev pub CanFill : (rows plan : List ℕ) (k c r base free : ℕ) → Lists → Type 0
CanFill rows plan k c r base free ls = (σ : Strides) × (t : Trie) × FillAsks σ t rows plan k c r base free ls

abbrev pub Fills : (rows plan : List ℕ) (k c r base best free : ℕ) → Lists → (free' : ℕ) → Lists → Type 0
Fills rows plan k c r base best free ls free' ls' =
    (σ : Strides) (t : Trie) → FillAsks σ t rows plan k c r base free ls → FillGives σ t c r base best free ls free' ls'

-- ---- from a node to its children, where the next block begins c levels below the node, n blocks are passed before those of the level, and
-- r levels are left

-- a block begins at link k and is passed
pub record CanPass (rows plan : List ℕ) (k n r : ℕ) : Type 0 where
  pub fits : k * ROW ≤ length rows
  pub blocks : 0 < n
  pub level : 0 < r
  pub levels : r ≤ length plan
  pub planned : length plan ≤ LEVELS
  pub stride : 0 < stride_at rows plan k r

-- the next block begins `gap` levels below the children
pub data Passes (rows plan : List ℕ) (k c n r gap blocks levels : ℕ) : Type 0 where
  begun : c ≡ 0 → suc gap ≡ stride_at rows plan k r → n ≡ suc blocks → r ≡ suc levels → Passes rows plan k c n r gap blocks levels
  between : c ≡ suc gap → n ≡ blocks → r ≡ levels → Passes rows plan k c n r gap blocks levels

-- ---- the blocks of level n below the trie at link k, from row `base` on
pub record LevelAsks (σ : Strides) (t : Trie) (rows plan : List ℕ) (k w c n r base free : ℕ) (ls : Lists) : Type 0 where
  pub trunk : Trunk σ t rows plan k w c r
  pub e : ℕ
  pub own : base + wide σ t c n r ≤ e
  pub children : free + wide σ t c (suc n) r ≤ e
  pub room : HasRoom e ls

-- the next block of the level lies at base', the next child block at free'
pub record LevelGives (σ : Strides) (t : Trie) (c n r base free : ℕ) (ls : Lists) (base' free' : ℕ) (ls' : Lists) : Type 0 where
  pub end : base' ≡ base + wide σ t c n r
  pub next : free' ≡ free + wide σ t c (suc n) r
  pub wrote : Hold ls' base (level_rows σ t c n r free)
  pub before : (i : ℕ) → i < base → row_at ls' i ≡ row_at ls i
  pub after : (i : ℕ) → base' ≤ i → row_at ls' i ≡ row_at ls i

abbrev pub CanLevel : (rows plan : List ℕ) (k w c n r base free : ℕ) → Lists → Type 0
CanLevel rows plan k w c n r base free ls =
    (σ : Strides) × (t : Trie) × LevelAsks σ t rows plan k w c n r base free ls

abbrev pub WritesLevel : (rows plan : List ℕ) (k w c n r base free : ℕ) → Lists → (base' free' : ℕ) → Lists → Type 0
WritesLevel rows plan k w c n r base free ls base' free' ls' =
    (σ : Strides) (t : Trie) → LevelAsks σ t rows plan k w c n r base free ls
    → LevelGives σ t c n r base free ls base' free' ls'

-- one block: the level that begins here
abbrev pub CanBlock : (rows plan : List ℕ) (k r base free : ℕ) → Lists → Type 0
CanBlock rows plan k r base free ls = (w : ℕ) × CanLevel rows plan k w 0 0 r base free ls

abbrev pub WritesBlock : (rows plan : List ℕ) (k r base free : ℕ) → Lists → (base' free' : ℕ) → Lists → Type 0
WritesBlock rows plan k r base free ls base' free' ls' = (w : ℕ) → WritesLevel rows plan k w 0 0 r base free ls base' free' ls'

-- ---- all rows of the trie at link k, with so many levels
pub record LayAsks (σ : Strides) (t : Trie) (rows plan : List ℕ) (k w levels : ℕ) (ls : Lists) : Type 0 where
  pub trunk : Trunk σ t rows plan k w 0 levels
  pub room : HasRoom (row_count σ levels t) ls

pub record LayGives (σ : Strides) (t : Trie) (levels : ℕ) (ls : Lists) (e : ℕ) (ls' : Lists) : Type 0 where
  pub count : e ≡ row_count σ levels t
  pub wrote : Hold ls' 0 (rows_of σ levels t)
  pub after : (i : ℕ) → e ≤ i → row_at ls' i ≡ row_at ls i

abbrev pub CanLay : (rows plan : List ℕ) (k w levels : ℕ) → Lists → Type 0
CanLay rows plan k w levels ls = (σ : Strides) × (t : Trie) × LayAsks σ t rows plan k w levels ls

abbrev pub Lays : (rows plan : List ℕ) (k w levels : ℕ) → Lists → (e : ℕ) → Lists → Type 0
Lays rows plan k w levels ls e ls' =
    (σ : Strides) (t : Trie) → LayAsks σ t rows plan k w levels ls → LayGives σ t levels ls e ls'
