-- What a lookup's answer means, in document 01's sentences: which answers the promise allows. There is no search in it: the path is
-- any that the rule allows, and hop, length and reads are read off its rows.
-- "A lookup tests 1, 2, 8, then 9. Refusal 9 is given exactly when E exceeds the shortest list; or root stride is 0 while
-- E is not; or on the path a stride is 0 or exceeds the bits left, a row read is at or past E, or a block after the k-th
-- is called for. (Root stride 0 with E = 0 is the empty trie.)"
use Rattle.std.specs.Prelude.{ℕ, zero, suc, ◌-◌, ◌^◌, ◌≤◌, ◌<◌, ◌≡◌, Bool, true, false, List, [], ◌∷◌, length}
use Rattle.walk.specs.Cases.{Answer}
use Rattle.walk.specs.declared.record.Record.{Record}
use Rattle.walk.specs.Limits.{LEVELS, Outside, Within}
use Rattle.walk.specs.Refusals.{RefuseBy, NoMore}
use Rattle.walk.specs.Rows.{Row, Lists, shortest, row_at, root, row_of}
use Rattle.walk.specs.Answers.{number_of, Case, Carries, floor_best, latest}

-- no test fails before the first row: n rows are lent
pub record Passed (most : ℕ) (rec : Record) (n address : ℕ) : Type 0 where
  pub width : Within rec.width most
  pub levels : Within rec.levels LEVELS
  pub inside : address < 2 ^ rec.width
  pub enough : rec.elements ≤ n
  pub rooted : root rec ≡ 0 → rec.elements ≡ 0

-- a block that can be read
pub record Readable (e address base s left : ℕ) : Type 0 where
  pub stride : 0 < s
  pub fits : s ≤ left
  pub within : row_of address base s left < e

-- one that cannot
pub data Damaged (e address base s left : ℕ) : Type 0 where
  no_stride : s ≡ 0 → Damaged e address base s left
  too_wide : left < s → Damaged e address base s left
  past_end : e ≤ row_of address base s left → Damaged e address base s left

-- the rows that the rule reads from a block on, k blocks being left, and whether it comes to a row without a link (true)
-- or to damage (false)
pub data Path (e address : ℕ) (at : ℕ → Row) : (k base s left : ℕ) → List ℕ → Bool → Type 0 where
  spent : {base s left : ℕ} → Path e address at zero base s left [] false
  damaged : {k base s left : ℕ} → Damaged e address base s left → Path e address at k base s left [] false
  last : {k base s left : ℕ} → Readable e address base s left → (at (row_of address base s left)).link ≡ 0
      → Path e address at (suc k) base s left (row_of address base s left ∷ []) true
  on : {k base s left : ℕ} {rs : List ℕ} {w : Bool} → Readable e address base s left → 0 < (at (row_of address base s left)).link
      → Path e address at k (at (row_of address base s left)).link (at (row_of address base s left)).stride (left - s) rs w
      → Path e address at (suc k) base s left (row_of address base s left ∷ rs) w

module _ (rec : Record) (ls : Lists) (address : ℕ) where
  -- the path from the root's block, at row 0 and with all bits left
  abbrev pub FromRoot : List ℕ → Bool → Type 0
  FromRoot rs w = Path rec.elements address (row_at ls) rec.levels 0 (root rec) rec.width rs w

  -- refusal 9
  pub data Damage : Type 0 where
    short : shortest ls < rec.elements → Damage
    rootless : root rec ≡ 0 → 0 < rec.elements → Damage
    breaks : {rs : List ℕ} → 0 < root rec → FromRoot rs false → Damage

  -- the rows on the address's path
  pub data OnPath : List ℕ → Type 0 where
    empty : root rec ≡ 0 → OnPath []
    walked : {rs : List ℕ} → 0 < root rec → FromRoot rs true → OnPath rs

module _ (most : ℕ) (rec : Record) (ls : Lists) (address : ℕ) where
  -- the number of the first test that fails, 0 where none does
  abbrev pub Tested : ℕ → Type 0
  Tested =
      RefuseBy 1 (Outside rec.width most)
      (RefuseBy 2 (Outside rec.levels LEVELS) (RefuseBy 8 (2 ^ rec.width ≤ address)
      (RefuseBy 9 (Damage rec ls address) NoMore)))

  -- the answers allowed. The number is that of the first test that fails, 0 where none does; where none does, hop, length and reads are
  -- what the rows on the path say: the floor and 0, or the latest nonzero hop and the length beside it, and how many rows they are; and
  -- the case is that of number and hop
  pub record Looked (a : Answer) : Type 0 where
    pub tested : Tested (number_of a)
    pub told : number_of a ≡ 0
        → (rs : List ℕ) × OnPath rec ls address rs × Carries a (latest (row_at ls) (floor_best rec.floor) rs) (length rs)
    pub case : Case a
