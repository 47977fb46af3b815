-- What a lookup's answer means, in 02 [1]'s sentences: which answers the promise allows. There is no search in it: the way is any that
-- the rule allows, and hop, length and reads are read off it.
-- "9 is given exactly when a count exceeds its list or, on the path, a visited supernode or the winning hop is at or past its count, or
-- a supernode would begin at a level above W. Count 0 is the empty trie; a winning hop 0 is no route." 02, [5]: "Tree bitmap lookup
-- answers it too", the matched length.
use Rattle.std.specs.Prelude.{ℕ, ◌+◌, ◌-◌, ◌^◌, ◌≤◌, ◌<◌, ◌≡◌, Bool, true, false, cond, List, [], ◌∷◌, eqb, length}
use Rattle.table.specs.Table.{at}
use Rattle.walk.specs.Cases.{Answer}
use Rattle.walk.specs.Limits.{Outside, Within}
use Rattle.walk.specs.Refusals.{RefuseBy, NoMore}
use Rattle.walk.specs.Answers.{number_of, hop_of, length_of, reads_of, Case}
use Rattle.pieces.specs.Maps.{STEP, place_on}
use Rattle.pieces.specs.Rows.{SupernodeRow}
use Rattle.pieces.specs.Cuts.{path_at, ones_before, child_at, Bit, NoBit, Matchable, IsLongest}
use Rattle.visits.specs.Winner.{Best}
use Rattle.visits.specs.Winner.{won}
use Rattle.std.specs.Prelude.{None, Some}
use Rattle.visits.specs.declared.record.Bitmap.{Bitmap}
use Rattle.visits.specs.Rows.{RowLists, row_room, supernode_at}

-- the best after a supernode: the one before, or the longest match inside, whose hop is found "by the count of ones before"; behind a match
-- at level j inside, j bits fewer are left than at the supernode
pub data After (row : SupernodeRow) (p left : ℕ) (best : Best) : Best → Type 0 where
  kept : ((j : ℕ) → Matchable left j → NoBit row.internal (place_on p j)) → After row p left best best
  newest : (j : ℕ) → IsLongest row.internal p left j
      → After row p left best (won (row.first_hop + ones_before row.internal (place_on p j)) (left - j))

-- the supernodes that the rule visits from number i on, the best after them, and whether it comes to a branch without a child (true) or
-- to damage (false): a supernode at or past the count, or one that would begin at a level above W
pub data Way (count address : ℕ) (row : ℕ → SupernodeRow) : (i left : ℕ) → Best → List ℕ → Best → Bool → Type 0 where
  past : {i left : ℕ} {b : Best} → count ≤ i → Way count address row i left b [] b false
  last : {i left : ℕ} {b c : Best} → i < count → After (row i) (path_at address left) left b c
      → NoBit (row i).external (path_at address left) → Way count address row i left b (i ∷ []) c true
  above : {i left : ℕ} {b c : Best} → i < count → After (row i) (path_at address left) left b c
      → Bit (row i).external (path_at address left) → left < STEP → Way count address row i left b (i ∷ []) c false
  on : {i left : ℕ} {b c e : Best} {is : List ℕ} {w : Bool} → i < count → After (row i) (path_at address left) left b c
      → Bit (row i).external (path_at address left) → STEP ≤ left
      → Way count address row (child_at (row i) (path_at address left)) (left - STEP) c is e w
      → Way count address row i left b (i ∷ is) e w

-- no test fails before the first row: so many rows and hops are lent
pub record BitmapPassed (most : ℕ) (rec : Bitmap) (rows places address : ℕ) : Type 0 where
  pub width : Within rec.width most
  pub inside : address < 2 ^ rec.width
  pub enough : rec.supernodes ≤ rows
  pub hops_enough : rec.hops ≤ places

module _ (rec : Bitmap) (rows : RowLists) (address : ℕ) where
  -- the way from number 0 on, with all bits left
  abbrev pub FromFirst : List ℕ → Best → Bool → Type 0
  FromFirst = Way rec.supernodes address (supernode_at rows) 0 rec.width None

  -- the supernodes on the address's path, and the winner
  pub data OnWay : List ℕ → Best → Type 0 where
    empty : rec.supernodes ≡ 0 → OnWay [] None
    visited : {is : List ℕ} {b : Best} → 0 < rec.supernodes → FromFirst is b true → OnWay is b

-- refusal 9
pub data BitmapDamage (rec : Bitmap) (rows : RowLists) (hops : List ℕ) (address : ℕ) : Type 0 where
  rows_short : row_room rows < rec.supernodes → BitmapDamage rec rows hops address
  hops_short : length hops < rec.hops → BitmapDamage rec rows hops address
  strays : {is : List ℕ} {b : Best} → 0 < rec.supernodes → FromFirst rec rows address is b false → BitmapDamage rec rows hops address
  no_hop : {is : List ℕ} {place left : ℕ} → 0 < rec.supernodes → FromFirst rec rows address is (won place left) true → rec.hops ≤ place
      → BitmapDamage rec rows hops address

-- the winner's hop, 0 where there is no winner
abbrev pub winning_hop : (hops : List ℕ) → Best → ℕ
winning_hop hops None = 0
winning_hop hops (Some w) = at hops w.place

-- its length: the bits of the address that are not left behind it, 0 where there is no winner; "a winning hop 0 is no route" and has none
abbrev pub winning_length : (W : ℕ) (hops : List ℕ) → Best → ℕ
winning_length W hops None = 0
winning_length W hops (Some w) = cond (eqb (at hops w.place) 0) 0 (W - w.left)

-- a winner whose hop is below the count
abbrev pub InCount : Best → (hops : ℕ) → Type 0
InCount None hops = Unit {0}
InCount (Some w) hops = w.place < hops

module _ (most : ℕ) (rec : Bitmap) (rows : RowLists) (hops : List ℕ) (address : ℕ) where
  -- the number of the first test that fails, 0 where none does
  abbrev pub BitmapTested : ℕ → Type 0
  BitmapTested =
      RefuseBy 1 (Outside rec.width most)
      (RefuseBy 8 (2 ^ rec.width ≤ address) (RefuseBy 9 (BitmapDamage rec rows hops address) NoMore))

  -- the answers allowed. The number is that of the first test that fails, 0 where none does; where none does, hop and length are the
  -- winner's and the reads are the supernodes on the path; and the case is that of number and hop
  pub record LookedBitmap (a : Answer) : Type 0 where
    pub tested : BitmapTested (number_of a)
    pub told : number_of a ≡ 0
        → (is : List ℕ) × (b : Best) × OnWay rec rows address is b × (hop_of a ≡ winning_hop hops b)
        × (length_of a ≡ winning_length rec.width hops b) × (reads_of a ≡ length is)
    pub case : Case a
