-- A lookup, as a function of record, lists and address: document 01, "The element rows", and the tests 1, 2, 8, then 9.
-- First the rows that the rule reads (links and strides lead there), then what they say (hop and length, and how many they are).
-- The widest address allowed is `most`.
use Rattle.std.specs.Prelude.{ℕ, zero, suc, ◌+◌, ◌-◌, ◌^◌, Bool, true, false, cond, not, ◌&&◌, ◌||◌, List, [], ◌∷◌, length, leb, ltb, eqb}
use Rattle.walk.specs.Cases.{Answer}
use Rattle.walk.specs.Cases.{Refused}
use Rattle.walk.specs.declared.record.Record.{Record}
use Rattle.walk.specs.Limits.{LEVELS}
use Rattle.table.specs.Limits.{outside}
use Rattle.walk.specs.Rows.{Row, Lists, shortest, row_at, root, row_of}
use Rattle.walk.specs.Answers.{HopLength, floor_best, latest, answer}

-- a block can be read: its stride is not 0 and does not exceed the bits left, and its row is below E
unfoldable pub readable : (e address base s left : ℕ) → Bool
readable e address base s left = ltb 0 s && leb s left && ltb (row_of address base s left) e

-- rows read in order, and whether the walk came to its end
pub record Trail : Type 0 where
  pub rows : List ℕ
  pub whole : Bool

abbrev pub ended : Trail
ended = record { rows = []; whole = true }

abbrev pub broken : Trail
broken = record { rows = []; whole = false }

abbrev pub behind : ℕ → Trail → Trail
behind r t = record { rows = r ∷ t.rows; whole = t.whole }

-- one row a block, a nonzero link followed; k blocks may still be read
unfoldable pub trail : (e address : ℕ) (at : ℕ → Row) (k base s left : ℕ) → Trail
trail e address at zero base s left = broken
trail e address at (suc k) base s left =
    cond (readable e address base s left)
    (let r = row_of address base s left in
    behind r (cond (eqb (at r).link 0) ended (trail e address at k (at r).link (at r).stride (left - s))))
    broken

-- what a trail says, after `reads` rows with that best
unfoldable pub tell : (at : ℕ → Row) → HopLength → (reads : ℕ) → Trail → Answer
tell at best reads t =
    let b = latest at best t.rows in cond t.whole (answer b.hop b.len (reads + length t.rows)) (Refused 9)

-- the walk from a block on, with k blocks left to read, the best so far and the reads so far
unfoldable pub walk : (e address : ℕ) (at : ℕ → Row) (k base s left : ℕ) → HopLength → (reads : ℕ) → Answer
walk e address at k base s left best reads = tell at best reads (trail e address at k base s left)

-- the trail from the root's block, at row 0 and with all bits left
abbrev pub from_root : Record → Lists → (address : ℕ) → Trail
from_root rec ls address = trail rec.elements address (row_at ls) rec.levels 0 (root rec) rec.width

-- root stride 0 is the empty trie
unfoldable pub path_of : Record → Lists → (address : ℕ) → Trail
path_of rec ls address = cond (eqb (root rec) 0) ended (from_root rec ls address)

-- the rows on the address's path
abbrev pub path_rows : Record → Lists → (address : ℕ) → List ℕ
path_rows rec ls address = (path_of rec ls address).rows

-- refusal 9 before a row is read, the lists having n rows: E exceeds n, or the root's stride is 0 while E is not
unfoldable pub unfit : (e n root : ℕ) → Bool
unfit e n root = ltb n e || (not (eqb e 0) && eqb root 0)

-- the first test that fails before a row is read: its number, or 0
unfoldable pub refusal_of : (most : ℕ) → Record → (n address : ℕ) → ℕ
refusal_of most rec n address =
    cond (outside rec.width most) 1
    (cond (outside rec.levels LEVELS) 2
    (cond (leb (2 ^ rec.width) address) 8
    (cond (unfit rec.elements n (root rec)) 9 0)))

unfoldable pub lookup_of : (most : ℕ) → Record → Lists → (address : ℕ) → Answer
lookup_of most rec ls address =
    let n = refusal_of most rec (shortest ls) address in
    cond (eqb n 0) (tell (row_at ls) (floor_best rec.floor) 0 (path_of rec ls address)) (Refused n)

-- ---- what only the code needs
-- the first test that fails before the root's stride is looked at
unfoldable pub first_refusal : (most : ℕ) → Record → (n address : ℕ) → ℕ
first_refusal most rec n address =
    cond (outside rec.width most) 1
    (cond (outside rec.levels LEVELS) 2
    (cond (leb (2 ^ rec.width) address) 8
    (cond (ltb n rec.elements) 9 0)))
