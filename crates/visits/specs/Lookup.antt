-- A lookup over supernodes, as a function of record, lists and address: tests 1, 8, then 9 (02 [1]). First the supernodes that the rule
-- visits and the winner, then what they say. `left` address bits are left. k supernodes may still be visited, W / 4 + 1 at first: one
-- more would begin at a level above W. The widest address allowed is `most`. A winner's length is the bits of the address that are not
-- left behind it (02, [5]).
use Rattle.std.specs.Prelude.{ℕ, zero, suc, ◌+◌, ◌-◌, ◌/◌, ◌^◌, ◌≤◌, Bool, true, false, cond, ◌||◌, List, [], ◌∷◌, eqb, ltb, leb, length}
use Rattle.table.specs.Limits.{outside}
use Rattle.table.specs.Table.{at}
use Rattle.walk.specs.Cases.{Answer}
use Rattle.walk.specs.Cases.{Refused}
use Rattle.walk.specs.Answers.{answer}
use Rattle.pieces.specs.Maps.{STEP, INTERNAL, bit_at, place_level}
use Rattle.pieces.specs.Rows.{SupernodeRow}
use Rattle.pieces.specs.Cuts.{path_at, found, ones_before, highest, child_at}
use Rattle.visits.specs.Winner.{Best}
use Rattle.visits.specs.Winner.{won}
use Rattle.std.specs.Prelude.{None, Some}
use Rattle.visits.specs.declared.record.Bitmap.{Bitmap}
use Rattle.visits.specs.Rows.{RowLists, row_room, supernode_at}

-- the best after one supernode: that before, or the place of the highest bit found, and the bits left at its level
unfoldable pub better_of : (map first_hop p left : ℕ) → Best → Best
better_of map first_hop p left best =
    let i = highest INTERNAL (found map p left) in
    cond (eqb (found map p left) 0) best (won (first_hop + ones_before map i) (left - place_level i))

abbrev pub best_after : SupernodeRow → (p left : ℕ) → Best → Best
best_after row = better_of row.internal row.first_hop

-- the supernodes visited, in order, the best after them, and whether the way came to its end
pub record Visited : Type 0 where
  pub numbers : List ℕ
  pub best : Best
  pub whole : Bool

abbrev pub arrived : Best → Visited
arrived best = record { numbers = []; best = best; whole = true }

abbrev pub lost : Best → Visited
lost best = record { numbers = []; best = best; whole = false }

abbrev pub after_visit : ℕ → Visited → Visited
after_visit i v = record { numbers = i ∷ v.numbers; best = v.best; whole = v.whole }

unfoldable pub visit : (count address : ℕ) (row : ℕ → SupernodeRow) (k i left : ℕ) → Best → Visited
visit count address row zero i left best = lost best
visit count address row (suc k) i left best =
    let p = path_at address left in
    let now = best_after (row i) p left best in
    cond (ltb i count)
    (after_visit i (cond (bit_at (row i).external p) (visit count address row k (child_at (row i) p) (left - STEP) now) (arrived now)))
    (lost best)

-- no more bits are left behind the winner than the width has
abbrev pub LeftWithin : Best → (W : ℕ) → Type 0
LeftWithin None W = Unit {0}
LeftWithin (Some w) W = w.left ≤ W

-- what the winner says: its number is below the count, or that is damage
unfoldable pub tell_best : (W hops : ℕ) (hop : ℕ → ℕ) → Best → (reads : ℕ) → Answer
tell_best W hops hop None reads = answer 0 0 reads
tell_best W hops hop (Some w) reads = cond (leb hops w.place) (Refused 9) (answer (hop w.place) (W - w.left) reads)

-- what the supernodes visited say, after `reads` before them
unfoldable pub tell_visited : (W hops : ℕ) (hop : ℕ → ℕ) (reads : ℕ) → Visited → Answer
tell_visited W hops hop reads v = cond v.whole (tell_best W hops hop v.best (reads + length v.numbers)) (Refused 9)

unfoldable pub visit_from : (W count hops address : ℕ) (row : ℕ → SupernodeRow) (hop : ℕ → ℕ) (k i left : ℕ) → Best → (reads : ℕ) → Answer
visit_from W count hops address row hop k i left best reads = tell_visited W hops hop reads (visit count address row k i left best)

-- from number 0 on, with all bits left
abbrev pub from_first : Bitmap → RowLists → (address : ℕ) → Visited
from_first rec rows address = visit rec.supernodes address (supernode_at rows) (suc (rec.width / STEP)) 0 rec.width None

-- count 0 is the empty trie
unfoldable pub visited_by : Bitmap → RowLists → (address : ℕ) → Visited
visited_by rec rows address = cond (eqb rec.supernodes 0) (arrived None) (from_first rec rows address)

-- the supernodes on the address's path, and the winner
abbrev pub path_numbers : Bitmap → RowLists → (address : ℕ) → List ℕ
path_numbers rec rows address = (visited_by rec rows address).numbers

abbrev pub path_winner : Bitmap → RowLists → (address : ℕ) → Best
path_winner rec rows address = (visited_by rec rows address).best

-- refusal 9 before a row is read: a count exceeds its list
unfoldable pub lists_short : (rows supernodes places hops : ℕ) → Bool
lists_short rows supernodes places hops = ltb rows supernodes || ltb places hops

-- the first test that fails before a row is read: its number, or 0
unfoldable pub bitmap_refusal : (most : ℕ) → Bitmap → (rows places address : ℕ) → ℕ
bitmap_refusal most rec rows places address =
    cond (outside rec.width most) 1
    (cond (leb (2 ^ rec.width) address) 8
    (cond (lists_short rows rec.supernodes places rec.hops) 9 0))

unfoldable pub lookup_bitmap_of : (most : ℕ) → Bitmap → RowLists → (hops : List ℕ) (address : ℕ) → Answer
lookup_bitmap_of most rec rows hops address =
    let n = bitmap_refusal most rec (row_room rows) (length hops) address in
    cond (eqb n 0) (tell_visited rec.width rec.hops (at hops) 0 (visited_by rec rows address)) (Refused n)
