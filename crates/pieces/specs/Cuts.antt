-- What an address asks of a supernode's maps, `left` address bits being left: the next four bits, the internal bits on that path, the
-- count of ones before a place, the longest match.
use Rattle.std.specs.Prelude.{ℕ, zero, suc, ◌+◌, ◌*◌, ◌/◌, ◌%◌, ◌^◌, ◌≤◌, ◌<◌, ◌≡◌, true, false, cond}
use Rattle.std.specs.Int.Bits.{bit_and}
use Rattle.std.specs.Int.Count.{ones}
use Rattle.pieces.specs.Maps.{STEP, bit_at, place_on, mask_of}
use Rattle.pieces.specs.Rows.{SupernodeRow}

-- the next four bits of the address, "bits past the width count as 0"
unfoldable pub path_at : (address left : ℕ) → ℕ
path_at address left = address * 2 ^ STEP / 2 ^ left % 2 ^ STEP

-- how many internal places have a level of at most `left`
unfoldable pub limit : ℕ → ℕ
limit zero = 1
limit (suc zero) = 3
limit (suc (suc zero)) = 7
limit (suc (suc (suc n))) = 15

-- the internal bits on the path; those of lengths above the width "match nothing"
unfoldable pub found : (map p left : ℕ) → ℕ
found map p left = bit_and map (mask_of p) % 2 ^ limit left

-- "the count of ones before" a place
unfoldable pub ones_before : (map i : ℕ) → ℕ
ones_before map i = ones (map % 2 ^ i)

-- the highest set bit below n
unfoldable pub highest : (n x : ℕ) → ℕ
highest zero x = 0
highest (suc n) x = cond (bit_at x n) n (highest n x)

-- the number of the child behind the branch p: "by the count of ones before the branch in the external map"
abbrev pub child_at : SupernodeRow → (p : ℕ) → ℕ
child_at row p = row.first_child + ones_before row.external p

-- ---- the longest match inside a supernode
-- place i of a map is set, or not
abbrev pub Bit : (map i : ℕ) → Type 0
Bit map i = bit_at map i ≡ true

abbrev pub NoBit : (map i : ℕ) → Type 0
NoBit map i = bit_at map i ≡ false

-- a level of the path that lies in the supernode and within the width: "bits past the width .. match nothing longer"
abbrev pub Matchable : (left j : ℕ) → Type 0
Matchable left j = (j < STEP) × (j ≤ left)

-- level j is the longest whose place on the path p is set
pub record IsLongest (map p left j : ℕ) : Type 0 where
  pub within : Matchable left j
  pub set : Bit map (place_on p j)
  pub longest : (i : ℕ) → j < i → Matchable left i → NoBit map (place_on p i)
