-- A lookup's answer: number and values of each case (01: "a match with hop and reads, no route with reads, or a refusal by
-- number"; "a refused lookup returns no hop and 0 reads"; 02, [4]: hop 65,535 is "an answer of its own with reads, distinct
-- from no route"; 02, [5]: "each match or discard carries" the matched length, "0 for the floor"); how rows are taken; and the answer
-- in numbers, as C is told it.
use Rattle.std.specs.Prelude.{ℕ, ◌<◌, ◌≡◌, cond, List, [], ◌∷◌, eqb}
use Rattle.walk.specs.Cases.{Answer}
use Rattle.walk.specs.Cases.{Match, Discard, NoRoute, Refused}
use Rattle.walk.specs.declared.numbers.AnswerNumbers.{AnswerNumbers}
use Rattle.table.specs.Limits.{discard_hop}
use Rattle.walk.specs.Rows.{Row}

-- the refusal's number, 0 for an accepted lookup
abbrev pub number_of : Answer → ℕ
number_of (Match hop len reads) = 0
number_of (Discard len reads) = 0
number_of (NoRoute reads) = 0
number_of (Refused number) = number

abbrev pub hop_of : Answer → ℕ
hop_of (Match hop len reads) = hop
hop_of (Discard len reads) = discard_hop
hop_of (NoRoute reads) = 0
hop_of (Refused number) = 0

abbrev pub length_of : Answer → ℕ
length_of (Match hop len reads) = len
length_of (Discard len reads) = len
length_of (NoRoute reads) = 0
length_of (Refused number) = 0

abbrev pub reads_of : Answer → ℕ
reads_of (Match hop len reads) = reads
reads_of (Discard len reads) = reads
reads_of (NoRoute reads) = reads
reads_of (Refused number) = 0

-- the lookup is accepted
abbrev pub NotRefused : Answer → Type 0
NotRefused a = number_of a ≡ 0

-- which case an answer is, by number and hop: a refusal has a number; of the others hop 0 is no route, `discard_hop` a discard, and
-- every other hop a match
abbrev pub Case : Answer → Type 0
Case (Match hop len reads) = (0 < hop) × (hop ≡ discard_hop → ⊥)
Case (Discard len reads) = Unit {0}
Case (NoRoute reads) = Unit {0}
Case (Refused number) = 0 < number

-- the best so far is a hop, and the length that stands beside it
pub record HopLength : Type 0 where
  pub hop : ℕ
  pub len : ℕ

-- the answer carries this best, and so many reads
abbrev pub Carries : Answer → HopLength → (reads : ℕ) → Type 0
Carries a best reads = (hop_of a ≡ best.hop) × (length_of a ≡ best.len) × (reads_of a ≡ reads)

-- the floor, which is the first best: its length is 0
abbrev pub floor_best : (floor : ℕ) → HopLength
floor_best floor = record { hop = floor; len = 0 }

-- what a row says: its hop, and the length that is found there
abbrev pub row_best : Row → HopLength
row_best row = record { hop = row.hop; len = row.len }

-- a row whose hop is not 0 is the new best
unfoldable pub new_best : Row → HopLength → HopLength
new_best row best = cond (eqb row.hop 0) best (row_best row)

-- the best after some rows, read in order
unfoldable pub latest : (at : ℕ → Row) → HopLength → List ℕ → HopLength
latest at best [] = best
latest at best (r ∷ rs) = latest at (new_best (at r) best) rs

-- hop 0 is no route, `discard_hop` a discard, every other a match
unfoldable pub answer : (hop len reads : ℕ) → Answer
answer hop len reads = cond (eqb hop 0) (NoRoute reads) (cond (eqb hop discard_hop) (Discard len reads) (Match hop len reads))

-- ---- in numbers
abbrev pub answer_numbers : Answer → AnswerNumbers
answer_numbers a = record { number = number_of a; hop = hop_of a; length = length_of a; reads = reads_of a }

-- the answer that numbers say
unfoldable pub answer_of : AnswerNumbers → Answer
answer_of n = cond (eqb n.number 0) (answer n.hop n.length n.reads) (Refused n.number)
