-- Lookups one after the other: which addresses are answered, and what the four answer lists then hold.
use Rattle.std.specs.Prelude.{◌≡◌, List, ℕ, min, ◌≤◌, ◌<◌, length, set}
use Rattle.table.specs.Table.{at}
use Rattle.walk.specs.Limits.{WIDTH}
use Rattle.walk.specs.Rows.{Lists}
use Rattle.walk.specs.Lookup.{lookup_of}
use Rattle.walk.specs.declared.record.Record.{Record}
use Rattle.walk.specs.Cases.{Answer}
use Rattle.table.specs.Answers.{Told}
use Rattle.walk.specs.Answers.{answer_numbers}
use Rattle.walk.specs.declared.numbers.AnswerNumbers.{AnswerNumbers}

-- the answer lists
pub record Columns : Type 0 where
  pub number : List ℕ
  pub hop : List ℕ
  pub len : List ℕ
  pub reads : List ℕ

abbrev pub columns : (number hop len reads : List ℕ) → Columns
columns number hop len reads = record { number = number; hop = hop; len = len; reads = reads }

-- the places that all four have
abbrev pub places : Columns → ℕ
places cs = min (length cs.number) (min (length cs.hop) (min (length cs.len) (length cs.reads)))

-- an answer put at index i of the lists
abbrev pub put_answer : Columns → ℕ → AnswerNumbers → Columns
put_answer cs i f = columns (set cs.number i f.number) (set cs.hop i f.hop) (set cs.len i f.length) (set cs.reads i f.reads)

-- what stands at an index of them
abbrev pub answer_at : Columns → ℕ → AnswerNumbers
answer_at cs i = record { number = at cs.number i; hop = at cs.hop i; length = at cs.len i; reads = at cs.reads i }

-- the answer of a lookup, as a function
abbrev pub ExactAnswer : Record → Lists → (address : ℕ) → Answer → Type 0
ExactAnswer rec ls address a = a ≡ lookup_of WIDTH rec ls address

-- the first n addresses are answered: at each index stand the numbers of an answer that the lookup's promise allows for that
-- address, and every later place is kept
pub record BatchWritten (Allows : (address : ℕ) → Answer → Type 0) (xs : List ℕ) (cs cs' : Columns) (n : ℕ) : Type 0 where
  pub told : (i : ℕ) → i < n → Told (Allows (at xs i)) answer_numbers (answer_at cs' i)
  pub later : (i : ℕ) → n ≤ i → answer_at cs' i ≡ answer_at cs i
  pub numbers : length cs'.number ≡ length cs.number
  pub hops : length cs'.hop ≡ length cs.hop
  pub lens : length cs'.len ≡ length cs.len
  pub counts : length cs'.reads ≡ length cs.reads

-- as many as the shortest of the address list and the answer lists has
pub record Answered (Allows : (address : ℕ) → Answer → Type 0) (xs : List ℕ) (cs cs' : Columns) (n : ℕ) : Type 0 where
  pub count : n ≡ min (length xs) (places cs)
  pub written : BatchWritten Allows xs cs cs' n
