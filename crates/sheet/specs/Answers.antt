-- The answers (01, "The tablet program"): "an address whose digit count is not the width gives 8, its query index as
-- detail"; all addresses are tested before any answer is printed. `hop`, `len` and `reads` say what an address gets.
use Rattle.std.specs.Prelude.{Bool, not, cond, List, ◌++◌, ℕ, length, ltb, eqb}
use Rattle.table.specs.Table.{at}
use Rattle.table.specs.Zone.{find}
use Rattle.walk.specs.Limits.{WIDTH}
use Rattle.walk.specs.Rows.{Lists, root}
use Rattle.walk.specs.Answers.{hop_of, length_of, reads_of}
use Rattle.walk.specs.Lookup.{lookup_of}
use Rattle.walk.specs.declared.record.Record.{Record}
use Rattle.reading.specs.Numerals.{joined}
use Rattle.sheet.specs.Printing.{refusal_lines, head_lines, answer_lines}

-- query i has not W digits
unfoldable pub wrong : (W : ℕ) (ds : List ℕ) → ℕ → Bool
wrong W ds i = not (eqb (at ds i) W)

-- the first such query, or their number
unfoldable pub first_wrong : (W : ℕ) (ds : List ℕ) → ℕ
first_wrong W ds = find (wrong W ds) (length ds) 0

module _ (hop len reads : ℕ → ℕ) (xs ds : List ℕ) where
  -- what query i prints
  unfoldable pub query_lines : ℕ → List ℕ
  query_lines i = answer_lines (at xs i) (at ds i) (hop (at xs i)) (len (at xs i)) (reads (at xs i))

  -- the report of an accepted build: 8, or the first four lines and then all answers
  unfoldable pub answers_report : (W elements root : ℕ) → List ℕ
  answers_report W elements root =
      cond (ltb (first_wrong W ds) (length ds)) (refusal_lines 8 (first_wrong W ds))
      (head_lines elements root ++ joined query_lines (length ds))

-- the hop, the length and the reads of a lookup in what a build left: no route is hop 0 and length 0, a discard hop 65,535
module _ (rec : Record) (ls : Lists) where
  abbrev pub hop_for : ℕ → ℕ
  hop_for a = hop_of (lookup_of WIDTH rec ls a)

  abbrev pub length_for : ℕ → ℕ
  length_for a = length_of (lookup_of WIDTH rec ls a)

  abbrev pub reads_for : ℕ → ℕ
  reads_for a = reads_of (lookup_of WIDTH rec ls a)

  -- all queries, looked up
  abbrev pub answered : (xs ds : List ℕ) → List ℕ
  answered xs ds = joined (query_lines hop_for length_for reads_for xs ds) (length ds)

  -- the report as it is looked up
  abbrev pub looked_up : (xs ds : List ℕ) → List ℕ
  looked_up xs ds = answers_report hop_for length_for reads_for xs ds rec.width rec.elements (root rec)
