-- What a report means, with no way to find it. A text is that of a sound sheet, or it has a first bad line and the report is 11. A
-- sheet's report is the first of the build's tests that fails, where 7 tests the least cost of all choices; or 8 and the first query
-- whose digit count is not the width; or, for strides that follow the tie rule, the number of their rows, the root's stride, and for
-- each address hop and length of the longest entry that matches it and the number of blocks on its path.
use Rattle.std.specs.Prelude.{◌≡◌, List, ◌++◌, ◌⊎◌, ℕ, ◌*◌, ◌≤◌, ◌<◌, length, Result, Ok, Err}
use Rattle.table.specs.Table.{at}
use Rattle.table.specs.Refusals.{Outcome, Gives, refusal_number, refusal_detail}
use Rattle.table.specs.declared.refusal.Refusal.{Refusal}
use Rattle.strides.specs.Cheapest.{Kind, Cheapest}
use Rattle.strides.specs.Strides.{Follows}
use Rattle.layout.specs.Blocks.{Strides, row_count, stride_of}
use Rattle.tries.specs.Build.{build_tests}
use Rattle.table.specs.Longest.{LongestEntry}
use Rattle.layout.specs.Laid.{table_trie}
use Rattle.choosers.specs.Kinds.{kind_of}
use Rattle.choosers.specs.Scratch.{ROW}
use Rattle.reading.specs.Numerals.{joined}
use Rattle.reading.specs.Sheet.{Sheet}
use Rattle.reading.specs.Spelling.{sheet_text, Sound}
use Rattle.reading.specs.FirstBad.{FirstBad}
use Rattle.sheet.specs.declared.running.NoRoom.{NoRoom}
use Rattle.sheet.specs.Limits.{lent_rows, lent_elements}
use Rattle.sheet.specs.Printing.{refusal_lines, head_lines, answer_lines}
use Rattle.sheet.specs.Values.{values_of}
use Rattle.sheet.specs.Solved.{blocks_read}
use Rattle.sheet.specs.Tablet.{answer_for, left_for, OnPage}

-- query i is the first whose digit count is not the width
pub record FirstWrong (W : ℕ) (ds : List ℕ) (i : ℕ) : Type 0 where
  pub inside : i < length ds
  pub unlike : at ds i ≡ W → ⊥
  pub before : (j : ℕ) → j < i → at ds j ≡ W

-- the strides σ of an accepted build
module _ (W k : ℕ) (vs ls hs : List ℕ) (σ : Strides) (xs ds : List ℕ) where
  -- what query i prints where its address has this hop and length
  abbrev pub path_lines : (hop len : ℕ → ℕ) → ℕ → List ℕ
  path_lines hop len i = answer_lines (at xs i) (at ds i) (hop i) (len i) (blocks_read W k vs ls hs σ (at xs i))

  -- every address has the width's digits: the first four lines, then all answers
  pub record AllAnswered (bytes : List ℕ) : Type 0 where
    pub right : (i : ℕ) → i < length ds → at ds i ≡ W
    pub hop : ℕ → ℕ
    pub len : ℕ → ℕ
    pub longest : (i : ℕ) → i < length ds → LongestEntry W vs ls hs (at xs i) (hop i) (len i)
    pub lines : bytes ≡ head_lines (row_count σ k (table_trie W vs ls hs)) (stride_of σ k (table_trie W vs ls hs)) ++ joined (path_lines hop len) (length ds)

  -- 8 and the first query that is wrong, or all answers
  abbrev pub AnsweredBy : (bytes : List ℕ) → Type 0
  AnsweredBy bytes = ((i : ℕ) × FirstWrong W ds i × (bytes ≡ refusal_lines 8 i)) ⊎ AllAnswered bytes

-- the report of a table and its queries
pub record Solves (kind : Kind) (W k links : ℕ) (vs ls hs xs ds bytes : List ℕ) : Type 0 where
  pub out : Outcome
  pub tested : (least : ℕ) → (1 ≤ k → Cheapest kind k (table_trie W vs ls hs) least)
      → Gives (build_tests W k links vs ls hs (lent_rows * ROW) lent_elements least) out
  pub refused : (r : Refusal) → out ≡ Err r → bytes ≡ refusal_lines (refusal_number r) (refusal_detail r)
  pub accepted : out ≡ Ok tt → (σ : Strides) × Follows kind k (table_trie W vs ls hs) σ × AnsweredBy W k vs ls hs σ xs ds bytes

-- the report of a sheet
abbrev pub SheetSolves : Sheet → (bytes : List ℕ) → Type 0
SheetSolves sh bytes =
    Solves (kind_of sh.kind) sh.width sh.levels sh.links (values_of sh.width sh.bits sh.lengths) sh.lengths sh.hops
    sh.addresses sh.places bytes

-- the report of a text: that of the sound sheet whose text it is; or refusal 11, the first bad line as detail
abbrev pub Says : (s bytes : List ℕ) → Type 0
Says s bytes =
    ((sh : Sheet) × Sound sh × (s ≡ sheet_text sh) × SheetSolves sh bytes) ⊎ ((line : ℕ) × FirstBad s line × (bytes ≡ refusal_lines 11 line))

-- what a call of `run` answers and leaves: such a report, in the room that was lent
pub record Reports (s out out' : List ℕ) (r : Result ℕ NoRoom) : Type 0 where
  pub bytes : List ℕ
  pub says : Says s bytes
  pub answer : r ≡ answer_for bytes out
  pub left : out' ≡ left_for bytes out

-- what a call of `run_page` answers and leaves: such a report of every text that begins with what stands on the page
abbrev pub PageReports : (page : List ℕ) (n : ℕ) (out out' : List ℕ) (r : ℕ) → Type 0
PageReports page n out out' r = (s : List ℕ) → OnPage s page n → Reports s out out' (Ok r)
