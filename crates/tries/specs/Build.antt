-- The build (01, "Refusals" and "The element rows"): tests 1 to 7; what it hands back, and what each lent list then holds.
use Rattle.std.specs.Prelude.{◌≡◌, ◌||◌, List, [], ◌∷◌, ◌++◌, ℕ, ◌≤◌, ltb, length, replicate, Result, Ok, Err}
use Rattle.table.specs.Refusals.{Outcome, Test, test, outcome, Gives}
use Rattle.table.specs.Lists.{padded}
use Rattle.table.specs.declared.refusal.Refusal.{Refusal}
use Rattle.table.specs.declared.refusal.Refusal.TheVariants.{Room}
use Rattle.strides.specs.Cheapest.{Kind, Cheapest, Named}
use Rattle.strides.specs.Recurrence.{plain, least_by, strides_by}
use Rattle.strides.specs.Strides.{chosen_by, Follows}
use Rattle.walk.specs.declared.record.Record.{Record}
use Rattle.walk.specs.Limits.{WIDTH, LEVELS}
use Rattle.tries.specs.Limits.{ELEMENTS}
use Rattle.walk.specs.Rows.{Lists, shortest, row_at}
use Rattle.layout.specs.Blocks.{Strides}
use Rattle.layout.specs.Laid.{table_trie, Laid}
use Rattle.choosers.specs.Chooser.{choose_tests, if_accepted}

-- ---- the tests, in order

-- 7: the least number of elements is above the room or above the most elements; the detail is that number
abbrev pub room_test : (least room : ℕ) → Test
room_test least room = test (Room least) (ltb room least || ltb ELEMENTS least)

-- 1 to 7, where scratch has so many words, the shortest element list so much room, and the least cost is `least`
unfoldable pub build_tests : (W k links : ℕ) (vs ls hs : List ℕ) (words room least : ℕ) → List Test
build_tests W k links vs ls hs words room least = choose_tests W k links vs ls hs words ++ (room_test least room ∷ [])

-- ---- the answer

-- a refused build's record: all zeros
pub record NoRecord (rec : Record) : Type 0 where
  pub width : rec.width ≡ 0
  pub levels : rec.levels ≡ 0
  pub elements : rec.elements ≡ 0
  pub floor : rec.floor ≡ 0
  pub strides : rec.strides ≡ padded LEVELS []

-- the record in an answer, all zeros where it is a refusal
abbrev pub record_of : Result Record Refusal → Record
record_of (Ok r) = r
record_of (Err e) = record { width = 0; levels = 0; elements = 0; floor = 0; strides = padded LEVELS [] }

-- what the element lists then hold besides the rows built: refused, what they held; accepted, later rows are kept
pub record Keeps (rows : Lists) (out : Outcome) (rec : Record) (rows' : Lists) : Type 0 where
  pub hops : length rows'.hop ≡ length rows.hop
  pub lens : length rows'.len ≡ length rows.len
  pub links : length rows'.link ≡ length rows.link
  pub strides : length rows'.stride ≡ length rows.stride
  pub later : out ≡ Ok tt → (i : ℕ) → rec.elements ≤ i → row_at rows' i ≡ row_at rows i
  pub refused : (out ≡ Ok tt → ⊥) → NoRecord rec × (rows' ≡ rows)

-- the exact record and rows: of the strides and the choice that the recurrences find
pub record RowsAre (kind : Kind) (W k : ℕ) (vs ls hs : List ℕ) (rows : Lists) (out : Outcome) (rec : Record) (rows' : Lists) : Type 0 where
  pub laid : out ≡ Ok tt → Laid WIDTH W vs ls hs (chosen_by plain kind k (table_trie W vs ls hs)) k rec rows'
  pub named : out ≡ Ok tt → rec.strides ≡ padded LEVELS (strides_by plain kind k (table_trie W vs ls hs))
  pub keeps : Keeps rows out rec rows'

-- the exact answer: all seven tests, then the rows; scratch is zeroed past test 6
pub record BuildIs (kind : Kind) (W k links : ℕ) (vs ls hs scratch : List ℕ) (rows : Lists) (out : Outcome) (rec : Record) (scratch' : List ℕ) (rows' : Lists)
    : Type 0 where
  pub tests : out ≡ outcome (build_tests W k links vs ls hs (length scratch) (shortest rows) (least_by plain kind k (table_trie W vs ls hs)))
  pub after : scratch' ≡ if_accepted (outcome (choose_tests W k links vs ls hs (length scratch))) (replicate (length scratch) 0) scratch
  pub written : RowsAre kind W k vs ls hs rows out rec rows'

-- what it means: the first test that fails, where 7 tests the least cost of all choices of the kind with at most k levels; accepted,
-- the rows of the choice that the tie rule names, and its strides in the record; scratch unchanged by 1 to 6, else all zero
pub record Builds (kind : Kind) (W k links : ℕ) (vs ls hs scratch : List ℕ) (rows : Lists) (out : Outcome) (rec : Record) (scratch' : List ℕ) (rows' : Lists)
    : Type 0 where
  pub tested : (least : ℕ) → (1 ≤ k → Cheapest kind k (table_trie W vs ls hs) least)
      → Gives (build_tests W k links vs ls hs (length scratch) (shortest rows) least) out
  pub laid : out ≡ Ok tt → (σ : Strides) × Follows kind k (table_trie W vs ls hs) σ × Laid WIDTH W vs ls hs σ k rec rows'
  pub named : out ≡ Ok tt → (ss : List ℕ) × Named kind k (table_trie W vs ls hs) ss × (rec.strides ≡ padded LEVELS ss)
  pub zeroed : Gives (choose_tests W k links vs ls hs (length scratch)) (Ok tt) → scratch' ≡ replicate (length scratch) 0
  pub untouched : (Gives (choose_tests W k links vs ls hs (length scratch)) (Ok tt) → ⊥) → scratch' ≡ scratch
  pub keeps : Keeps rows out rec rows'
