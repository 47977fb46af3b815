-- A good sheet, solved (01, "The tablet program"): the build's refusal, or the report of its answers. The entries' bits are
-- values of the table; elements and root are those of its rows; hop and length of an address are those of the longest
-- entry that matches it, and its reads the number of blocks on its path.
use Rattle.std.specs.Prelude.{List, ℕ, ◌*◌, length, Ok, Err}
use Rattle.table.specs.Table.{at}
use Rattle.table.specs.Longest.{longest, matched}
use Rattle.table.specs.Refusals.{Outcome, outcome, refusal_number, refusal_detail}
use Rattle.strides.specs.Cheapest.{Kind}
use Rattle.strides.specs.Recurrence.{plain, least_by}
use Rattle.strides.specs.Strides.{chosen_by}
use Rattle.layout.specs.Blocks.{Strides, block_count, row_count, stride_of}
use Rattle.tries.specs.Build.{build_tests}
use Rattle.layout.specs.Laid.{table_trie}
use Rattle.choosers.specs.Kinds.{kind_of}
use Rattle.choosers.specs.declared.chooser.Kind as code
use Rattle.choosers.specs.Scratch.{ROW}
use Rattle.sheet.specs.Limits.{lent_rows, lent_elements}
use Rattle.sheet.specs.Printing.{refusal_lines}
use Rattle.sheet.specs.Answers.{answers_report}
use Rattle.sheet.specs.Values.{values_of}

module _ (W k : ℕ) (vs ls hs : List ℕ) where
  abbrev pub longest_hop : ℕ → ℕ
  longest_hop = longest W (at vs) (at ls) (at hs) (length vs)

  abbrev pub matched_length : ℕ → ℕ
  matched_length = matched W (at vs) (at ls) (length vs)

  abbrev pub blocks_read : Strides → ℕ → ℕ
  blocks_read σ a = block_count σ W (table_trie W vs ls hs) k a

  -- the report where the build accepts, and has the strides σ
  unfoldable pub report_by : Strides → (xs ds : List ℕ) → List ℕ
  report_by σ xs ds =
      answers_report longest_hop matched_length (blocks_read σ) xs ds W (row_count σ k (table_trie W vs ls hs)) (stride_of σ k (table_trie W vs ls hs))

module _ (kind : Kind) (W k : ℕ) (vs ls hs : List ℕ) where
  -- the strides that the build chooses
  abbrev pub chosen : Strides
  chosen = chosen_by plain kind k (table_trie W vs ls hs)

  abbrev pub table_report : (xs ds : List ℕ) → List ℕ
  table_report = report_by W k vs ls hs chosen

-- tests 1 to 7, over what the program lends
unfoldable pub build_outcome : (kind : Kind) (W k links : ℕ) (vs ls hs : List ℕ) → Outcome
build_outcome kind W k links vs ls hs = outcome (build_tests W k links vs ls hs (lent_rows * ROW) lent_elements (least_by plain kind k (table_trie W vs ls hs)))

-- a refusal prints only its two lines
unfoldable pub report_for : Outcome → List ℕ → List ℕ
report_for (Ok _) bytes = bytes
report_for (Err r) bytes = refusal_lines (refusal_number r) (refusal_detail r)

unfoldable pub solved : (kind : code.Kind) (W k links : ℕ) (bits lengths hops addresses places : List ℕ) → List ℕ
solved kind W k links bits lengths hops addresses places =
    let vs = values_of W bits lengths in
    report_for (build_outcome (kind_of kind) W k links vs lengths hops) (table_report (kind_of kind) W k vs lengths hops addresses places)
