-- Laws of a solved sheet, in the code's own terms: what a build promises, and what is then looked up, is what the sheet's
-- report says.
use mathlib.Core.Path.{◌≡◌, sym, ap, ◌∙◌}
use mathlib.Core.List.{List}
use Prim.Native.Nat.{ℕ, ◌*◌}
use native.Mathlib.Omega.{arith}
use lib.ListN.{length, take, replicate, length-replicate}
use Rattle.std.specs.Prelude.{Ok, Err}
use Rattle.table.specs.Refusals.{Outcome, refusal_number, refusal_detail}
use Rattle.table.specs.declared.refusal.Refusal.{Refusal}
use Rattle.strides.specs.Cheapest.{Kind}
use Rattle.walk.specs.Limits.{WIDTH}
use Rattle.walk.specs.Rows.{Lists, lists, shortest}
use Rattle.layout.specs.Blocks.{row_count, stride_of}
use Rattle.tries.specs.Build.{BuildIs}
use Rattle.layout.specs.Laid.{table_trie, Laid}
use Rattle.choosers.specs.Scratch.{ROW}
use Rattle.choosers.specs.Kinds.{kind_of}
use Rattle.walk.specs.declared.record.Record.{Record}
use Rattle.layout.proofs.Laid.{hop_longest, length_longest, reads_blocks}
use Rattle.reading.specs.declared.parsing.Contents.{Contents}
use Rattle.reading.specs.Sheet.{Sheet}
use Rattle.reading.specs.Contents.{sheet_in, GoodContents}
use Rattle.reading.specs.Text.{good}
use Rattle.sheet.specs.Limits.{lent_rows, lent_elements}
use Rattle.sheet.specs.Lent.{LentQueries, SheetBuilt}
use Rattle.sheet.specs.Printing.{refusal_lines}
use Rattle.sheet.specs.Answers.{answers_report, hop_for, length_for, reads_for, looked_up}
use Rattle.sheet.specs.Solved.{chosen, build_outcome, longest_hop, matched_length, blocks_read, report_by, table_report, report_for, solved}
use Rattle.sheet.specs.Tablet.{text_report}
use Rattle.sheet.specs.Values.{values_of}
use Rattle.sheet.proofs.Queries.{report_same}

module _ (kind : Kind) (W k : ℕ) (vs ls hs : List ℕ) {rec : Record} {rows : Lists} where
  -- the element lists that a build left say what the table says
  looked_up_laid : Laid WIDTH W vs ls hs (chosen kind W k vs ls hs) k rec rows → (xs ds : List ℕ) → LentQueries xs ds
      → looked_up rec rows xs ds ≡ table_report kind W k vs ls hs xs ds
  unfolding report_by
  looked_up_laid g xs ds lent =
      let σ = chosen kind W k vs ls hs in
      let t = table_trie W vs ls hs in
      named g.width (g.built.elements ∙ ap (λ (l : ℕ). row_count σ l t) g.levels) (g.built.first ∙ ap (λ (l : ℕ). stride_of σ l t) g.levels)
      ∙ report_same (hop_for rec rows) (length_for rec rows) (reads_for rec rows) (longest_hop W k vs ls hs) (matched_length W k vs ls hs)
      (blocks_read W k vs ls hs σ) W xs ds lent
      (λ a h. (hop_longest g a h, length_longest g a h, reads_blocks g a h)) (row_count σ k t) (stride_of σ k t)
    where
      named : {w v e f r q : ℕ} → w ≡ v → e ≡ f → r ≡ q
          → answers_report (hop_for rec rows) (length_for rec rows) (reads_for rec rows) xs ds w e r
          ≡ answers_report (hop_for rec rows) (length_for rec rows) (reads_for rec rows) xs ds v f q
      named a b c = rw (a, b, c)

  module _ {links : ℕ} {scratch scratch' : List ℕ} {lent : Lists} {out : Outcome} (words : length scratch ≡ lent_rows * ROW) (room : shortest lent ≡ lent_elements)
      (b : BuildIs kind W k links vs ls hs scratch lent out rec scratch' rows) where
    outcome_is : out ≡ build_outcome kind W k links vs ls hs
    unfolding build_outcome
    outcome_is = b.tests ∙ rw (words, room)

    built_refused : {r : Refusal} → out ≡ Err r → (bytes : List ℕ)
        → refusal_lines (refusal_number r) (refusal_detail r) ≡ report_for (build_outcome kind W k links vs ls hs) bytes
    unfolding report_for
    built_refused is bytes = rw (sym outcome_is, is)

    built_accepted : out ≡ Ok tt → (xs ds : List ℕ) → LentQueries xs ds
        → looked_up rec rows xs ds ≡ report_for (build_outcome kind W k links vs ls hs) (table_report kind W k vs ls hs xs ds)
    unfolding report_for
    built_accepted is xs ds q = rw (sym outcome_is, is) (looked_up_laid (b.written.laid is) xs ds q)

-- ---- a sheet that was built, into lists of lent_elements

-- the lists that are lent, all zeros (the level and the type are written out: without them the check would unfold the whole list)
pub lent_room : shortest (lists (replicate lent_elements 0) (replicate lent_elements 0) (replicate lent_elements 0) (replicate lent_elements 0)) ≡ lent_elements
lent_room = let e = length-replicate {0} {A = ℕ} lent_elements 0 in omega arith

module _ (sh : Sheet) {lent rows : Lists} {out : Outcome} {rec : Record} (room : shortest lent ≡ lent_elements) (b : SheetBuilt sh lent out rec rows) where
  abbrev values : List ℕ
  values = values_of sh.width sh.bits sh.lengths

  pub sheet_refused : {r : Refusal} → out ≡ Err r → refusal_lines (refusal_number r) (refusal_detail r) ≡ text_report (good sh)
  unfolding text_report solved
  sheet_refused is = built_refused (kind_of sh.kind) sh.width sh.levels values sh.lengths sh.hops b.words room b.build is _

  pub sheet_accepted : out ≡ Ok tt → LentQueries sh.addresses sh.places → looked_up rec rows sh.addresses sh.places ≡ text_report (good sh)
  unfolding text_report solved
  sheet_accepted is q =
      built_accepted (kind_of sh.kind) sh.width sh.levels values sh.lengths sh.hops b.words room b.build is sh.addresses sh.places q

-- ---- the contents of a good text

-- the build of their entries: vs begins with the values
pub sheet_built : (r : Contents) (vs : List ℕ) {scratch scratch' : List ℕ} {lent rows : Lists} {out : Outcome} {rec : Record}
    → length scratch ≡ lent_rows * ROW → take r.entries vs ≡ values_of r.width (sheet_in r).bits (sheet_in r).lengths
    → BuildIs (kind_of r.kind) r.width r.levels r.links (take r.entries vs) (take r.entries r.lengths) (take r.entries r.hops)
    scratch lent out rec scratch' rows
    → SheetBuilt (sheet_in r) lent out rec rows
unfolding sheet_in
sheet_built r vs {scratch = scratch} {scratch' = scratch'} words placed b =
    record { scratch = scratch; scratch' = scratch'; words = words; build = rw placed at b }

pub queries_lent : (r : Contents) → GoodContents r → LentQueries (sheet_in r).addresses (sheet_in r).places
queries_lent r fine =
    let sound = fine.sound in
    record {
      counts = sym sound.as_many_places;
      few = omega (arith, sound.as_many_places, sound.queries_few);
      short = λ i h. (sound.query i (omega (arith, sound.as_many_places))).1;
      spelled = λ i h. (sound.query i (omega (arith, sound.as_many_places))).2;
    }
