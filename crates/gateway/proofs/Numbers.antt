-- What the numbers tell: 0 says that the call was accepted, any other number that the test of that number was the first to fail,
-- with that detail: no test has the number 0.
use mathlib.Core.Path.{◌≡◌, ap, subst}
use mathlib.Core.List.{List}
use mathlib.Core.Logic.{inl, inr}
use Prim.Native.Nat.{ℕ, ◌≤◌}
use native.Mathlib.Omega.{arith}
use lib.ListN.{length}
use Rattle.table.specs.Refusals.{Outcome, outcome_of, outcome_number, outcome_detail, Gives, Tells}
use Rattle.table.specs.Table.{table_tests}
use Rattle.table.specs.Answers.{Told, shared_tests, Shares, zone_tests, Spans}
use Rattle.table.proofs.Numbered.{gives_tells, numbered_table, numbered_zone, numbered_shared}
use Rattle.strides.specs.Cheapest.{Kind, Cheapest}
use Rattle.walk.specs.Limits.{WIDTH}
use Rattle.walk.specs.Rows.{Lists, shortest}
use Rattle.layout.specs.Laid.{table_trie}
use Rattle.choosers.specs.Chooser.{choose_tests}
use Rattle.tries.specs.Build.{build_tests}
use Rattle.walk.specs.Meaning.{Tested, Looked}
use Rattle.choosers.proofs.ChooseTests.{numbered_choose}
use Rattle.tries.proofs.BuildSteps.{numbered_build}
use Rattle.walk.specs.declared.record.Record.{Record}
use Rattle.visits.specs.declared.record.Bitmap.{Bitmap}
use Rattle.visits.specs.Rows.{RowLists, row_room}
use Rattle.visits.specs.Meaning.{BitmapTested, LookedBitmap}
use Rattle.supernodes.specs.Build.{bitmap_tests}
use Rattle.supernodes.proofs.Demands.{numbered_bitmap}
use Rattle.fields.specs.Rules.{Rules}
use Rattle.verdicts.specs.Meaning.{RuleTested, Classified}
use Rattle.verdicts.specs.declared.record.RuleRecord.{RuleRecord}
use Rattle.rules.specs.Build.{RunsOf, rule_trie, rule_build_tests}
use Rattle.rules.proofs.RuleTests.{numbered_rule_build}
use Rattle.walk.specs.Answers.{answer_numbers}
use Rattle.gateway.specs.Numbers.{outcome_numbers, shared_numbers, span_numbers, choice_numbers, build_numbers, bitmap_numbers, rule_build_numbers, verdict_numbers}
use Rattle.gateway.specs.Allowed.{AllowedChoice, AllowedBuild, AllowedBitmap, AllowedRules}
use Rattle.gateway.specs.declared.bitmaps.BuiltBitmapNumbers.{BuiltBitmapNumbers}
use Rattle.gateway.specs.declared.entries.Checked.{Checked}
use Rattle.gateway.specs.declared.entries.SharedNumbers.{SharedNumbers}
use Rattle.gateway.specs.declared.entries.SpanNumbers.{SpanNumbers}
use Rattle.gateway.specs.declared.choosing.ChosenNumbers.{ChosenNumbers}
use Rattle.gateway.specs.declared.making.BuiltNumbers.{BuiltNumbers}
use Rattle.gateway.specs.declared.ruling.BuiltRulesNumbers.{BuiltRulesNumbers}
use Rattle.gateway.specs.declared.ruling.VerdictNumbers.{VerdictNumbers}
use Rattle.walk.specs.declared.numbers.AnswerNumbers.{AnswerNumbers}

-- ---- each call's numbers

pub checked_tells : (W links : ℕ) (vs ls hs : List ℕ) {r : Checked} → Told (Gives (table_tests W links vs ls hs)) outcome_numbers r
    → Tells (table_tests W links vs ls hs) r.number r.detail
checked_tells W links vs ls hs t = rw t.2 (gives_tells 5 (table_tests W links vs ls hs) (numbered_table 5 (omega arith) W links vs ls hs) t.0 t.1)

-- a refused shared length has detail 0
shared_detail : (W a l b m : ℕ) (o : Outcome) → Gives (shared_tests W a l b m) o → outcome_detail o ≡ 0
unfolding shared_tests
shared_detail W a l b m o (inl g) = ap outcome_detail g.1
shared_detail W a l b m o (inr (f, inl g)) = ap outcome_detail g.1
shared_detail W a l b m o (inr (f, inr (h, inl g))) = ap outcome_detail g.1
shared_detail W a l b m o (inr (f, inr (h, inr (j, g)))) = ap outcome_detail g

pub shared_bits_tells : (W a l b m : ℕ) {r : SharedNumbers} → Told (Shares W a l b m) shared_numbers r → Tells (shared_tests W a l b m) r.number 0
shared_bits_tells W a l b m t =
    let o = outcome_of t.0 in
    let g = t.1.tested in
    rw t.2 (subst (Tells (shared_tests W a l b m) (outcome_number o)) (shared_detail W a l b m o g) (gives_tells 10 (shared_tests W a l b m) (numbered_shared W a l b m) o g))

pub zone_span_tells : (W links : ℕ) (vs ls hs : List ℕ) (p b : ℕ) {r : SpanNumbers} → Told (Spans W links vs ls hs p b) span_numbers r
    → Tells (zone_tests W links vs ls hs p b) r.number r.detail
zone_span_tells W links vs ls hs p b t =
    rw t.2 (gives_tells 10 (zone_tests W links vs ls hs p b) (numbered_zone W links vs ls hs p b) (outcome_of t.0) t.1.tested)

module _ (kind : Kind) (W k links : ℕ) (vs ls hs scratch : List ℕ) where
  pub choice_tells : {s : List ℕ} {r : ChosenNumbers} → Told (AllowedChoice kind W k links vs ls hs scratch s) choice_numbers r
      → Tells (choose_tests W k links vs ls hs (length scratch)) r.number r.detail
  choice_tells t =
      rw t.2 (gives_tells 6 (choose_tests W k links vs ls hs (length scratch)) (numbered_choose 6 (omega arith) W k links vs ls hs (length scratch)) (outcome_of t.0) t.1.tested)

  -- where the cheapest choice costs `least`
  pub built_tells : {rows rows' : Lists} {s : List ℕ} {r : BuiltNumbers} → Told (AllowedBuild kind W k links vs ls hs scratch rows s rows') build_numbers r
      → (least : ℕ) → (1 ≤ k → Cheapest kind k (table_trie W vs ls hs) least)
      → Tells (build_tests W k links vs ls hs (length scratch) (shortest rows) least) r.number r.detail
  built_tells {rows} t least c =
      rw t.2
      (gives_tells 7 (build_tests W k links vs ls hs (length scratch) (shortest rows) least)
      (numbered_build W k links vs ls hs (length scratch) (shortest rows) least) (outcome_of t.0) (t.1.tested least c))

-- ---- a lookup's number

-- its tests are passed where it is 0; else the test of that number is the first to fail
pub lookup_tells : (rec : Record) (ls : Lists) (address : ℕ) {r : AnswerNumbers} → Told (Looked WIDTH rec ls address) answer_numbers r
    → Tested WIDTH rec ls address r.number
lookup_tells rec ls address t = rw t.2 t.1.tested

-- ---- tree bitmap arrays

pub bitmap_tells : (W links : ℕ) (vs ls hs scratch : List ℕ) {rows rows' : RowLists} {hops s hops' : List ℕ} {r : BuiltBitmapNumbers}
    → Told (AllowedBitmap W links vs ls hs scratch rows hops s rows' hops') bitmap_numbers r
    → Tells (bitmap_tests W links vs ls hs (length scratch) (row_room rows) (length hops)) r.number r.detail
bitmap_tells W links vs ls hs scratch {rows} {hops = hops} t =
    rw t.2
    (gives_tells 7 (bitmap_tests W links vs ls hs (length scratch) (row_room rows) (length hops))
    (numbered_bitmap W links vs ls hs (length scratch) (row_room rows) (length hops)) (outcome_of t.0) t.1.tested)

pub lookup_bitmap_tells : (rec : Bitmap) (rows : RowLists) (hops : List ℕ) (address : ℕ) {r : AnswerNumbers}
    → Told (LookedBitmap WIDTH rec rows hops address) answer_numbers r → BitmapTested WIDTH rec rows hops address r.number
lookup_bitmap_tells rec rows hops address t = rw t.2 t.1.tested

module _ (kind : Kind) (W k links : ℕ) (rs : Rules) (scratch : List ℕ) where
  -- where the rules have m destinations, and the cheapest choice of each trie costs `least`
  pub built_rules_tells : {rows rows' : Lists} {list s list' : List ℕ} {r : BuiltRulesNumbers}
      → Told (AllowedRules kind W k links rs scratch rows list s rows' list') rule_build_numbers r → (m : ℕ) (from least : ℕ → ℕ) → RunsOf rs m from
      → ((g : ℕ) → g ≤ m → 1 ≤ k → Cheapest kind k (rule_trie W rs m from g) (least g))
      → Tells (rule_build_tests W k links rs (length scratch) (shortest rows) (length list) m from least) r.number r.detail
  built_rules_tells {rows} {list = list} t m from least runs c =
      let numbered = numbered_rule_build W k links rs (length scratch) m from (shortest rows) (length list) least in
      rw t.2 (gives_tells 7 (rule_build_tests W k links rs (length scratch) (shortest rows) (length list) m from least) numbered (outcome_of t.0) (t.1.tested m from least runs c))

pub classify_tells : (rec : RuleRecord) (ls : Lists) (list : List ℕ) (dest source : ℕ) {r : VerdictNumbers}
    → Told (Classified rec ls list dest source WIDTH) verdict_numbers r → RuleTested rec ls list dest source WIDTH r.number
classify_tells rec ls list dest source t = rw t.2 t.1.tested
