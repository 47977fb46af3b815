-- Each call's promise leaves one result: from what it MEANS alone, the numbers handed back and what the lists then hold.
use mathlib.Core.Path.{◌≡◌, sym, ap, ◌∙◌}
use mathlib.Core.List.{List}
use Prim.Native.Nat.{ℕ}
use native.Mathlib.Omega.{arith}
use native.Mathlib.Decide.{dec_le}
use lib.Seq.{ext_get_or}
use Rattle.std.specs.Prelude.{Result}
use Rattle.table.specs.Refusals.{Gives, outcome_of}
use Rattle.table.specs.declared.refusal.Refusal.{Refusal}
use Rattle.choosers.specs.Answered.{answered_cost, answered_strides}
use Rattle.tries.specs.Build.{record_of}
use Rattle.supernodes.specs.Build.{record_of as bitmap_of}
use Rattle.rules.specs.Build.{rule_record_of}
use Rattle.visits.specs.declared.record.Bitmap.{Bitmap}
use Rattle.table.specs.Table.{table_tests}
use Rattle.table.specs.Answers.{Told, Shares, Spans}
use Rattle.table.proofs.Unique.{told_unique, check_unique, shares_unique, spans_unique}
use Rattle.strides.specs.Cheapest.{Kind}
use Rattle.walk.specs.Limits.{WIDTH}
use Rattle.walk.specs.Rows.{Lists}
use Rattle.walk.specs.Meaning.{Looked}
use Rattle.choosers.specs.declared.chooser.Chosen.{Chosen}
use Rattle.walk.specs.declared.record.Record.{Record}
use Rattle.visits.specs.Rows.{RowLists}
use Rattle.supernodes.proofs.Unique.{bitmap_unique}
use Rattle.fields.specs.Rules.{Rules}
use Rattle.verdicts.specs.Meaning.{Classified}
use Rattle.verdicts.specs.declared.record.RuleRecord.{RuleRecord}
use Rattle.verdicts.proofs.Unique.{classified_unique}
use Rattle.rules.proofs.Unique.{rule_builds_unique}
use Rattle.choosers.proofs.Choosing.{chooses_unique}
use Rattle.tries.proofs.Unique.{builds_unique}
use Rattle.walk.proofs.Unique.{lookup_unique}
use Rattle.gateway.specs.Numbers.{outcome_numbers, shared_numbers, span_numbers, choice_numbers, build_numbers, bitmap_numbers, rule_build_numbers, verdict_numbers}
use Rattle.gateway.specs.Allowed.{AllowedChoice, AllowedBuild, AllowedBitmap, AllowedRules}
use Rattle.gateway.specs.Batch.{Columns, columns, answer_at, BatchWritten, Answered}
use Rattle.gateway.specs.declared.bitmaps.BuiltBitmapNumbers.{BuiltBitmapNumbers}
use Rattle.gateway.specs.declared.entries.Checked.{Checked}
use Rattle.gateway.specs.declared.entries.SharedNumbers.{SharedNumbers}
use Rattle.gateway.specs.declared.entries.SpanNumbers.{SpanNumbers}
use Rattle.gateway.specs.declared.choosing.ChosenNumbers.{ChosenNumbers}
use Rattle.gateway.specs.declared.making.BuiltNumbers.{BuiltNumbers}
use Rattle.gateway.specs.declared.ruling.BuiltRulesNumbers.{BuiltRulesNumbers}
use Rattle.gateway.specs.declared.ruling.VerdictNumbers.{VerdictNumbers}
use Rattle.walk.specs.declared.numbers.AnswerNumbers.{AnswerNumbers}

pub checked_unique : (W links : ℕ) (vs ls hs : List ℕ) {r r' : Checked}
    → Told (Gives (table_tests W links vs ls hs)) outcome_numbers r → Told (Gives (table_tests W links vs ls hs)) outcome_numbers r' → r ≡ r'
checked_unique W links vs ls hs = told_unique (check_unique W links vs ls hs)

pub shared_bits_unique : (W a l b m : ℕ) {r r' : SharedNumbers} → Told (Shares W a l b m) shared_numbers r → Told (Shares W a l b m) shared_numbers r' → r ≡ r'
shared_bits_unique W a l b m = told_unique (shares_unique W a l b m)

pub zone_span_unique : (W links : ℕ) (vs ls hs : List ℕ) (p b : ℕ) {r r' : SpanNumbers}
    → Told (Spans W links vs ls hs p b) span_numbers r → Told (Spans W links vs ls hs p b) span_numbers r' → r ≡ r'
zone_span_unique W links vs ls hs p b = told_unique (spans_unique W links vs ls hs p b)

-- ---- with what is left in the lists

choice_same : (c c' : Result Chosen Refusal) → outcome_of c ≡ outcome_of c' → answered_cost c ≡ answered_cost c' → answered_strides c ≡ answered_strides c' → choice_numbers c ≡ choice_numbers c'
choice_same c c' p q r = rw (p, q, r)

build_same : (b b' : Result Record Refusal) → outcome_of b ≡ outcome_of b' → record_of b ≡ record_of b' → build_numbers b ≡ build_numbers b'
build_same b b' p q = rw (p, q)

module _ (kind : Kind) (W k links : ℕ) (vs ls hs scratch : List ℕ) where
  pub choice_unique : {s s' : List ℕ} {r r' : ChosenNumbers} → Told (AllowedChoice kind W k links vs ls hs scratch s) choice_numbers r
      → Told (AllowedChoice kind W k links vs ls hs scratch s') choice_numbers r' → (r ≡ r') × (s ≡ s')
  choice_unique t t' =
      let u = chooses_unique kind W k links vs ls hs scratch t.1 t'.1 in
      (t.2 ∙ choice_same t.0 t'.0 u.0 u.1 u.2 ∙ sym t'.2, u.3)

  pub built_unique : {rows rows1 rows2 : Lists} {s s' : List ℕ} {r r' : BuiltNumbers} → Told (AllowedBuild kind W k links vs ls hs scratch rows s rows1) build_numbers r
      → Told (AllowedBuild kind W k links vs ls hs scratch rows s' rows2) build_numbers r' → (r ≡ r') × (s ≡ s') × (rows1 ≡ rows2)
  built_unique {rows} t t' =
      let u = builds_unique kind W k links vs ls hs scratch rows t.1 t'.1 in
      (t.2 ∙ build_same t.0 t'.0 u.0 u.1 ∙ sym t'.2, u.2, u.3)

columns_same : {a a' b b' c c' d d' : List ℕ} → a ≡ a' → b ≡ b' → c ≡ c' → d ≡ d' → columns a b c d ≡ columns a' b' c' d'
columns_same p q r s = rw (p, q, r, s)

module _ (rec : Record) (ls : Lists) (xs : List ℕ) (cs : Columns) where
  -- the same at every index
  places_one : {cs1 cs2 : Columns} {n : ℕ} → BatchWritten (Looked WIDTH rec ls) xs cs cs1 n → BatchWritten (Looked WIDTH rec ls) xs cs cs2 n
      → (i : ℕ) → answer_at cs1 i ≡ answer_at cs2 i
  places_one {n = n} w w' i = elim (dec_le n i) [
    | yes p ↦ w.later i p ∙ sym (w'.later i p)
    | no p ↦ lookup_unique (w.told i (omega arith)) (w'.told i (omega arith))
  ]

  pub answered_unique : {cs1 cs2 : Columns} {n m : ℕ} → Answered (Looked WIDTH rec ls) xs cs cs1 n → Answered (Looked WIDTH rec ls) xs cs cs2 m
      → (n ≡ m) × (cs1 ≡ cs2)
  answered_unique {cs1} {cs2} {n} {m} a a' =
      let e : n ≡ m = a.count ∙ sym a'.count in
      let w = a.written in
      let w' : BatchWritten (Looked WIDTH rec ls) xs cs cs2 n = rw e a'.written in
      let one = places_one w w' in (
        e,
        columns_same
            (ext_get_or 0 cs1.number cs2.number (w.numbers ∙ sym w'.numbers) (λ i h. ap (λ (f : AnswerNumbers). f.number) (one i)))
            (ext_get_or 0 cs1.hop cs2.hop (w.hops ∙ sym w'.hops) (λ i h. ap (λ (f : AnswerNumbers). f.hop) (one i)))
            (ext_get_or 0 cs1.len cs2.len (w.lens ∙ sym w'.lens) (λ i h. ap (λ (f : AnswerNumbers). f.length) (one i)))
            (ext_get_or 0 cs1.reads cs2.reads (w.counts ∙ sym w'.counts) (λ i h. ap (λ (f : AnswerNumbers). f.reads) (one i))),
      )

-- ---- tree bitmap arrays

bitmap_same : (b b' : Result Bitmap Refusal) → outcome_of b ≡ outcome_of b' → bitmap_of b ≡ bitmap_of b' → bitmap_numbers b ≡ bitmap_numbers b'
bitmap_same b b' p q = rw (p, q)

pub built_bitmap_unique : (W links : ℕ) (vs ls hs scratch : List ℕ) {rows rows1 rows2 : RowLists} {hops s hops1 s' hops2 : List ℕ} {r r' : BuiltBitmapNumbers}
    → Told (AllowedBitmap W links vs ls hs scratch rows hops s rows1 hops1) bitmap_numbers r → Told (AllowedBitmap W links vs ls hs scratch rows hops s' rows2 hops2) bitmap_numbers r'
    → (r ≡ r') × (s ≡ s') × (rows1 ≡ rows2) × (hops1 ≡ hops2)
built_bitmap_unique W links vs ls hs scratch {rows} {hops = hops} t t' =
    let u = bitmap_unique W links vs ls hs scratch rows hops t.1 t'.1 in
    (t.2 ∙ bitmap_same t.0 t'.0 u.0 u.1 ∙ sym t'.2, u.2, u.3, u.4)

-- ---- rules of two fields

rule_build_same : (b b' : Result RuleRecord Refusal) → outcome_of b ≡ outcome_of b' → rule_record_of b ≡ rule_record_of b' → rule_build_numbers b ≡ rule_build_numbers b'
rule_build_same b b' p q = rw (p, q)

pub built_rules_unique : (kind : Kind) (W k links : ℕ) (rs : Rules) (scratch : List ℕ) {rows rows1 rows2 : Lists} {list s list1 s' list2 : List ℕ} {r r' : BuiltRulesNumbers}
    → Told (AllowedRules kind W k links rs scratch rows list s rows1 list1) rule_build_numbers r → Told (AllowedRules kind W k links rs scratch rows list s' rows2 list2) rule_build_numbers r'
    → (r ≡ r') × (s ≡ s') × (rows1 ≡ rows2) × (list1 ≡ list2)
built_rules_unique kind W k links rs scratch {rows} {list = list} t t' =
    let u = rule_builds_unique kind W k links rs scratch rows list t.1 t'.1 in
    (t.2 ∙ rule_build_same t.0 t'.0 u.0 u.1 ∙ sym t'.2, u.2, u.3, u.4)

pub classify_unique : (rec : RuleRecord) (ls : Lists) (list : List ℕ) (dest source : ℕ) {r r' : VerdictNumbers}
    → Told (Classified rec ls list dest source WIDTH) verdict_numbers r → Told (Classified rec ls list dest source WIDTH) verdict_numbers r' → r ≡ r'
classify_unique rec ls list dest source = told_unique (λ v w p q. classified_unique p q)
