-- Each answer as the C caller sees it: the refusal's number, 0 where it is accepted, the detail, and the values, which are 0 where it is
-- refused. (A lookup's answer in numbers is walk's `answer_numbers`.)
use Rattle.std.specs.Prelude.{ℕ, Result, Ok, Err}
use Rattle.table.specs.Refusals.{Outcome, outcome_of, outcome_number, outcome_detail}
use Rattle.table.specs.Answers.{span_or_none}
use Rattle.table.specs.declared.refusal.Refusal.{Refusal}
use Rattle.table.specs.declared.zoning.Span.{Span}
use Rattle.walk.specs.declared.record.Record.{Record}
use Rattle.choosers.specs.Answered.{answered_cost, answered_strides}
use Rattle.choosers.specs.declared.chooser.Chosen.{Chosen}
use Rattle.tries.specs.Build.{record_of}
use Rattle.visits.specs.declared.record.Bitmap.{Bitmap}
use Rattle.supernodes.specs.Build.{record_of as bitmap_of}
use Rattle.verdicts.specs.Verdicts.{verdict_number, action_of, verdict_reads}
use Rattle.verdicts.specs.Cases.{Verdict}
use Rattle.verdicts.specs.declared.record.RuleRecord.{RuleRecord}
use Rattle.rules.specs.Build.{rule_record_of}
use Rattle.gateway.specs.declared.bitmaps.BuiltBitmapNumbers.{BuiltBitmapNumbers}
use Rattle.gateway.specs.declared.entries.Checked.{Checked}
use Rattle.gateway.specs.declared.entries.SharedNumbers.{SharedNumbers}
use Rattle.gateway.specs.declared.entries.SpanNumbers.{SpanNumbers}
use Rattle.gateway.specs.declared.choosing.ChosenNumbers.{ChosenNumbers}
use Rattle.gateway.specs.declared.making.BuiltNumbers.{BuiltNumbers}
use Rattle.gateway.specs.declared.ruling.BuiltRulesNumbers.{BuiltRulesNumbers}
use Rattle.gateway.specs.declared.ruling.VerdictNumbers.{VerdictNumbers}

-- an answer's outcome in numbers
abbrev pub told_number : {A : Type 0} → Result A Refusal → ℕ
told_number r = outcome_number (outcome_of r)

abbrev pub told_detail : {A : Type 0} → Result A Refusal → ℕ
told_detail r = outcome_detail (outcome_of r)

abbrev pub outcome_numbers : Outcome → Checked
outcome_numbers o = record { number = outcome_number o; detail = outcome_detail o }

-- the bits that a shared length says: none where it is refused
abbrev pub shared_bits : Result ℕ Refusal → ℕ
shared_bits (Ok bits) = bits
shared_bits (Err r) = 0

-- a refused shared length has detail 0 (proofs/Numbers), so none is told
abbrev pub shared_numbers : Result ℕ Refusal → SharedNumbers
shared_numbers s = record { number = told_number s; bits = shared_bits s }

abbrev pub span_numbers : Result Span Refusal → SpanNumbers
span_numbers s = record { number = told_number s; detail = told_detail s; index = (span_or_none s).index; count = (span_or_none s).count }

abbrev pub choice_numbers : Result Chosen Refusal → ChosenNumbers
choice_numbers c = record { number = told_number c; detail = told_detail c; cost = answered_cost c; strides = answered_strides c }

abbrev pub build_numbers : Result Record Refusal → BuiltNumbers
build_numbers b = record { number = told_number b; detail = told_detail b; «record» = record_of b }

abbrev pub bitmap_numbers : Result Bitmap Refusal → BuiltBitmapNumbers
bitmap_numbers b = record { number = told_number b; detail = told_detail b; «record» = bitmap_of b }

abbrev pub rule_build_numbers : Result RuleRecord Refusal → BuiltRulesNumbers
rule_build_numbers b = record { number = told_number b; detail = told_detail b; «record» = rule_record_of b }

-- a classification's refusals have detail 0, so none is told
abbrev pub verdict_numbers : Verdict → VerdictNumbers
verdict_numbers v = record { number = verdict_number v; action = action_of v; reads = verdict_reads v }
