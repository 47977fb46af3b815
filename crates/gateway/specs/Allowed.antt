-- What the promises of a chooser and of a build allow, as families of their answers: exactly, and by what they mean.
use Rattle.std.specs.Prelude.{List, ℕ, Result}
use Rattle.table.specs.Refusals.{outcome_of}
use Rattle.table.specs.declared.refusal.Refusal.{Refusal}
use Rattle.strides.specs.Cheapest.{Kind}
use Rattle.walk.specs.Rows.{Lists}
use Rattle.walk.specs.declared.record.Record.{Record}
use Rattle.choosers.specs.Answered.{answered_cost, answered_strides}
use Rattle.choosers.specs.Chooser.{ChosenIs, Chooses}
use Rattle.choosers.specs.declared.chooser.Chosen.{Chosen}
use Rattle.tries.specs.Build.{BuildIs, Builds, record_of}
use Rattle.visits.specs.Rows.{RowLists}
use Rattle.visits.specs.declared.record.Bitmap.{Bitmap}
use Rattle.supernodes.specs.Build.{BitmapIs, BuildsBitmap, record_of as bitmap_of}
use Rattle.fields.specs.Rules.{Rules}
use Rattle.verdicts.specs.declared.record.RuleRecord.{RuleRecord}
use Rattle.rules.specs.Build.{RulesAre, RuleBuilds, rule_record_of}

module _ (kind : Kind) (W k links : ℕ) (vs ls hs : List ℕ) where
  module _ (scratch scratch' : List ℕ) where
    abbrev pub ExactChoice : Result Chosen Refusal → Type 0
    ExactChoice c = ChosenIs kind W k links vs ls hs scratch (outcome_of c) (answered_cost c) (answered_strides c) scratch'

    abbrev pub AllowedChoice : Result Chosen Refusal → Type 0
    AllowedChoice c = Chooses kind W k links vs ls hs scratch (outcome_of c) (answered_cost c) (answered_strides c) scratch'

  module _ (scratch : List ℕ) (rows : Lists) (scratch' : List ℕ) (rows' : Lists) where
    abbrev pub ExactBuild : Result Record Refusal → Type 0
    ExactBuild b = BuildIs kind W k links vs ls hs scratch rows (outcome_of b) (record_of b) scratch' rows'

    abbrev pub AllowedBuild : Result Record Refusal → Type 0
    AllowedBuild b = Builds kind W k links vs ls hs scratch rows (outcome_of b) (record_of b) scratch' rows'

-- and of a bitmap build
module _ (W links : ℕ) (vs ls hs scratch : List ℕ) (rows : RowLists) (hops scratch' : List ℕ) (rows' : RowLists) (hops' : List ℕ) where
  abbrev pub ExactBitmap : Result Bitmap Refusal → Type 0
  ExactBitmap b = BitmapIs W links vs ls hs scratch rows hops (outcome_of b) (bitmap_of b) scratch' rows' hops'

  abbrev pub AllowedBitmap : Result Bitmap Refusal → Type 0
  AllowedBitmap b = BuildsBitmap W links vs ls hs scratch rows hops (outcome_of b) (bitmap_of b) scratch' rows' hops'

-- and of a build of rules
module _ (kind : Kind) (W k links : ℕ) (rs : Rules) (scratch : List ℕ) (rows : Lists) (list scratch' : List ℕ) (rows' : Lists) (list' : List ℕ) where
  abbrev pub ExactRules : Result RuleRecord Refusal → Type 0
  ExactRules b = RulesAre kind W k links rs scratch rows list (outcome_of b) (rule_record_of b) scratch' rows' list'

  abbrev pub AllowedRules : Result RuleRecord Refusal → Type 0
  AllowedRules b = RuleBuilds kind W k links rs scratch rows list (outcome_of b) (rule_record_of b) scratch' rows' list'
