-- The parts of a call's answer, as the promises name them: a refusal has cost 0, zero strides, no plan and no root.
use Rattle.std.specs.Prelude.{ℕ, List, [], Result, Ok, Err}
use Rattle.table.specs.Lists.{padded}
use Rattle.table.specs.declared.refusal.Refusal.{Refusal}
use Rattle.walk.specs.Limits.{LEVELS}
use Rattle.choosers.specs.declared.chooser.Chosen.{Chosen}
use Rattle.choosers.specs.declared.chooser.Plan.{Plan}

abbrev pub answered_cost : Result Chosen Refusal → ℕ
answered_cost (Ok a) = a.cost
answered_cost (Err e) = 0

abbrev pub answered_strides : Result Chosen Refusal → List ℕ
answered_strides (Ok a) = a.strides
answered_strides (Err e) = padded LEVELS []

abbrev pub plan_cost : Result Plan Refusal → ℕ
plan_cost (Ok a) = a.cost
plan_cost (Err e) = 0

abbrev pub plan_strides : Result Plan Refusal → List ℕ
plan_strides (Ok a) = a.strides
plan_strides (Err e) = padded LEVELS []

abbrev pub plan_plan : Result Plan Refusal → List ℕ
plan_plan (Ok a) = a.plan
plan_plan (Err e) = padded LEVELS []

abbrev pub plan_root : Result Plan Refusal → ℕ
plan_root (Ok a) = a.root
plan_root (Err e) = 0
