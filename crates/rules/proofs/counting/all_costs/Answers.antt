use Prim.Native.Nat.{suc}
use mathlib.Core.Path.{refl, ◌∙◌}
use native.Mathlib.Omega.{arith}
use Rattle.choosers.specs.Kinds.{kind_of}
use Rattle.rules.proofs.Splitting.{table_can, table_roomy, table_least, least_fits, costs_fit}
use Rattle.rules.proofs.Sums.{sum_first_lem, sum_on}
use Rattle.rules.proofs.counting.all_costs.Goals as goal

pub cost_of-cost-requires-clause-roomy : goal.cost_of-cost-requires-clause-roomy
cost_of-cost-requires-clause-roomy c = c.requires.roomy 0 (omega arith)

pub loop-g-init : goal.loop-g-init
loop-g-init c = record { long = refl; sum = sum_first_lem _ c.cost_of-cost.ensures }

pub cost_of-cost-requires-in-loop-g-clause-can_plan : goal.cost_of-cost-requires-in-loop-g-clause-can_plan
cost_of-cost-requires-in-loop-g-clause-can_plan c = table_can c.requires.can_split (suc c.loop-g.g) (omega arith) c.part.ensures

pub cost_of-cost-requires-in-loop-g-clause-roomy : goal.cost_of-cost-requires-in-loop-g-clause-roomy
cost_of-cost-requires-in-loop-g-clause-roomy c =
    table_roomy c.requires.can_split (suc c.loop-g.g) (omega arith) c.part.ensures (c.loop-g.invariant.long ∙ c.cost_of-cost.auto.scratch) c.requires.roomy

pub overflow_add-cost : goal.overflow_add-cost
overflow_add-cost c =
    let p = c.requires.can_split in
    let g = c.loop-g.g in
    let kind = kind_of c.args.split.now.kind in
    record {
      fits = omega (
        arith,
        c.loop-g.invariant.sum,
        costs_fit p kind (suc g) (omega arith),
        least_fits p kind (suc g) (omega arith) (table_least p (suc g) (omega arith) c.part.ensures kind c.cost_of-cost-in-loop-g.ensures),
        p.few,
      );
    }

pub loop-g-preserved : goal.loop-g-preserved
loop-g-preserved c =
    let g = c.loop-g.g in
    let kind = kind_of c.args.split.now.kind in
    record {
      long = c.cost_of-cost-in-loop-g.auto.scratch ∙ c.loop-g.invariant.long;
      sum = sum_on _ g c.loop-g.invariant.sum (table_least c.requires.can_split (suc g) (omega arith) c.part.ensures kind c.cost_of-cost-in-loop-g.ensures);
    }
