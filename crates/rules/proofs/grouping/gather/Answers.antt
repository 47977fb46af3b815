use mathlib.Core.Path.{refl, ◌∙◌}
use native.Mathlib.Omega.{arith}
use lib.ListN.{length-set}
use lib.Seq.{get_or-set_same}
use Rattle.rules.proofs.Gathering.{gathered_none, gathered_more}
use Rattle.rules.proofs.grouping.gather.Goals as goal

pub loop-i-init : goal.loop-i-init
loop-i-init c = record {
  gathered = gathered_none _ _ _ _ _ _ (get_or-set_same c.args.first.now 0 0 0 (omega (arith, c.requires.dlens_len)));
  first = refl;
  vals = refl;
  lens = refl;
  nums = refl;
}

pub loop-i-preserved : goal.loop-i-preserved
loop-i-preserved c =
    let l = c.loop-i.invariant in
    let few = l.gathered.few in
    let k = c.taken-m.auto in
    let long = length-set c.args.first.now 0 0 in
    record {
      gathered = gathered_more l.gathered c.taken-m.ensures
          (omega (arith, few, l.vals, c.requires.dvals_in_bounds), omega (arith, few, l.lens, c.requires.dvals_in_bounds), omega (arith, few, l.nums, c.requires.dvals_in_bounds))
          (omega (arith, few, long, l.first, c.requires.dlens_len));
      first = length-set c.loop-i.first _ _ ∙ l.first;
      vals = omega (arith, k, l.vals);
      lens = omega (arith, k, l.lens);
      nums = omega (arith, k, l.nums);
    }
