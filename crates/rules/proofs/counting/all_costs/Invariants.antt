use Prim.Native.Nat.{suc}
use mathlib.Core.Path.{◌≡◌}
use lib.ListN.{length}
use Rattle.strides.specs.Recurrence.{plain, least_by}
use Rattle.choosers.specs.Kinds.{kind_of}
use Rattle.fields.specs.Runs.{sum_first}
use Rattle.rules.specs.Tables.{tables}
use Rattle.rules.specs.Splitting.{split_trie}
use Rattle.rules.proofs.counting.all_costs.Given as goal

abbrev pub invariant-loop-g : goal.invariant-loop-g
invariant-loop-g l = record {
  long : length l.scratch ≡ length l.initial.scratch;
  sum : let s = l.split in l.cost ≡ sum_first (λ x. least_by plain (kind_of s.kind) s.levels (split_trie s.width (tables s) x)) (suc l.g);
}
