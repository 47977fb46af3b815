use Prim.Native.Nat.{suc}
use mathlib.Core.Path.{◌≡◌}
use Rattle.strides.specs.Trie.{size}
use Rattle.fields.specs.Runs.{sum_first}
use Rattle.rules.specs.Tables.{tables}
use Rattle.rules.specs.Splitting.{split_trie}
use Rattle.rules.proofs.counting.all_nodes.Given as goal

abbrev pub invariant-loop-g : goal.invariant-loop-g
invariant-loop-g l = l.nodes ≡ sum_first (λ x. size (split_trie l.split.width (tables l.split) x)) (suc l.g)
