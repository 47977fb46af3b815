use Rattle.std.proofs.Common.{◌≤◌}
use Rattle.strides.specs.Trie.{Trie}
use Rattle.layout.specs.Blocks.{Strides}
use Rattle.walk.specs.Lent.{held, SameLists}
use Rattle.tries.specs.Filling.{LayAsks}
use Rattle.tries.proofs.Leveling.{Done}
use Rattle.tries.proofs.blocks.lay.Given as goal

abbrev pub invariant-loop-n : goal.invariant-loop-n
invariant-loop-n l = record {
  in_range : l.n ≤ l.levels;
  same : SameLists l.initial.rows l.rows;
  done : (σ : Strides) (t : Trie) → LayAsks σ t l.trie.rows.now l.trie.plan.now l.root l.width l.levels (held l.initial.rows)
      → Done σ t l.levels (held l.initial.rows) l.to.base l.to.free l.n (held l.rows);
}
