use Prim.Native.Nat.{suc}
use native.Mathlib.Omega.{arith}
use Rattle.rules.proofs.Splitting.{table_can, table_size, size_fits, nodes_fit}
use Rattle.rules.proofs.Sums.{sum_first_lem, sum_on}
use Rattle.rules.proofs.counting.all_nodes.Goals as goal

pub loop-g-init : goal.loop-g-init
loop-g-init c = sum_first_lem _ c.nodes_of-nodes.ensures

pub nodes_of-nodes-requires-in-loop-g : goal.nodes_of-nodes-requires-in-loop-g
nodes_of-nodes-requires-in-loop-g c = table_can c.requires (suc c.loop-g.g) (omega arith) c.part.ensures

pub overflow_add-nodes : goal.overflow_add-nodes
overflow_add-nodes c =
    let p = c.requires in
    let g = c.loop-g.g in
    record {
      fits = omega (
        arith,
        c.loop-g.invariant,
        nodes_fit p (suc g) (omega arith),
        size_fits p (suc g) (omega arith) (table_size p (suc g) (omega arith) c.part.ensures c.nodes_of-nodes-in-loop-g.ensures),
        p.few,
      );
    }

pub loop-g-preserved : goal.loop-g-preserved
loop-g-preserved c =
    let g = c.loop-g.g in
    sum_on _ g c.loop-g.invariant (table_size c.requires (suc g) (omega arith) c.part.ensures c.nodes_of-nodes-in-loop-g.ensures)
