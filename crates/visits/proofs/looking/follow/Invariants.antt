use mathlib.Core.Path.{◌≡◌}
use Prim.Native.Nat.{suc, ◌+◌, ◌/◌, ◌≤◌}
use Rattle.table.specs.Table.{at}
use Rattle.pieces.specs.Maps.{STEP}
use Rattle.std.specs.Prelude.{None}
use Rattle.visits.specs.Rows.{supernode_at}
use Rattle.visits.specs.Lent.{lent}
use Rattle.visits.specs.Lookup.{visit_from, LeftWithin}
use Rattle.visits.proofs.looking.follow.Given as goal

-- the way from here on is the way from number 0
abbrev pub invariant-loop-i : goal.invariant-loop-i
invariant-loop-i l = record {
  left : l.left ≤ l.rec.width;
  reads : l.reads + l.left / STEP ≤ l.rec.width / STEP;
  best : LeftWithin l.best l.rec.width;
  same : let row = supernode_at (lent l.rows) in let hop = at l.rows.hops.now in
      visit_from l.rec.width l.rec.supernodes l.rec.hops l.address row hop (suc (l.left / STEP)) l.i l.left l.best l.reads
      ≡ visit_from l.rec.width l.rec.supernodes l.rec.hops l.address row hop (suc (l.rec.width / STEP)) 0 l.rec.width None 0;
}

abbrev pub decreases-loop-i : goal.decreases-loop-i
decreases-loop-i l = l.left
