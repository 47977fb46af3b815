use Prim.Native.Nat.{◌+◌, ◌*◌, ◌≤◌}
use mathlib.Core.Path.{◌≡◌}
use Rattle.walk.specs.Limits.{WIDTH, LEVELS}
use Rattle.walk.specs.Lent.{lent}
use Rattle.verdicts.specs.Limits.{VISITS}
use Rattle.verdicts.specs.Classify.{through_tries}
use Rattle.verdicts.proofs.tries.visit_tries.Given as goal

-- what the tries from here on say, all of them say; and the reads so far leave room for those to come
abbrev pub invariant-loop-n : goal.invariant-loop-n
invariant-loop-n l = record {
  same : let t = l.tries in
      through_tries WIDTH t.elements t.width t.levels (lent t.rows) t.list.now t.source l.left l.n l.reads
      ≡ through_tries WIDTH t.elements t.width t.levels (lent t.rows) t.list.now t.source VISITS l.first l.before;
  reads : l.reads + l.left * LEVELS ≤ LEVELS + VISITS * LEVELS;
}

abbrev pub decreases-loop-n : goal.decreases-loop-n
decreases-loop-n l = l.left
