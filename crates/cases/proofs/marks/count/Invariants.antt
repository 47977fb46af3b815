-- The loop's invariant: the marks passed are counted.
use Rattle.std.proofs.Common.{◌≡◌, count_by, take, drop}
use Rattle.cases.proofs.marks.count.Given as goal

abbrev pub invariant-loop-y : goal.invariant-loop-y
invariant-loop-y g l = l.n ≡ count_by (λ y. g.T.PartialEq.eq y l.mark) (take l.y-index (drop l.from l.list))
