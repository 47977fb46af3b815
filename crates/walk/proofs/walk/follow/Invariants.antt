use Prim.Native.Nat.{◌≤◌, ◌<◌, ◌-◌, ◌^◌}
use mathlib.Core.Path.{◌≡◌}
use Rattle.walk.specs.Limits.{WIDTH}
use Rattle.walk.specs.Rows.{row_at}
use Rattle.walk.specs.Lent.{lent}
use Rattle.walk.specs.Answers.{floor_best}
use Rattle.walk.specs.Lookup.{walk}
use Rattle.walk.specs.Packed.{unpacked, IsPacked}
use Rattle.walk.proofs.walk.follow.Given as goal

-- the walk from here on is the walk from the root's block (a link has 32 bits)
abbrev pub invariant-loop-read : goal.invariant-loop-read
invariant-loop-read l = record {
  left : l.left ≤ WIDTH;
  base : l.base < 2 ^ 32;
  best : IsPacked l.best;
  same : let at = row_at (lent l.rows) in
      walk l.fn.rec.elements l.address at (l.fn.rec.levels - l.read) l.base l.s l.left (unpacked l.best) l.read
      ≡ walk l.fn.rec.elements l.address at l.fn.rec.levels 0 l.fn.root l.fn.rec.width (floor_best l.fn.rec.floor) 0;
}
