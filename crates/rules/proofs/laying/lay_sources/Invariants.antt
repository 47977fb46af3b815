use mathlib.Core.Path.{◌≡◌}
use lib.ListN.{length}
use Rattle.walk.specs.Lent.{held, SameLists}
use Rattle.choosers.specs.Kinds.{kind_of}
use Rattle.rules.specs.Tables.{tables}
use Rattle.rules.specs.Laying.{LaidTo}
use Rattle.rules.proofs.laying.lay_sources.Given as goal

abbrev pub invariant-loop-g : goal.invariant-loop-g
invariant-loop-g l = record {
  laid : let s = l.split in
      LaidTo (kind_of s.kind) s.width s.levels (tables s) l.start (held l.initial.rows) l.initial.list l.g l.place (held l.rows) l.list;
  same : SameLists l.initial.rows l.rows;
  long : length l.scratch ≡ length l.initial.scratch;
}
