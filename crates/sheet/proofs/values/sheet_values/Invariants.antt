-- The first i places hold values, the others bits yet.
use Rattle.table.specs.Lists.{FilledTo}
use Rattle.sheet.proofs.Placing.{placed_at}
use Rattle.sheet.proofs.values.sheet_values.Given as goal

abbrev pub invariant-loop-i : goal.invariant-loop-i
invariant-loop-i l = FilledTo (placed_at l.sheet.width l.sheet.bits l.sheet.lengths) l.initial.values l.values l.i
