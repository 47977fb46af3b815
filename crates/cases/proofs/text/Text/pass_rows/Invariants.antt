-- The loop's invariant: so many rows are passed.
use mathlib.Core.Path.{◌≡◌}
use Rattle.cases.specs.Elements.{element_place}
use Rattle.cases.proofs.text.Text.pass_rows.Given as goal

abbrev pub invariant-loop-row : goal.invariant-loop-row
invariant-loop-row l = l.self ≡ record l.initial.self { at = element_place l.initial.self.bytes.now l.initial.self.at l.row }
