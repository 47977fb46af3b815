use mathlib.Core.Path.{sym, ap, ◌∙◌}
use Rattle.table.specs.Lists.{padded}
use Rattle.walk.specs.Answers.{answer_numbers}
use Rattle.walk.specs.Lent.{lent}
use Rattle.verdicts.proofs.Sources.{wide_root, part_lookup}
use Rattle.verdicts.proofs.tries.Tries.find.Goals as goal

pub returns-then-row-gt-LARGEST_BYTE : goal.returns-then-row-gt-LARGEST_BYTE
returns-then-row-gt-LARGEST_BYTE c = ap answer_numbers (sym (wide_root c.args.row c.args.self.can_visit c.if-row-gt-LARGEST_BYTE.true))

pub returns : goal.returns
unfolding padded
returns c = let t = c.args.self in c.find.ensures.exact ∙ ap answer_numbers (part_lookup t.width t.levels (lent t.rows) t.source c.args.row)
