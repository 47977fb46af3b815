use mathlib.Core.Path.{sym, ◌∙◌}
use Rattle.fields.proofs.Rules.{lengths_are}
use Rattle.fields.proofs.checking.check_rules.Goals as goal

pub rules_outcome-requires-clause-same_lengths : goal.rules_outcome-requires-clause-same_lengths
rules_outcome-requires-clause-same_lengths c = (lengths_are _ (sym c.rules_shape_bad.ensures ∙ c.if-rules_shape_bad.false)).0
