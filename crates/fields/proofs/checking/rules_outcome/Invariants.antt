-- The loop's invariant: the rules from i on decide what all rules decide.
use Prim.Native.Nat.{◌-◌}
use mathlib.Core.Path.{◌≡◌}
use Rattle.table.specs.Refusals.{outcome}
use Rattle.fields.specs.Lent.{lent}
use Rattle.fields.specs.Rules.{rule_count, each_rule_tests}
use Rattle.fields.proofs.checking.rules_outcome.Given as goal

abbrev pub invariant-loop-i : goal.invariant-loop-i
invariant-loop-i l = let rs = lent l.rules in let n = rule_count rs in
    outcome (each_rule_tests l.width l.links rs 0 n) ≡ outcome (each_rule_tests l.width l.links rs l.i (n - l.i))
