use mathlib.Core.Path.{sym, ◌∙◌}
use Rattle.std.proofs.Common.{rules as tricks}
use Rattle.table.specs.Refusals.{outcome_of}
use Rattle.table.proofs.Refusals.{handed_on}
use Rattle.walk.specs.Lent.{held}
use Rattle.choosers.specs.Kinds.{kind_of}
use Rattle.fields.specs.Lent.{lent}
use Rattle.rules.proofs.Meaning.{rules_mean}
use Rattle.rules.proofs.Whole.{width_refused, levels_refused, rules_refused}
use Rattle.rules.proofs.building.build_rules.Goals as goal

pub returns-then-is_outside : goal.returns-then-is_outside
unfolding outcome_of
returns-then-is_outside c =
    let a = c.args in
    let b = width_refused (kind_of a.kind) a.width a.levels a.links (lent a.rules) a.scratch.now (held a.rows.now) a.list.now
    (sym c.is_outside.ensures ∙ c.if-is_outside.true) in
    record { same = search tricks; exact = b; meaning = rules_mean b }

pub returns-then-is_outside-2 : goal.returns-then-is_outside-2
unfolding outcome_of
returns-then-is_outside-2 c =
    let a = c.args in
    let b = levels_refused (kind_of a.kind) a.width a.levels a.links (lent a.rules) a.scratch.now (held a.rows.now) a.list.now
    (sym c.is_outside.ensures ∙ c.if-is_outside.false) (sym c.is_outside-2.ensures ∙ c.if-is_outside-2.true) in
    record { same = search tricks; exact = b; meaning = rules_mean b }

pub returns-in_err-check_rules : goal.returns-in_err-check_rules
unfolding outcome_of
returns-in_err-check_rules c =
    let a = c.args in
    let b = rules_refused (kind_of a.kind) a.width a.levels a.links (lent a.rules) a.scratch.now (held a.rows.now) a.list.now
    (sym c.is_outside.ensures ∙ c.if-is_outside.false) (sym c.is_outside-2.ensures ∙ c.if-is_outside-2.false) _ (sym c.in_err-check_rules.ensures.exact) in
    rw (handed_on _ c.from_residual.ensures.1) (record { same = search tricks; exact = b; meaning = rules_mean b })

pub build_gathered-requires : goal.build_gathered-requires
build_gathered-requires c =
    record {
      levels = sym c.is_outside-2.ensures ∙ c.if-is_outside-2.false;
      accepted = sym c.in_ok-check_rules.ensures.exact;
    }

pub returns : goal.returns
returns c = let b = c.build_gathered.ensures in record { same = b.same; exact = b.exact; meaning = rules_mean b.exact }
