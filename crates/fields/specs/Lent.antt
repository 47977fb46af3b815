-- What a lent struct of lists holds, as lists.
use Rattle.fields.specs.Rules.{Rules, rules}
use Rattle.fields.specs.declared.checking.RuleLists.{RuleLists}

abbrev pub lent : RuleLists → Rules
lent r = rules r.dvals.now r.dlens.now r.svals.now r.slens.now r.actions.now
