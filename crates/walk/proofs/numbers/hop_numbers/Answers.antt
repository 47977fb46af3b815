use borrow.Author.Tests.{eq-eqb, ne_eqb}
use Rattle.walk.proofs.Answers.{answer_has_numbers}
use Rattle.walk.proofs.numbers.hop_numbers.Goals as goal

pub returns-then-hop-eq0 : goal.returns-then-hop-eq0
returns-then-hop-eq0 c = rw (eq-eqb _ _ c.if-hop-eq0.true) at (answer_has_numbers c.args.hop c.args.length c.args.reads)

pub returns-else-hop-eq0 : goal.returns-else-hop-eq0
returns-else-hop-eq0 c = rw (ne_eqb _ _ c.if-hop-eq0.false) at (answer_has_numbers c.args.hop c.args.length c.args.reads)
