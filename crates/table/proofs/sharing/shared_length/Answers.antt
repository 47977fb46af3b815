use Rattle.std.proofs.Common.{rules}
use Rattle.table.specs.Refusals.{outcome, answer_with}
use Rattle.table.specs.Answers.{shared_of, shared_tests}
use Rattle.table.proofs.Means.{shared_gives}
use Rattle.table.proofs.sharing.shared_length.Goals as goal

pub returns-then-is_outside-clause-meaning : goal.returns-then-is_outside-clause-meaning
unfolding shared_of shared_tests answer_with outcome
returns-then-is_outside-clause-meaning c = shared_gives _ _ _ _ _ (search rules)

pub returns-then-prefix_bad-clause-meaning : goal.returns-then-prefix_bad-clause-meaning
unfolding shared_of shared_tests answer_with outcome
returns-then-prefix_bad-clause-meaning c = shared_gives _ _ _ _ _ (search rules)

pub returns-clause-meaning : goal.returns-clause-meaning
unfolding shared_of shared_tests answer_with outcome
returns-clause-meaning c = shared_gives _ _ _ _ _ (search rules)
