use lib.ListN.{drop}
use Rattle.cases.proofs.Spelling.{letters_stand, letters_all}
use Rattle.cases.proofs.text.Text.word.Goals as goal

pub returns-clause-stands : goal.returns-clause-stands
returns-clause-stands c = rw c.span.ensures (letters_stand (drop c.args.self.now.at c.args.self.now.bytes.now))

pub returns-clause-letters : goal.returns-clause-letters
returns-clause-letters c = letters_all (drop c.args.self.now.at c.args.self.now.bytes.now) c.span.ensures
