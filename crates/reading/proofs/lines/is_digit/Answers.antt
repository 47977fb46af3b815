-- The two tests of the definition, in its order.
use borrow.Author.Tests.{lt-leb, le-leb}
use Rattle.reading.specs.Lines.{is_digit}
use Rattle.reading.proofs.lines.is_digit.Goals as goal

pub returns-then-c-ge48 : goal.returns-then-c-ge48
unfolding is_digit
returns-then-c-ge48 c = simp (le-leb _ _ c.if-c-ge48.true)

pub returns-else-c-ge48 : goal.returns-else-c-ge48
unfolding is_digit
returns-else-c-ge48 c = simp (lt-leb _ _ c.if-c-ge48.false)
