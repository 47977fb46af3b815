-- The cases of the definition.
use borrow.Author.Tests.{eq-eqb, ne_eqb}
use Rattle.reading.specs.Lines.{unpadded}
use Rattle.reading.proofs.lines.is_unpadded.Goals as goal

pub returns-then-first-eq48 : goal.returns-then-first-eq48
unfolding unpadded
returns-then-first-eq48 c = simp (eq-eqb _ _ c.if-first-eq48.true)

pub returns : goal.returns
unfolding unpadded
returns c = simp (ne_eqb _ _ c.if-first-eq48.false)
