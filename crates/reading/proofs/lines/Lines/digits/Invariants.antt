-- So many digits were read as count says, and value is the number that they spell.
use Rattle.reading.proofs.Digits.{DigitsBegun}
use Rattle.reading.proofs.lines.Lines.digits.Given as goal

abbrev pub invariant-loop-count : goal.invariant-loop-count
invariant-loop-count l = DigitsBegun l.base l.most l.self.text.now l.p l.count l.value
