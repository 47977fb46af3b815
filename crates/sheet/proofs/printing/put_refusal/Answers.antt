use Rattle.std.proofs.Common.{arith, length, append_assoc, ◌≤◌}
use Rattle.std.proofs.lemmas.Grind.{common_steps}
use Rattle.reading.specs.Limits.{decimal_digits}
use Rattle.reading.specs.Numerals.{line_of, decimal}
use Rattle.sheet.specs.Printing.{refusal_lines}
use Rattle.sheet.proofs.Writing.{length_decimal}
use Rattle.sheet.proofs.printing.put_refusal.Goals as goal

pub put_line-requires-2 : goal.put_line-requires-2
unfolding line_of
put_line-requires-2 c = let d : length (decimal c.args.number) ≤ decimal_digits = length_decimal c.args.number in grind (arith, common_steps, d)

pub returns : goal.returns
unfolding refusal_lines
returns c = grind (arith, common_steps, append_assoc)
