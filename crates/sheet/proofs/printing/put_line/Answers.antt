use Rattle.std.proofs.Common.{arith, length, append_assoc, ◌≤◌}
use Rattle.std.proofs.lemmas.Grind.{common_steps}
use Rattle.reading.specs.Limits.{decimal_digits}
use Rattle.reading.specs.Numerals.{line_of, decimal}
use Rattle.sheet.proofs.Writing.{length_decimal}
use Rattle.sheet.proofs.printing.put_line.Goals as goal

pub push-requires : goal.push-requires
push-requires c = let d : length (decimal c.args.n) ≤ decimal_digits = length_decimal c.args.n in grind (arith, common_steps, d)

pub returns : goal.returns
unfolding line_of
returns c = grind (arith, common_steps, append_assoc)
