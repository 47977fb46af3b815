use Rattle.std.proofs.Common.{◌≡◌, arith, length, append_assoc}
use Rattle.std.proofs.lemmas.Grind.{common_steps}
use Rattle.reading.specs.Numerals.{binary, bits_line_of}
use Rattle.sheet.proofs.Writing.{length_binary}
use Rattle.sheet.proofs.printing.put_address.Goals as goal

pub push-requires : goal.push-requires
push-requires c = let d : length (binary c.args.n c.args.v) ≡ c.args.n = length_binary c.args.n c.args.v in grind (arith, common_steps, d)

pub returns : goal.returns
unfolding bits_line_of
returns c = grind (arith, common_steps, append_assoc)
