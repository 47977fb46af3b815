use Rattle.std.proofs.Common.{arith, append_assoc}
use Rattle.std.proofs.lemmas.Grind.{common_steps}
use Rattle.sheet.specs.Keys.{elements_key}
use Rattle.sheet.specs.Printing.{head_lines}
use Rattle.sheet.proofs.Writing.{length_refusal, length_line}
use Rattle.sheet.proofs.printing.put_head.Goals as goal

pub returns : goal.returns
unfolding head_lines
returns c = grind (arith, common_steps, append_assoc)

pub put_line-requires : goal.put_line-requires
put_line-requires c = let d = length_refusal 0 0 in grind (arith, common_steps, d)

pub put_line-requires-2 : goal.put_line-requires-2
put_line-requires-2 c = let d = length_refusal 0 0 in let e = length_line elements_key c.args.elements in grind (arith, common_steps, d, e)
