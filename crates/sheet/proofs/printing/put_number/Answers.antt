use Rattle.std.proofs.Common.{◌≡◌, ◌∙◌, ◌++◌, ap, arith}
use Rattle.reading.proofs.Numerals.{fewest_decimal}
use Rattle.reading.specs.Numerals.{decimal}
use Rattle.sheet.proofs.Writing.{fewest_few}
use Rattle.sheet.proofs.printing.put_number.Goals as goal

pub returns : goal.returns
returns c =
    let d = c.decimal-k.ensures in
    let e : _ ≡ decimal c.args.n = d.digits ∙ fewest_decimal _ _ d.len (fewest_few _ _ (omega arith) d.len) in
    c.put.ensures ∙ ap (λ x. c.args.page.now.items ++ x) e
