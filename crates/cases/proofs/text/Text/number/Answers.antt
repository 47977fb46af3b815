use mathlib.Core.Path.{◌≡◌, ap}
use Rattle.std.specs.List.{fold}
use Rattle.std.proofs.Common.{rules}
use Rattle.cases.specs.Numerals.{Numeral, more}
use Rattle.cases.proofs.Reading.{number_whole, digits_there}
use Rattle.cases.proofs.text.Text.number.Goals as goal

pub returns-clause-value : goal.returns-clause-value
returns-clause-value c =
    let v : c.fold.result ≡ fold more 0 c.span-digits.result.now = search rules in
    ap (λ (n : Numeral). n.value) (number_whole c.args.self.now.bytes.now c.args.self.now.at v (digits_there c.seek.ensures c.span-digits.ensures))

pub returns-clause-next : goal.returns-clause-next
returns-clause-next c =
    let v : c.fold.result ≡ fold more 0 c.span-digits.result.now = search rules in
    let n = number_whole c.args.self.now.bytes.now c.args.self.now.at v (digits_there c.seek.ensures c.span-digits.ensures) in
    λ i. record { bytes = (c.seek.ensures i).bytes; at = (n i).next }
