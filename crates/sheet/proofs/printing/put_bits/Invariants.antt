use Rattle.std.proofs.Common.{◌≡◌, ◌++◌, ◌-◌, ◌/◌, ◌^◌, ◌≤◌}
use Rattle.reading.specs.Numerals.{binary}
use Rattle.sheet.proofs.printing.put_bits.Given as goal

abbrev pub invariant-loop-i : goal.invariant-loop-i
invariant-loop-i l = (l.i ≤ l.n) × (l.page.items ≡ l.initial.page.items ++ binary (l.n - l.i) (l.v / 2 ^ l.i))
