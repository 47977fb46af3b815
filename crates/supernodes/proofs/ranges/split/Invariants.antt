use Prim.Native.Nat.{ℕ, ◌/◌, ◌%◌, ◌^◌, ◌≤◌, ◌<◌}
use mathlib.Core.Path.{◌≡◌}
use Rattle.table.specs.Table.{at}
use Rattle.supernodes.proofs.ranges.split.Given as goal

abbrev pub invariant-loop-i : goal.invariant-loop-i
invariant-loop-i l = (l.from ≤ l.i) × (l.i ≤ l.to) × ((j : ℕ) → l.from ≤ j → j < l.i → at l.vals j / 2 ^ l.n % 2 ≡ 0)
