-- The loop's invariant: the levels passed have one more.
use Prim.Native.Nat.{ℕ, ◌+◌, ◌≤◌, ◌<◌}
use mathlib.Core.Path.{◌≡◌}
use lib.ListN.{length, get_or}
use Rattle.walk.specs.Limits.{WIDTH}
use Rattle.choosers.specs.LevelCounts.{in_levels}
use Rattle.choosers.proofs.rows.add_levels.Given as goal

abbrev pub invariant-loop-j : goal.invariant-loop-j
invariant-loop-j l = (l.from ≤ l.j) × (l.j ≤ l.to) × (length l.counts ≡ WIDTH) × ((i : ℕ) → i < WIDTH → get_or l.counts i 0 ≡ get_or l.initial.counts i 0 + in_levels l.from l.j i)
