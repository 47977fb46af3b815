-- The loop's invariant: the places passed are read, and the levels from i on are left.
use Prim.Native.Nat.{ℕ, ◌≤◌}
use mathlib.Core.Path.{◌≡◌}
use lib.ListN.{length}
use Rattle.walk.specs.Limits.{LEVELS}
use Rattle.choosers.specs.FixedChoice.{StridesFilled, ListRead}
use Rattle.choosers.proofs.fixed.read_list.Given as goal

abbrev pub invariant-loop-p : goal.invariant-loop-p
invariant-loop-p l = (l.i ≤ l.depth) × (l.p ≤ l.levels) × (length l.list ≡ LEVELS)
    × ((nodes : ℕ → ℕ) → StridesFilled nodes l.levels l.depth l.strides → ListRead nodes l.levels l.depth l.i l.p l.list)
