-- The loop's invariant: the rows hold the tree of the entries passed, and the counts its nodes.
use Prim.Native.Nat.{◌≤◌}
use mathlib.Core.Path.{◌≡◌}
use lib.ListN.{length}
use Rattle.choosers.proofs.Making.{Made}
use Rattle.choosers.proofs.rows.make_rows.Given as goal

abbrev pub invariant-loop-i : goal.invariant-loop-i
invariant-loop-i l = (l.i ≤ length l.value) × (length l.rows ≡ length l.initial.rows) × Made l.width l.fn.entries.value.now l.fn.entries.length.now l.fn.entries.hop.now l.i l.used l.rows l.counts
