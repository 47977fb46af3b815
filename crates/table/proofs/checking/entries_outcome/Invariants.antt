-- The loop's invariant: the entries from i on decide what all entries decide.
use Prim.Native.Nat.{◌-◌}
use mathlib.Core.Path.{◌≡◌}
use lib.ListN.{length}
use Rattle.table.specs.Entry.{hop_refused}
use Rattle.table.specs.Refusals.{outcome}
use Rattle.table.specs.Table.{at, entry_tests}
use Rattle.table.proofs.checking.entries_outcome.Given as goal

abbrev pub invariant-loop-i : goal.invariant-loop-i
invariant-loop-i l = let e = l.entries in
    let tests = entry_tests (hop_refused l.links) l.width (at e.value.now) (at e.length.now) (at e.hop.now) in
    outcome (tests 0 (length e.value.now)) ≡ outcome (tests l.i (length e.value.now - l.i))
