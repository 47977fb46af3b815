-- The loop's invariant: the last one below j that begins g is the last one below g.
use mathlib.Core.Path.{◌≡◌}
use Rattle.table.specs.Table.{at}
use Rattle.table.specs.Longest.{matches}
use Rattle.fields.specs.Runs.{last_before}
use Rattle.rules.proofs.linking.nearest.Given as goal

abbrev pub invariant-loop-j : goal.invariant-loop-j
invariant-loop-j l =
    let begins = matches l.width (at l.vals) (at l.lens) (at l.vals l.g) in last_before begins l.g ≡ last_before begins l.j
