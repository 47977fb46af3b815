-- Each turn reads a byte at least, so the loop ends.
use Rattle.std.proofs.Common.{length, take, ◌-◌, ◌≡◌, ◌≤◌}
use Rattle.std.specs.Io.KnownBytes.{Consumes}
use Rattle.tablet.proofs.read_text.Given as goal

abbrev pub invariant-loop-n : goal.invariant-loop-n
invariant-loop-n g l = (length l.page ≡ length l.initial.page) × (l.n ≤ length l.page)
    × Consumes (g.R.Read.remaining l.initial.input) (g.R.Read.remaining l.input) (take l.n l.page)

abbrev pub decreases-loop-n : goal.decreases-loop-n
decreases-loop-n g l = length l.page - l.n
