-- The text stays, the lists begin with the queries read so far, and the reading stands after them.
use Rattle.std.proofs.Common.{◌≡◌}
use Rattle.reading.specs.Lines.{spot_at}
use Rattle.reading.specs.Entries.{HoldsQueries}
use Rattle.reading.proofs.lines.Lines.queries.Given as goal

abbrev pub invariant-loop-i : goal.invariant-loop-i
invariant-loop-i l = record {
  text : l.self.text ≡ l.initial.self.text;
  holds : HoldsQueries l.initial.self.text.now (spot_at l.initial.self.at l.initial.self.line) l.i
      l.initial.addresses l.initial.places l.addresses l.places (spot_at l.self.at l.self.line);
}
