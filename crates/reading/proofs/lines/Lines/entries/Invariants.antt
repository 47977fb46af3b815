-- The text stays, the lists begin with the entries read so far, and the reading stands after them.
use Rattle.std.proofs.Common.{◌≡◌}
use Rattle.reading.specs.Lines.{spot_at}
use Rattle.reading.specs.Entries.{HoldsEntries}
use Rattle.reading.proofs.lines.Lines.entries.Given as goal

abbrev pub invariant-loop-i : goal.invariant-loop-i
invariant-loop-i l = record {
  text : l.self.text ≡ l.initial.self.text;
  holds : HoldsEntries l.initial.self.text.now (spot_at l.initial.self.at l.initial.self.line) l.i
      l.initial.bits l.initial.lengths l.initial.hops l.bits l.lengths l.hops (spot_at l.self.at l.self.line);
}
