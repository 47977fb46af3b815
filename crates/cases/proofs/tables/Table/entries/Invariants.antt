-- The loop's invariant: what the rows from i on still write is what all the rows write, into the same lists.
use mathlib.Core.Path.{◌≡◌}
use Rattle.cases.specs.Lent.{SameTable}
use Rattle.cases.proofs.Filling.{RowsRead}
use Rattle.cases.proofs.tables.Table.entries.Given as goal

abbrev pub invariant-loop-i : goal.invariant-loop-i
invariant-loop-i l =
    record {
      text : l.text.bytes ≡ l.initial.text.bytes;
      same : SameTable l.initial.self l.self;
      rows : RowsRead l.text.bytes.now l.i-end l.initial.text.at l.initial.self.values.now l.initial.self.lengths.now l.initial.self.hops.now l.text.at l.i l.self.values.now l.self.lengths.now l.self.hops.now;
    }
