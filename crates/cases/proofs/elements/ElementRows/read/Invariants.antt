-- The loop's invariant: the rows passed are written into the same lists, and the place of the next is known.
use mathlib.Core.Path.{◌≡◌}
use Rattle.cases.specs.Lent.{SameRows}
use Rattle.cases.proofs.ElementLists.{ElementsSoFar}
use Rattle.cases.proofs.elements.ElementRows.read.Given as goal

abbrev pub invariant-loop-i : goal.invariant-loop-i
invariant-loop-i l =
    record {
      text : l.text.bytes ≡ l.initial.text.bytes;
      lent : l.self.lent ≡ l.initial.self.lent;
      same : SameRows l.initial.self l.self;
      rows : ElementsSoFar l.text.bytes.now l.i-end l.initial.text.at l.initial.self.hops.now l.initial.self.lengths.now l.initial.self.links.now l.initial.self.strides.now l.text.at l.i l.self.hops.now l.self.lengths.now l.self.links.now l.self.strides.now;
    }
