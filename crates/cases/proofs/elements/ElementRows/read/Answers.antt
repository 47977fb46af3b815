use mathlib.Core.Path.{refl}
use Rattle.cases.proofs.ElementLists.{elements_start, elements_on}
use Rattle.cases.proofs.elements.ElementRows.read.Goals as goal

pub loop-i-init : goal.loop-i-init
loop-i-init c =
    record {
      text = refl;
      lent = refl;
      same =
          record {
            hops = record { name = refl; long = refl };
            lengths = record { name = refl; long = refl };
            links = record { name = refl; long = refl };
            strides = record { name = refl; long = refl };
          };
      rows = elements_start _ _ _ _ _ _ _;
    }

pub loop-i-preserved : goal.loop-i-preserved
loop-i-preserved c =
    let v = c.loop-i.invariant in
    let on =
    elements_on v.rows c.loop-i-test.true c.held.ensures.value
    (rw c.held.ensures.next at c.held-in-loop-i.ensures.value)
    (rw (c.held-in-loop-i.ensures.next, c.held.ensures.next) at c.held-in-loop-i-2.ensures.value)
    (rw (c.held-in-loop-i-2.ensures.next, c.held-in-loop-i.ensures.next, c.held.ensures.next) at c.held-in-loop-i-3.ensures.value)
    refl in
    rw (c.held-in-loop-i-3.ensures.next, c.held-in-loop-i-2.ensures.next, c.held-in-loop-i.ensures.next, c.held.ensures.next)
    record {
      text = v.text;
      lent = v.lent;
      same =
          record {
            hops = record { name = v.same.hops.name; long = on.length_hops };
            lengths = record { name = v.same.lengths.name; long = on.length_lengths };
            links = record { name = v.same.links.name; long = on.length_links };
            strides = record { name = v.same.strides.name; long = on.length_strides };
          };
      rows = on;
    }
