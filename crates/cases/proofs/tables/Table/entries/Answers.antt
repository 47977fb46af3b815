use mathlib.Core.Path.{◌≡◌, refl, ap, ◌∙◌}
use native.Mathlib.Omega.{arith}
use Rattle.cases.specs.declared.text.Text.{Text}
use Rattle.cases.proofs.Filling.{rows_read_on, rows_read_all}
use Rattle.cases.proofs.tables.Table.entries.Goals as goal

pub loop-i-preserved : goal.loop-i-preserved
loop-i-preserved c =
    let v = c.loop-i.invariant in
    let on =
    rows_read_on v.rows c.loop-i-test.true c.held.ensures.value
    (rw c.held.ensures.next at c.held-in-loop-i.ensures.value)
    (rw (c.held-in-loop-i.ensures.next, c.held.ensures.next) at c.held-in-loop-i-2.ensures.value)
    refl in
    rw (c.held-in-loop-i-2.ensures.next, c.held-in-loop-i.ensures.next, c.held.ensures.next)
    record {
      text = v.text;
      same =
          record {
            values = record { name = v.same.values.name; long = on.first };
            lengths = record { name = v.same.lengths.name; long = on.second };
            hops = record { name = v.same.hops.name; long = on.third };
          };
      rows = on;
    }

pub returns-clause-lists : goal.returns-clause-lists
returns-clause-lists c =
    let v = c.loop-i.invariant in
    let e : c.loop-i.text.bytes ≡ c.args.text.now.bytes = v.text ∙ ap (λ (t : Text). t.bytes) c.number-count.ensures.next in
    rows_read_all (rw (e, c.number-count.ensures.next) at v.rows) c.loop-i-test.false (omega (arith, c.number-count.ensures.value))
