use mathlib.Core.Path.{sym, ap, ◌∙◌}
use native.Mathlib.Omega.{arith}
use Rattle.table.proofs.Refusals.{handed_on}
use Rattle.walk.specs.Lent.{lent}
use Rattle.verdicts.specs.Cases.{Refused}
use Rattle.verdicts.specs.Classify.{onward}
use Rattle.verdicts.proofs.Sources.{through_none, through_spent, through_by, row_refused, row_taken, row_found, row_unfound, found_in, row_reads, row_few}
use Rattle.verdicts.proofs.tries.visit_tries.Goals as goal

pub returns-then-left-eq0 : goal.returns-then-left-eq0
returns-then-left-eq0 c = sym (through_spent _ _ _ _ _ _ _ _ _ c.loop-n-test.true c.if-left-eq0.true) ∙ c.loop-n.invariant.same

pub returns-in_err-row : goal.returns-in_err-row
unfolding onward
returns-in_err-row c =
    let t = c.args.tries in
    let p = row_refused t.elements t.width t.levels (lent t.rows) t.list.now t.source _ c.in_err-row.ensures in
    rw (handed_on _ c.from_residual.ensures.1)
    (ap Refused p.1 ∙ through_by _ _ _ _ _ _ _ _ _ c.loop-n-test.true c.if-left-eq0.false _ p.0 ∙ c.loop-n.invariant.same)

pub find-requires : goal.find-requires
find-requires c =
    let t = c.args.tries in (row_taken t.elements t.width t.levels (lent t.rows) t.list.now t.source _ c.in_ok-row.ensures).within

pub returns-in_err-found : goal.returns-in_err-found
unfolding onward
returns-in_err-found c =
    let t = c.args.tries in
    let p = row_unfound t.elements t.width t.levels (lent t.rows) t.list.now t.source _ c.in_ok-row.ensures t.can_visit _ c.in_err-found.ensures in
    rw (handed_on _ c.from_residual-in_err-found.ensures.1)
    (ap Refused p.1 ∙ through_by _ _ _ _ _ _ _ _ _ c.loop-n-test.true c.if-left-eq0.false _ p.0 ∙ c.loop-n.invariant.same)

pub overflow_add-so_far : goal.overflow_add-so_far
overflow_add-so_far c =
    let t = c.args.tries in
    let few = row_few t.elements t.width t.levels (lent t.rows) t.list.now t.source _ c.in_ok-row.ensures c.in_ok-found.found c.in_ok-found.ensures in
    record { fits = omega (arith, few, t.can_visit.levels.1, c.loop-n.invariant.reads) }

pub returns-in-Match : goal.returns-in-Match
unfolding onward
returns-in-Match c =
    let t = c.args.tries in
    let answer = found_in t.width t.levels (lent t.rows) t.source c.in_ok-row.row c.in_ok-found.found (rw c.in-Match.is at c.from.ensures) c.in_ok-found.ensures in
    let found = row_found t.elements t.width t.levels (lent t.rows) t.list.now t.source _ c.in_ok-row.ensures answer in
    rw (row_reads t.elements t.width t.levels (lent t.rows) t.list.now t.source _ c.in_ok-row.ensures c.in_ok-found.found answer c.in_ok-found.ensures)
    (through_by _ _ _ _ _ _ _ _ _ c.loop-n-test.true c.if-left-eq0.false _ found ∙ c.loop-n.invariant.same)

pub returns-in-Discard : goal.returns-in-Discard
unfolding onward
returns-in-Discard c =
    let t = c.args.tries in
    let answer = found_in t.width t.levels (lent t.rows) t.source c.in_ok-row.row c.in_ok-found.found (rw c.in-Discard.is at c.from.ensures) c.in_ok-found.ensures in
    let found = row_found t.elements t.width t.levels (lent t.rows) t.list.now t.source _ c.in_ok-row.ensures answer in
    rw (row_reads t.elements t.width t.levels (lent t.rows) t.list.now t.source _ c.in_ok-row.ensures c.in_ok-found.found answer c.in_ok-found.ensures)
    (through_by _ _ _ _ _ _ _ _ _ c.loop-n-test.true c.if-left-eq0.false _ found ∙ c.loop-n.invariant.same)

pub loop-n-preserved : goal.loop-n-preserved
unfolding onward
loop-n-preserved c =
    let t = c.args.tries in
    let l = c.loop-n in
    let answer = found_in t.width t.levels (lent t.rows) t.source c.in_ok-row.row c.in_ok-found.found (rw c.in-NoRoute.is at c.from.ensures) c.in_ok-found.ensures in
    let row = row_taken t.elements t.width t.levels (lent t.rows) t.list.now t.source _ c.in_ok-row.ensures in
    let found = row_found t.elements t.width t.levels (lent t.rows) t.list.now t.source _ c.in_ok-row.ensures answer in
    record {
      same = rw (row.same, row_reads t.elements t.width t.levels (lent t.rows) t.list.now t.source _ c.in_ok-row.ensures c.in_ok-found.found answer c.in_ok-found.ensures)
          (through_by t.elements t.width t.levels (lent t.rows) t.list.now t.source l.left l.n l.reads c.loop-n-test.true c.if-left-eq0.false _ found ∙ l.invariant.same);
      reads = omega (arith, row_few t.elements t.width t.levels (lent t.rows) t.list.now t.source _ c.in_ok-row.ensures c.in_ok-found.found c.in_ok-found.ensures, t.can_visit.levels.1, l.invariant.reads, c.if-left-eq0.false);
    }

pub returns : goal.returns
returns c = sym (through_none _ _ _ _ _ _ _ _ _ c.loop-n-test.false) ∙ c.loop-n.invariant.same
