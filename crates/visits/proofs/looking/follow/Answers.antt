use mathlib.Core.Path.{refl, sym, ap, ◌∙◌}
use native.Mathlib.Omega.{arith}
use Rattle.walk.specs.Answers.{answer_numbers}
use Rattle.visits.proofs.Visiting.{better_within, visit_stops, visit_ends, visit_goes, visit_breaks}
use Rattle.visits.proofs.looking.follow.Goals as goal

pub found_by-requires : goal.found_by-requires
found_by-requires c = let l = c.loop-i in
    let p = c.path_at-p.ensures in
    let better = c.better-best.ensures _ (c.masks-table.ensures.each _ p.upper_bound) in
    let start = c.requires in
    (start.0, better_within _ _ _ _ _ better l.invariant.left l.invariant.best, start.2)

pub returns-then-not-is_set : goal.returns-then-not-is_set
returns-then-not-is_set c = let l = c.loop-i in
    let p = c.path_at-p.ensures in
    c.found_by.ensures
    ∙ ap answer_numbers
    (sym (visit_ends _ _ _ _ _ _ _ l.i l.left l.best l.reads refl c.loop-i-test.true p.value
    (c.better-best.ensures _ (c.masks-table.ensures.each _ p.upper_bound))
    c.is_set.ensures c.if-not-is_set.true)
    ∙ l.invariant.same)

pub returns-then-left-lt-STEP : goal.returns-then-left-lt-STEP
returns-then-left-lt-STEP c = let l = c.loop-i in
    let p = c.path_at-p.ensures in
    ap answer_numbers
    (sym (visit_breaks _ _ _ _ _ _ _ l.i l.left l.best l.reads refl c.loop-i-test.true p.value
    (c.better-best.ensures _ (c.masks-table.ensures.each _ p.upper_bound))
    c.is_set.ensures c.if-not-is_set.false (omega arith))
    ∙ l.invariant.same)

pub loop-i-preserved : goal.loop-i-preserved
loop-i-preserved c = let l = c.loop-i in
    let p = c.path_at-p.ensures in
    let test = c.loop-i-test in
    let mask = c.masks-table.ensures.each _ p.upper_bound in
    let better = c.better-best.ensures _ mask in record {
      left = omega (arith, l.invariant.left);
      reads = omega (arith, l.invariant.reads);
      best = better_within _ _ _ _ _ better l.invariant.left l.invariant.best;
      same = sym (visit_goes _ _ _ _ _ _ _ l.i l.left l.best l.reads refl test.true p.value better
          c.is_set.ensures c.if-not-is_set.false c.ones_before.ensures.value
          (omega arith))
          ∙ l.invariant.same;
    }

pub returns : goal.returns
returns c = let l = c.loop-i in
    ap answer_numbers (sym (visit_stops _ _ _ _ _ _ _ l.i l.left l.best l.reads c.loop-i-test.false) ∙ l.invariant.same)
