use Prim.Native.Nat.{ℕ, ◌+◌, ◌-◌}
use mathlib.Core.Path.{◌≡◌, ◌∙◌, sym, ap}
use native.Mathlib.Omega.{arith}
use Rattle.walk.specs.Rows.{row_at, row_of}
use Rattle.walk.specs.Lent.{lent}
use Rattle.walk.specs.Answers.{new_best, answer_numbers}
use Rattle.walk.specs.Meaning.{Readable, Damaged, no_stride, too_wide, past_end}
use Rattle.walk.proofs.Walks.{walk_stops, walk_spends, walk_ends, walk_goes}
use Rattle.walk.proofs.walk.follow.Goals as goal
use Rattle.walk.proofs.walk.follow.Goals.{then-s-eq0-via-then-s-eq0, then-s-eq0-via-else-s-eq0+then-left-s}

pub returns-then-s-eq0 : goal.returns-then-s-eq0
returns-then-s-eq0 c =
    let d : Damaged c.args.rec.elements c.args.address c.loop-read.base c.loop-read.s c.loop-read.left = elim c.then-s-eq0.branch [
      | then-s-eq0-via-then-s-eq0 w ↦ no_stride w.if-s-eq0.true
      | then-s-eq0-via-else-s-eq0+then-left-s w ↦ too_wide w.if-left-s.true
    ] in
    ap answer_numbers (sym (walk_stops _ _ _ _ _ _ _ _ _ d) ∙ c.loop-read.invariant.same)

pub returns-then-elements-row : goal.returns-then-elements-row
unfolding row_of
returns-then-elements-row c =
    ap answer_numbers (sym (walk_stops _ _ _ _ _ _ _ _ _ (past_end (rw c.cut.ensures at c.if-elements-row.true))) ∙ c.loop-read.invariant.same)

pub returns-then-next-eq0 : goal.returns-then-next-eq0
unfolding row_of new_best
returns-then-next-eq0 c =
    let l = c.loop-read in
    let row_is : l.base + c.cut.result ≡ row_of c.args.address l.base l.s l.left = ap (λ (x : ℕ). l.base + x) c.cut.ensures in
    let can_read : Readable c.args.rec.elements c.args.address l.base l.s l.left =
    record { stride = omega arith; fits = c.if-left-s.false; within = rw row_is at c.if-elements-row.false } in
    c.unpacked.ensures ∙ ap answer_numbers
    (sym (walk_ends _ _ (row_at (lent c.args.rows)) _ _ _ _ _ _ {j = c.args.rec.levels - (l.read + 1)} (omega arith) can_read row_is
    c.packed_after-best.ensures.best c.if-next-eq0.true) ∙ l.invariant.same)

pub loop-read-preserved : goal.loop-read-preserved
unfolding row_of new_best
loop-read-preserved c =
    let l = c.loop-read in
    let row_is : l.base + c.cut.result ≡ row_of c.args.address l.base l.s l.left = ap (λ (x : ℕ). l.base + x) c.cut.ensures in
    let can_read : Readable c.args.rec.elements c.args.address l.base l.s l.left =
    record { stride = omega arith; fits = c.if-left-s.false; within = rw row_is at c.if-elements-row.false } in
    record {
      left = omega arith;
      base = omega (arith, c.type_inv.link (l.base + c.cut.result));
      best = c.packed_after-best.ensures.packed;
      same = rw c.from-s-in-loop-read.ensures (sym (walk_goes _ _ (row_at (lent c.args.rows)) _ _ _ _ _ _ (omega arith) can_read row_is
          c.packed_after-best.ensures.best c.if-next-eq0.false) ∙ l.invariant.same);
    }

pub returns : goal.returns
returns c = ap answer_numbers (sym (walk_spends _ _ _ _ _ _ _ _ _ (omega arith)) ∙ c.loop-read.invariant.same)
