use Prim.Native.Nat.{ℕ, ◌+◌, ◌*◌, ◌%◌, ◌-◌}
use mathlib.Core.Path.{◌≡◌, refl, subst, ◌∙◌}
use native.Mathlib.Nat.{mod-eq_of_lt}
use native.Mathlib.Omega.{arith}
use lib.ListN.{get_or, length-set}
use Rattle.walk.specs.Limits.{LEVELS}
use Rattle.choosers.specs.Limits.{BYTE}
use Rattle.choosers.specs.FixedChoice.{ListRead}
use Rattle.choosers.proofs.FixedChoice.{pick_within, reading_start, reading_next, reading_done}
use Rattle.choosers.proofs.fixed.read_list.Goals as goal

pub loop-p-init : goal.loop-p-init
loop-p-init c = (omega arith, omega arith, refl, λ nodes f. reading_start nodes c.args.levels c.args.depth c.requires.0)

pub overflow_add-i : goal.overflow_add-i
overflow_add-i c =
    let l = c.loop-p in
    let N = c.requires.4 in
    let e = N.1 l.i (c.args.levels - 1 - l.p) l.invariant.0 (omega arith) in
    let w = pick_within N.0 (c.args.levels - 1 - l.p) l.i (c.args.depth - l.i) in
    omega arith

pub loop-p-preserved : goal.loop-p-preserved
loop-p-preserved c =
    let l = c.loop-p in
    let N = c.requires.4 in
    let e = N.1 l.i (c.args.levels - 1 - l.p) l.invariant.0 (omega arith) in
    let w = pick_within N.0 (c.args.levels - 1 - l.p) l.i (c.args.depth - l.i) in
    let d : get_or c.args.strides.now (l.i * LEVELS + (c.args.levels - 1 - l.p)) 0 % BYTE ≡ get_or c.args.strides.now (l.i * LEVELS + (c.args.levels - 1 - l.p)) 0 = mod-eq_of_lt
    (omega arith) in (
      omega arith,
      omega arith,
      length-set l.list l.p _ ∙ l.invariant.2,
      λ nodes f. rw d
          (reading_next nodes c.args.levels c.args.depth l.i l.p _ l.list (omega arith) (omega (arith, l.invariant.2)) (l.invariant.3 nodes f)
          (f l.i (c.args.levels - 1 - l.p) l.invariant.0 (omega arith))),
    )

pub returns : goal.returns
returns c =
    let l = c.loop-p in
    let e : l.p ≡ c.args.levels = omega arith in
    λ nodes f. reading_done nodes c.args.levels c.args.depth l.i l.list c.requires.1 l.invariant.2
    (subst (λ (x : ℕ). ListRead nodes c.args.levels c.args.depth l.i x l.list) e (l.invariant.3 nodes f))
