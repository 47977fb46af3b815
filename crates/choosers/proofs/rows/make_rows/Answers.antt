use mathlib.Core.Path.{refl}
use native.Mathlib.Omega.{arith}
use Rattle.choosers.proofs.Making.{make_start, make_add, make_next, make_done}
use Rattle.choosers.proofs.rows.make_rows.Goals as goal

pub loop-i-init : goal.loop-i-init
loop-i-init c = (
  omega arith,
  refl,
  make_start c.args.width c.args.entries.value.now c.args.entries.length.now c.args.entries.hop.now c.args.rows.now c.args.counts.now c.requires.zeros
      c.requires.counts_long c.requires.no_counts,
)

pub add_counted-used-requires : goal.add_counted-used-requires
add_counted-used-requires c =
    let l = c.loop-i in
    rw c.mark_of-mark.ensures.value
    (make_add _ _ _ _ c.requires.prefixes l.rows l.counts l.i l.used
    (omega (arith, c.requires.room, l.invariant.1)) c.loop-i-test.true l.invariant.2)

pub loop-i-preserved : goal.loop-i-preserved
loop-i-preserved c =
    let l = c.loop-i in
    let A = c.add_counted-used in
    let added = rw c.mark_of-mark.ensures.value at A.ensures in (
      omega arith,
      omega (arith, A.auto),
      make_next _ _ _ _ c.requires.prefixes _ _ _ _ l.i _ _ l.invariant.2
          (rw c.mark_of-mark.ensures.value at c.mark_of-mark.ensures.small) added,
    )

pub returns : goal.returns
returns c =
    let l = c.loop-i in
    make_done _ _ _ _ c.requires.prefixes l.rows l.counts l.i l.used _ (omega arith) l.invariant.2
    c.root_link.ensures.some c.root_link.ensures.none
