use Rattle.choosers.proofs.Making.{levels_in, counted_out}
use Rattle.choosers.proofs.rows.add_counted.Goals as goal

pub overflow_sub-grown : goal.overflow_sub-grown
overflow_sub-grown c =
    let A = c.add-grown in
    (levels_in _ _ _ _ _ _ _ c.requires A.result A.new.rows A.ensures).0

pub overflow_sub-l : goal.overflow_sub-l
overflow_sub-l c =
    let A = c.add-grown in
    (levels_in _ _ _ _ _ _ _ c.requires A.result A.new.rows A.ensures).1

pub returns : goal.returns
returns c =
    let A = c.add-grown in
    counted_out c.args.rows.now c.args.counts.now c.args.used c.args.width c.args.v c.args.l c.args.h A.result A.new.rows _ A.ensures
    c.add_levels.ensures
