use native.Mathlib.Omega.{arith}
use Rattle.strides.specs.Trie.{bit}
use Rattle.choosers.proofs.Inserting.{in_fits, last_out, down_in, down_out, raised_up, raised_in, raised_out}
use Rattle.choosers.proofs.rows.+insert.Goals as goal

pub raise-requires : goal.raise-requires
raise-requires t c = (in_fits _ _ _ _ _ c.requires).0

pub put-requires : goal.put-requires
unfolding bit
put-requires t c =
    let f = in_fits _ _ _ _ _ c.requires in
    omega (arith, c.raise.auto)

pub down-y-requires : goal.down-y-requires
unfolding bit
down-y-requires t c =
    let f = in_fits _ _ _ _ _ c.requires in
    omega (arith, c.raise.auto)

pub grown-requires : goal.grown-requires
grown-requires t c =
    let f = in_fits _ _ _ _ _ c.requires in
    omega arith

pub insert-requires : goal.insert-requires
unfolding bit
insert-requires t c =
    let R = c.raise in
    let D = c.down-y in
    let g = raised_in _ _ _ _ _ c.requires R.new.rows R.ensures in
    let up = raised_up _ _ _ _ _ c.requires R.new.rows R.ensures in (
      omega arith,
      down_in R.new.rows c.args.x c.args.used c.args.v c.args.n g up c.if-n-eq0.false D.new.rows D.result c.grown.result D.ensures c.grown.ensures
          (omega (arith, D.auto)),
    )

pub returns-then-n-eq0 : goal.returns-then-n-eq0
unfolding bit
returns-then-n-eq0 t c =
    let R = c.raise in
    let P = c.put in
    let g = raised_in _ _ _ _ _ c.requires R.new.rows R.ensures in
    let up = raised_up _ _ _ _ _ c.requires R.new.rows R.ensures in
    raised_out _ _ _ _ _ c.requires R.new.rows R.ensures c.args.h c.args.used P.new.rows
    (last_out R.new.rows c.args.x c.args.used c.args.v c.args.n g c.args.h P.new.rows up c.if-n-eq0.true P.ensures)

pub returns-else-n-eq0 : goal.returns-else-n-eq0
unfolding bit
returns-else-n-eq0 t c =
    let R = c.raise in
    let D = c.down-y in
    let G = c.grown in
    let I = c.insert in
    let g = raised_in _ _ _ _ _ c.requires R.new.rows R.ensures in
    let up = raised_up _ _ _ _ _ c.requires R.new.rows R.ensures in
    raised_out _ _ _ _ _ c.requires R.new.rows R.ensures c.args.h I.result I.new.rows
    (down_out R.new.rows c.args.x c.args.used c.args.v c.args.n g up c.if-n-eq0.false D.new.rows D.result
    G.result D.ensures G.ensures c.args.h
    I.new.rows I.result I.ensures)
