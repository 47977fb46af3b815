use Rattle.table.specs.Prefix.{start}
use Rattle.choosers.proofs.Making.{add_in}
use Rattle.choosers.proofs.rows.add.Goals as goal

pub insert-requires : goal.insert-requires
unfolding start
insert-requires c =
    rw c.opened.ensures (add_in _ _ _ _ _ _ c.requires c.if-l-eq0.false)
