-- What lent rows of supernodes hold, as lists; and that rows lent to write are still the same five lists.
use Rattle.walk.specs.Lent.{SameList}
use Rattle.visits.specs.Rows.{RowLists, row_lists}
use Rattle.visits.specs.declared.rows.Supernodes.{Supernodes}
use Rattle.visits.specs.declared.rows.SupernodesMut.{SupernodesMut}

abbrev pub lent : Supernodes → RowLists
lent rows = row_lists rows.internal.now rows.external.now rows.child.now rows.first.now

abbrev pub held : SupernodesMut → RowLists
held rows = row_lists rows.internal.now rows.external.now rows.child.now rows.first.now

pub record SameSupernodes (r r' : SupernodesMut) : Type 0 where
  pub internal : SameList r.internal r'.internal
  pub external : SameList r.external r'.external
  pub child : SameList r.child r'.child
  pub first : SameList r.first r'.first
  pub hops : SameList r.hops r'.hops
