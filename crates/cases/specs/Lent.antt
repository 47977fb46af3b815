-- The lists lent for a table and for element rows are still the same lists of the caller's after a call that writes them, so that what it
-- wrote stands in these when they are no longer lent.
use Rattle.std.specs.Prelude.{◌≡◌, List, ℕ, length}
use Rattle.std.specs.Borrow.{MutBor}
use Rattle.cases.specs.declared.tables.Table.{Table}
use Rattle.cases.specs.declared.elements.ElementRows.{ElementRows}

-- the same lent list, as long as before
pub record SameList (x y : MutBor (List ℕ)) : Type 0 where
  pub name : y.ghost_name ≡ x.ghost_name
  pub long : length y.now ≡ length x.now

pub record SameTable (t t' : Table) : Type 0 where
  pub values : SameList t.values t'.values
  pub lengths : SameList t.lengths t'.lengths
  pub hops : SameList t.hops t'.hops

pub record SameRows (r r' : ElementRows) : Type 0 where
  pub hops : SameList r.hops r'.hops
  pub lengths : SameList r.lengths r'.lengths
  pub links : SameList r.links r'.links
  pub strides : SameList r.strides r'.strides
