-- What lent element rows hold, as lists; and that rows lent to write are still the same four lists.
use Rattle.std.specs.Prelude.{◌≡◌, List, ℕ, length}
use Rattle.std.specs.Borrow.{MutBor}
use Rattle.walk.specs.Rows.{Lists, lists}
use Rattle.walk.specs.declared.rows.Rows.{Rows}
use Rattle.walk.specs.declared.rows.RowsMut.{RowsMut}

abbrev pub lent : Rows → Lists
lent rows = record { hop = rows.hop.now; len = rows.length.now; link = rows.link.now; stride = rows.stride.now }

abbrev pub held : RowsMut → Lists
held r = lists r.hop.now r.length.now r.link.now r.stride.now

-- the same lent list, as long as before
pub record SameList (x y : MutBor (List ℕ)) : Type 0 where
  pub name : y.ghost_name ≡ x.ghost_name
  pub long : length y.now ≡ length x.now

pub record SameLists (r r' : RowsMut) : Type 0 where
  pub hop : SameList r.hop r'.hop
  pub length : SameList r.length r'.length
  pub link : SameList r.link r'.link
  pub stride : SameList r.stride r'.stride
