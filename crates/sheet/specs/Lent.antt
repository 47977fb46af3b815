-- What is known of the queries that are lent on, and of the build over what the program lends.
use Rattle.std.specs.Prelude.{◌≡◌, List, ℕ, ◌*◌, ◌^◌, ◌≤◌, ◌<◌, length}
use Rattle.table.specs.Table.{at}
use Rattle.table.specs.Refusals.{Outcome}
use Rattle.walk.specs.Rows.{Lists}
use Rattle.walk.specs.declared.record.Record.{Record}
use Rattle.tries.specs.Build.{BuildIs}
use Rattle.choosers.specs.Kinds.{kind_of}
use Rattle.choosers.specs.Scratch.{ROW}
use Rattle.reading.specs.Limits.{COUNT, BITS}
use Rattle.reading.specs.Sheet.{Sheet}
use Rattle.sheet.specs.Limits.{lent_rows}
use Rattle.sheet.specs.Values.{values_of}

-- queries: an address and its count of digits each, which spell it
pub record LentQueries (xs ds : List ℕ) : Type 0 where
  pub counts : length xs ≡ length ds
  pub few : length ds ≤ COUNT
  pub short : (i : ℕ) → i < length ds → at ds i ≤ BITS
  pub spelled : (i : ℕ) → i < length ds → at xs i < 2 ^ at ds i

-- the table of a sheet's entries was built, over scratch of lent_rows rows
pub record SheetBuilt (sh : Sheet) (lent : Lists) (out : Outcome) (rec : Record) (rows : Lists) : Type 0 where
  pub scratch : List ℕ
  pub scratch' : List ℕ
  pub words : length scratch ≡ lent_rows * ROW
  pub build : BuildIs (kind_of sh.kind) sh.width sh.levels sh.links (values_of sh.width sh.bits sh.lengths) sh.lengths sh.hops
      scratch lent out rec scratch' rows
