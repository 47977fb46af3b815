-- The entries' values, then the build over scratch of the size that is lent. (The level and the type are written out: without them the
-- check would unfold the whole scratch.)
use Prim.Native.Nat.{ℕ, ◌*◌}
use lib.ListN.{length-replicate}
use Rattle.choosers.specs.Scratch.{ROW}
use Rattle.sheet.specs.Limits.{lent_rows}
use Rattle.sheet.proofs.Solutions.{sheet_built}
use Rattle.sheet.proofs.solving.build_sheet.Goals as goal

pub returns-clause-built : goal.returns-clause-built
returns-clause-built c =
    sheet_built _ _ (length-replicate {0} {A = ℕ} (lent_rows * ROW) 0) c.sheet_values.ensures.1 c.build.ensures.exact
