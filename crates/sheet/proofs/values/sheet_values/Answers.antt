use mathlib.Core.Path.{◌≡◌, sym, ◌∙◌}
use Prim.Native.Nat.{◌<◌}
use native.Mathlib.Omega.{arith}
use lib.ListN.{length}
use Rattle.reading.specs.Contents.{sheet_in}
use Rattle.table.proofs.Lists.{filled_to_none}
use Rattle.sheet.proofs.Placing.{placed_more, placed_all, entry_spelled}
use Rattle.sheet.proofs.values.sheet_values.Goals as goal

pub loop-i-init : goal.loop-i-init
loop-i-init c = filled_to_none _ _

pub placed-requires : goal.placed-requires
placed-requires c =
    rw (c.loop-i.invariant.rest c.loop-i.i (omega arith)) (entry_spelled _ c.requires c.loop-i.i (omega arith))

pub loop-i-preserved : goal.loop-i-preserved
loop-i-preserved c =
    let r = c.args.sheet.now in
    let inside : c.loop-i.i < length c.loop-i.values = omega (arith, c.loop-i.invariant.same, c.requires.bits, c.requires.entries_few) in
    placed_more r.width r.bits r.lengths _ c.loop-i.i inside c.placed.ensures c.loop-i.invariant

pub returns : goal.returns
unfolding sheet_in
returns c =
    let e : c.loop-i.i ≡ c.args.sheet.now.entries = omega arith in (
      sym (c.loop-i.invariant.same ∙ c.requires.bits),
      placed_all _ _ _ _ _ (omega (arith, c.requires.bits, c.requires.entries_few)) (rw e at c.loop-i.invariant),
    )
