use native.Mathlib.Omega.{arith}
use Rattle.table.specs.Table.{at}
use Rattle.table.specs.Longest.{matches}
use Rattle.rules.proofs.Standing.{last_few}
use Rattle.rules.proofs.laying.lay_source.Goals as goal

pub put_row-requires : goal.put_row-requires
put_row-requires c =
    let p = c.requires in
    let d = c.args.split.now.destinations in
    let few = last_few (matches c.args.split.now.width (at d.value.now) (at d.length.now) (at d.value.now c.args.g)) c.args.g in
    (p.in_bounds.1, omega (arith, p.in_bounds.2), omega (arith, few, c.nearest-next.ensures, p.in_bounds.0, p.can_split.few))
