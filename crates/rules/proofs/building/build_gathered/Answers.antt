use Prim.Native.Nat.{◌+◌}
use mathlib.Core.Path.{◌≡◌}
use native.Mathlib.Omega.{arith}
use lib.ListN.{length}
use Rattle.std.proofs.Common.{rules as tricks}
use Rattle.fields.specs.Limits.{rule_limit}
use Rattle.fields.specs.Lent.{lent}
use Rattle.rules.proofs.Whole.{checked_good, gathered_can, gathered_built}
use Rattle.rules.proofs.building.build_gathered.Goals as goal

pub gather-m-requires : goal.gather-m-requires
gather-m-requires c =
    let g = checked_good c.args.width c.args.links (lent c.args.rules) c.requires.accepted in
    record {
      dlens_len = (g.lengths.dlengths, g.few, omega (arith, g.few));
      dvals_in_bounds = (g.few, g.few, g.few);
    }

pub build_split-requires : goal.build_split-requires
build_split-requires c =
    let long : length c.gather-m.new.first ≡ rule_limit + 1 = omega (arith, c.gather-m.auto) in
    gathered_can c.args.width c.args.links (lent c.args.rules) c.requires.accepted c.args.levels c.requires.levels c.gather-m.ensures long

pub returns : goal.returns
returns c =
    let long : length c.gather-m.new.first ≡ rule_limit + 1 = omega (arith, c.gather-m.auto) in
    record {
      same = search tricks;
      exact = gathered_built c.args.width c.args.links (lent c.args.rules) c.requires.accepted c.args.levels c.requires.levels c.gather-m.ensures long
          c.build_split.ensures.built;
    }
