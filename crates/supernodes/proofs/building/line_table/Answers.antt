use native.Mathlib.Omega.{arith}
use Rattle.supernodes.proofs.Fitting.{fit_grow, fit_line, fit_lined}
use Rattle.supernodes.proofs.building.line_table.Goals as goal

pub grow-used-requires : goal.grow-used-requires
grow-used-requires c = fit_grow c.requires

pub line_up-requires : goal.line_up-requires
line_up-requires c =
    fit_line c.requires c.grow-used.ensures (omega (arith, c.grow-used.auto)) c.link.ensures

pub returns : goal.returns
returns c =
    fit_lined c.requires c.grow-used.ensures (omega (arith, c.grow-used.auto)) c.link.ensures c.line_up.ensures
