use mathlib.Core.Path.{refl}
use native.Mathlib.Omega.{arith}
use mathlib.Core.List.{List}
use Prim.Native.Nat.{ℕ}
use lib.ListN.{replicate}
use Rattle.table.specs.Table.{at}
use Rattle.choosers.specs.FixedChoice.{level_cells}
use Rattle.table.proofs.Zeroes.{zeros_read}
use Rattle.choosers.proofs.FixedChoice.{filled_start, counts_small, fixed_out}
use Rattle.choosers.proofs.fixed.fixed_choice.Goals as goal

pub fill_table-requires : goal.fill_table-requires
fill_table-requires c =
    let g = c.requires.1 in
    let zeros : List ℕ = replicate level_cells 0 in record { nodes_len = (g.counted.long, g.within.1, omega (arith, g.depths, g.short), counts_small c.args.nodes.now c.args.depth c.args.levels c.requires.0 g); filled = filled_start (at c.args.nodes.now) c.args.levels c.args.depth zeros zeros refl refl (zeros_read level_cells) (zeros_read level_cells) }

pub read_list-requires : goal.read_list-requires
read_list-requires c =
    let g = c.requires.1 in
    let F = c.fill_table.ensures in
    (g.within.0, g.within.1, omega (arith, g.depths, g.short), F.long_strides, (at c.args.nodes.now, λ j r p q. F.stride j r (omega arith) p q))

pub returns : goal.returns
returns c t g =
    let F = c.fill_table.ensures in
    fixed_out c.args.nodes.now c.args.depth c.args.levels t g _ _ _ _ F refl c.read_list.ensures
