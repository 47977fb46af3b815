use Rattle.std.proofs.Common.{◌+◌, arith}
use native.Mathlib.Nat.{le_trans}
use lib.ListN.{length}
use Rattle.table.specs.Table.{at}
use Rattle.choosers.proofs.Counts.{count_small, count_next}
use Rattle.choosers.proofs.counting.node_count.Goals as goal

pub overflow_add-count : goal.overflow_add-count
overflow_add-count c =
    let p = c.requires.0 in
    let l = c.loop-i in
    let s = count_small c.args.width (at c.args.entries.value.now) (at c.args.entries.length.now) (length c.args.entries.value.now) (λ i h. le_trans (p.prefix i h).short p.width) (l.i + 1)
    (omega arith) in
    omega (arith, c.new_at-count.ensures, count_next c.args.width (at c.args.entries.value.now) (at c.args.entries.length.now) l.i, c.requires.1)
