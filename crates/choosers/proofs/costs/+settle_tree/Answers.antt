use native.Mathlib.Omega.{arith}
use Rattle.choosers.proofs.Settling.{some_fits, some_left, some_right, none_summed, left_sums, right_sums, settle_row_in, tree_done, sums_done}
use Rattle.choosers.proofs.costs.+settle_tree.Goals as goal

pub asked-requires : goal.asked-requires
asked-requires t c =
    let f = some_fits c.args.pass.few c.requires.tree_ask c.if-k-ne0.true in
    omega arith

pub settle_tree-requires : goal.settle_tree-requires
settle_tree-requires t c =
    let ne = c.if-k-ne0.true in
    let f = some_fits c.args.pass.few c.requires.tree_ask ne in (
      omega arith,
      (
        rw c.asked.ensures (some_left c.args.pass.few c.requires.tree_ask ne),
        left_sums c.args.pass.few c.requires.sums_in ne c.requires.tree_ask,
      ),
    )

pub asked-requires-then-k-ne0 : goal.asked-requires-then-k-ne0
asked-requires-then-k-ne0 t c =
    let f = some_fits c.args.pass.few c.requires.tree_ask c.if-k-ne0.true in
    omega arith

pub settle_tree-requires-then-k-ne0 : goal.settle_tree-requires-then-k-ne0
settle_tree-requires-then-k-ne0 t c =
    let ne = c.if-k-ne0.true in
    let f = some_fits c.args.pass.few c.requires.tree_ask ne in
    let l = rw c.asked.ensures at c.settle_tree.ensures in (
      omega arith,
      (
        (rw c.asked-then-k-ne0.ensures (some_right c.args.pass.few c.requires.sums_in ne (omega arith) (omega arith) l.rows l.sums c.requires.tree_ask)),
        right_sums c.args.pass.few c.requires.sums_in ne (omega arith) (omega arith) l.rows l.sums c.requires.tree_ask,
      ),
    )

pub settle_row-requires : goal.settle_row-requires
settle_row-requires t c =
    let l = rw c.asked.ensures at c.settle_tree.ensures in
    let r = rw c.asked-then-k-ne0.ensures at c.settle_tree-then-k-ne0.ensures in
    settle_row_in c.args.pass.few c.requires.sums_in c.if-k-ne0.true (omega arith) (omega arith) l.rows l.sums (omega arith) (omega arith) r.rows r.sums c.requires.tree_ask

pub returns-then-k-ne0-clause-rows : goal.returns-then-k-ne0-clause-rows
returns-then-k-ne0-clause-rows t c =
    let l = rw c.asked.ensures at c.settle_tree.ensures in
    let r = rw c.asked-then-k-ne0.ensures at c.settle_tree-then-k-ne0.ensures in
    let X = c.settle_row in
    tree_done c.args.pass.few c.requires.sums_in c.if-k-ne0.true (omega arith) (omega arith) l.rows l.sums (omega arith) (omega arith) r.rows r.sums X.ensures.stored X.ensures.handed

pub returns-then-k-ne0-clause-sums : goal.returns-then-k-ne0-clause-sums
returns-then-k-ne0-clause-sums t c =
    let l = rw c.asked.ensures at c.settle_tree.ensures in
    let r = rw c.asked-then-k-ne0.ensures at c.settle_tree-then-k-ne0.ensures in
    let X = c.settle_row in
    sums_done c.args.pass.few c.requires.sums_in c.if-k-ne0.true (omega arith) (omega arith) l.rows l.sums (omega arith) (omega arith) r.rows r.sums X.ensures.stored X.ensures.handed

pub returns-else-k-ne0-clause-sums : goal.returns-else-k-ne0-clause-sums
returns-else-k-ne0-clause-sums t c = none_summed c.args.pass.few c.requires.sums_in c.if-k-ne0.false
