use mathlib.Core.Path.{refl}
use native.Mathlib.Numerals.{add-one}
use native.Mathlib.Omega.{arith}
use Rattle.supernodes.proofs.Sides.{bit_left, left_ask, right_ask, nodes_none, count_leaf, count_both, nodes_few}
use Rattle.supernodes.proofs.ranges.+nodes_in.Goals as goal

pub returns-then-from-to : goal.returns-then-from-to
returns-then-from-to t c = nodes_none c.if-from-to.true

pub returns-then-first-to : goal.returns-then-first-to
returns-then-first-to t c = count_leaf c.requires c.if-from-to.false c.past-first.ensures c.if-first-to.true

pub overflow_sub-width-2 : goal.overflow_sub-width-2
overflow_sub-width-2 t c = omega (arith, bit_left c.requires c.if-from-to.false c.past-first.ensures c.if-first-to.false)

pub nodes_in-a-requires : goal.nodes_in-a-requires
nodes_in-a-requires t c = (
  omega (arith, c.decreases, bit_left c.requires c.if-from-to.false c.past-first.ensures c.if-first-to.false),
  left_ask c.requires c.if-from-to.false c.past-first.ensures c.if-first-to.false refl c.split-mid.ensures (add-one _),
)

pub nodes_in-b-requires : goal.nodes_in-b-requires
nodes_in-b-requires t c = (
  omega (arith, c.decreases, bit_left c.requires c.if-from-to.false c.past-first.ensures c.if-first-to.false),
  right_ask c.requires c.if-from-to.false c.past-first.ensures c.if-first-to.false refl c.split-mid.ensures (add-one _),
)

pub overflow_add-result : goal.overflow_add-result
overflow_add-result t c =
    let both = count_both c.requires c.if-from-to.false c.past-first.ensures c.if-first-to.false refl c.split-mid.ensures (add-one _)
    c.nodes_in-a.ensures c.nodes_in-b.ensures in
    omega (arith, nodes_few c.requires both)

pub overflow_add-result-2 : goal.overflow_add-result-2
overflow_add-result-2 t c =
    let both = count_both c.requires c.if-from-to.false c.past-first.ensures c.if-first-to.false refl c.split-mid.ensures (add-one _)
    c.nodes_in-a.ensures c.nodes_in-b.ensures in
    omega (arith, nodes_few c.requires both)

pub returns : goal.returns
returns t c =
    count_both c.requires c.if-from-to.false c.past-first.ensures c.if-first-to.false refl c.split-mid.ensures (add-one _)
    c.nodes_in-a.ensures c.nodes_in-b.ensures
