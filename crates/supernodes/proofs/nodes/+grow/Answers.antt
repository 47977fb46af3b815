use mathlib.Core.Path.{refl}
use native.Mathlib.Numerals.{add-one}
use native.Mathlib.Omega.{arith}
use Rattle.supernodes.proofs.Growing.{own_room, node_bit_left, grow_none, grow_leaf, left_grow, right_grow, rows_rise, grow_both}
use Rattle.supernodes.proofs.nodes.+grow.Goals as goal

pub returns-then-from-to : goal.returns-then-from-to
returns-then-from-to t c =
    grow_none c.if-from-to.true

pub write_node-requires : goal.write_node-requires
write_node-requires t c =
    let q = c.requires in
    omega (arith, own_room q c.if-from-to.false)

pub returns-then-first-to : goal.returns-then-first-to
returns-then-first-to t c =
    let q = c.requires in
    grow_leaf q c.if-from-to.false c.past-first.ensures c.first_mark-mark.ensures c.if-first-to.true
    c.write_node.ensures

pub overflow_sub-width-2 : goal.overflow_sub-width-2
overflow_sub-width-2 t c =
    let q = c.requires in
    omega (arith, node_bit_left q c.if-from-to.false c.past-first.ensures c.first_mark-mark.ensures c.if-first-to.false)

pub grow-next-requires : goal.grow-next-requires
grow-next-requires t c =
    let q = c.requires in (
      omega (arith, c.decreases, node_bit_left q c.if-from-to.false c.past-first.ensures c.first_mark-mark.ensures c.if-first-to.false),
      left_grow q c.if-from-to.false c.past-first.ensures
          c.first_mark-mark.ensures c.if-first-to.false refl c.split-mid.ensures (add-one _) (add-one _),
    )

pub grow-end-requires : goal.grow-end-requires
grow-end-requires t c =
    let q = c.requires in (
      omega (arith, c.decreases, node_bit_left q c.if-from-to.false c.past-first.ensures c.first_mark-mark.ensures c.if-first-to.false),
      right_grow q c.if-from-to.false c.past-first.ensures c.first_mark-mark.ensures
          c.if-first-to.false refl c.split-mid.ensures (add-one _) (add-one _) (omega arith) c.grow-next.ensures,
    )

pub link-left-requires : goal.link-left-requires
link-left-requires t c =
    let q = c.requires in
    (rows_rise q c.if-from-to.false c.past-first.ensures c.first_mark-mark.ensures
    c.if-first-to.false refl c.split-mid.ensures (add-one _) (add-one _) (omega arith) c.grow-next.ensures c.grow-end.ensures).0

pub link-right-requires : goal.link-right-requires
link-right-requires t c =
    let q = c.requires in
    (rows_rise q c.if-from-to.false c.past-first.ensures c.first_mark-mark.ensures
    c.if-first-to.false refl c.split-mid.ensures (add-one _) (add-one _) (omega arith) c.grow-next.ensures c.grow-end.ensures).1

pub write_node-requires-2 : goal.write_node-requires-2
write_node-requires-2 t c =
    omega (arith, own_room c.requires c.if-from-to.false, c.grow-end.auto, c.grow-next.auto)

pub returns : goal.returns
returns t c =
    let q = c.requires in
    grow_both q c.if-from-to.false c.past-first.ensures c.first_mark-mark.ensures
    c.if-first-to.false refl c.split-mid.ensures (add-one _) (add-one _) (omega arith) c.grow-next.ensures c.grow-end.ensures c.link-left.ensures c.link-right.ensures
    c.write_node-2.ensures
