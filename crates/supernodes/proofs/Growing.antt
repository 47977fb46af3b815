-- Rows written in preorder: a subtrie is an interval of rows, so what is written for one stays when the next is written.
use Prim.Native.Nat.{ℕ, suc, ◌+◌, ◌-◌, ◌*◌, ◌≤◌, ◌<◌}
use mathlib.Core.Path.{◌≡◌, refl, ap, subst, ◌∙◌}
use mathlib.Core.Bool.{cond}
use mathlib.Core.List.{List}
use native.Mathlib.Omega.{arith}
use lib.Dec.{eqb}
use lib.ListN.{length, get_or}
use borrow.Author.Tests.{eq-eqb, ne_eqb}
use Rattle.table.specs.Table.{at}
use Rattle.strides.specs.Entries.{with_bit}
use Rattle.pieces.specs.BinaryTrie.{BinaryTrie, empty, knot, binary_nodes}
use Rattle.supernodes.specs.Spans.{Parted, subtree}
use Rattle.supernodes.specs.Limits.{node_row}
use Rattle.supernodes.specs.Linked.{NodeWritten, link_at, Packed, GrowIn, GrowAsk, Put, Grown}
use Rattle.supernodes.proofs.Sides.{first_of, deeper, span_empty, tree_is, tree_leaf, first_low, left_span, right_span}

-- ---- what stands stays where its rows stay
pub packed_stays : (t : BinaryTrie) (rows rows' : List ℕ) (x : ℕ)
    → ((i : ℕ) → x * node_row ≤ i → i < (x + binary_nodes t) * node_row → get_or rows' i 0 ≡ get_or rows i 0) → Packed rows x t → Packed rows' x t
unfolding binary_nodes
packed_stays empty rows rows' x f p = tt
packed_stays (knot m l r) rows rows' x f p = (
  f (x * node_row + 0) (omega arith) (omega arith) ∙ p.0,
  f (x * node_row + 1) (omega arith) (omega arith) ∙ p.1,
  f (x * node_row + 2) (omega arith) (omega arith) ∙ p.2,
  packed_stays l rows rows' (suc x) (λ i a b. f i (omega arith) (omega arith)) p.3,
  packed_stays r rows rows' (suc x + binary_nodes l) (λ i a b. f i (omega arith) (omega arith)) p.4,
)

-- the link that the code finds
pub link_is : (t : BinaryTrie) (x next : ℕ) {k : ℕ} → next ≡ x + binary_nodes t → k ≡ cond (eqb x next) 0 (suc x) → k ≡ link_at x t
unfolding binary_nodes
link_is empty x next e f = f ∙ rw (eq-eqb x next (omega arith)) refl
link_is (knot m l r) x next e f = f ∙ rw (ne_eqb x next (λ z. omega arith)) refl

-- ---- the writer
module _ {W : ℕ} {vs ls hs : List ℕ} {d from to used : ℕ} where
  pub grow_none : {rows : List ℕ} → from ≡ to → Grown rows W vs ls hs d from to used used rows
  unfolding binary_nodes
  grow_none e q g = rw (span_empty g.span e (at hs)) (record { end = omega arith; packed = tt; before = λ i l. refl; after = λ i l. refl })

  module _ {rows : List ℕ} (c : GrowAsk rows W vs ls hs d from to used) (ne : from ≡ to → ⊥) where
    pub some_node : from < to
    some_node = omega (arith, c.1.span.range.ordered)

    -- there is room for the node itself
    pub own_room : suc used * node_row ≤ length rows
    unfolding binary_nodes
    own_room = let z = c.1.room in omega (arith, rw (tree_is c.1.span some_node (at hs)) at z)

    module _ {first mark : ℕ} (e : first ≡ first_of ls d from) (k : mark ≡ cond (eqb (at ls from) d) (at hs from) 0) where
      pub grow_leaf : {rows' : List ℕ} → first ≡ to → NodeWritten rows used 0 0 mark rows' → Grown rows W vs ls hs d from to used (used + 1) rows'
      unfolding binary_nodes
      grow_leaf z w q g = rw (tree_leaf g.span some_node e z (at hs)) (record {
        end = omega arith;
        packed = (w.own_left, w.own_right, w.own_mark ∙ k, tt, tt);
        before = w.before;
        after = λ i l. w.after i (omega arith);
      })

      module _ (ne2 : first ≡ to → ⊥) where
        pub more_nodes : first < to
        more_nodes = omega (arith, first_low c.1.span some_node first e)

        -- a bit is left where they part
        pub node_bit_left : d < W
        node_bit_left = deeper c.1.span some_node e more_nodes

        module _ {mid n : ℕ} (u : n ≡ W - d - 1) (p : Parted vs n first to mid) {d' used' : ℕ} (v : d' ≡ suc d) (y : used' ≡ suc used) where
          module _ (q : ℕ) (g : GrowIn rows W vs ls hs d q from to used) where
            size_is : binary_nodes (subtree W vs ls (at hs) d q) ≡ suc (binary_nodes (subtree W vs ls (at hs) d' (with_bit q 0)) + binary_nodes (subtree W vs ls (at hs) d' (with_bit q 1)))
            unfolding binary_nodes
            size_is = rw v (ap binary_nodes (tree_is g.span some_node (at hs)))

            left_in : GrowIn rows W vs ls hs d' (with_bit q 0) first mid used'
            left_in = record { span = left_span g.span some_node e u more_nodes p v; hops = g.hops; room = omega (arith, g.room, size_is) }

            right_in : {rows1 : List ℕ} {next : ℕ} → length rows1 ≡ length rows → Put rows used' (subtree W vs ls (at hs) d' (with_bit q 0)) next rows1
                → GrowIn rows1 W vs ls hs d' (with_bit q 1) mid to next
            right_in l o = record { span = right_span g.span some_node e u more_nodes p v; hops = g.hops; room = omega (arith, g.room, size_is, o.end) }

          pub left_grow : GrowAsk rows W vs ls hs d' first mid used'
          left_grow = (with_bit c.0 0, left_in c.0 c.1)

          module _ {rows1 : List ℕ} {next : ℕ} (l1 : length rows1 ≡ length rows) (a : Grown rows W vs ls hs d' first mid used' next rows1) where
            pub right_grow : GrowAsk rows1 W vs ls hs d' mid to next
            right_grow = (with_bit c.0 1, right_in c.0 c.1 l1 (a (with_bit c.0 0) (left_in c.0 c.1)))

            module _ {rows2 : List ℕ} {end : ℕ} (b : Grown rows1 W vs ls hs d' mid to next end rows2) where
              pub rows_rise : (used' ≤ next) × (next ≤ end)
              rows_rise =
                  let o = a (with_bit c.0 0) (left_in c.0 c.1) in
                  let o2 = b (with_bit c.0 1) (right_in c.0 c.1 l1 o) in
                  (omega (arith, o.end), omega (arith, o2.end))

              pub grow_both : {left right : ℕ} {rows3 : List ℕ} → left ≡ cond (eqb used' next) 0 (suc used') → right ≡ cond (eqb next end) 0 (suc next)
                  → NodeWritten rows2 used left right mark rows3 → Grown rows W vs ls hs d from to used end rows3
              unfolding binary_nodes
              grow_both {left} {right} {rows3} f h w q g =
                  let o = a (with_bit q 0) (left_in q g) in
                  let o2 = b (with_bit q 1) (right_in q g l1 o) in
                  whole q g o o2 (tree_is g.span some_node (at hs))
                where
                  whole : (q : ℕ) (g : GrowIn rows W vs ls hs d q from to used) → Put rows used' (subtree W vs ls (at hs) d' (with_bit q 0)) next rows1
                      → Put rows1 next (subtree W vs ls (at hs) d' (with_bit q 1)) end rows2
                      → subtree W vs ls (at hs) d q ≡ knot (cond (eqb (at ls from) d) (at hs from) 0) (subtree W vs ls (at hs) (suc d) (with_bit q 0)) (subtree W vs ls (at hs) (suc d) (with_bit q 1))
                      → Put rows used (subtree W vs ls (at hs) d q) end rows3
                  whole q g o o2 t =
                      let l = subtree W vs ls (at hs) (suc d) (with_bit q 0) in
                      let r = subtree W vs ls (at hs) (suc d) (with_bit q 1) in
                      let a1 : Put rows (suc used) l next rows1 = rw (v, y) at o in
                      let a2 : Put rows1 next r end rows2 = rw v at o2 in
                      rw t (record {
                        end = omega (arith, a1.end, a2.end);
                        packed = (
                          w.own_left ∙ link_is l (suc used) next a1.end (rw y at f),
                          w.own_right ∙ link_is r next end a2.end h ∙ ap (λ (x : ℕ). link_at x r) a1.end,
                          w.own_mark ∙ k,
                          packed_stays l rows1 rows3 (suc used) (λ i m n. w.after i m ∙ a2.before i (omega (arith, a1.end))) a1.packed,
                          packed_stays r rows2 rows3 (suc used + binary_nodes l) (λ i m n. w.after i (omega arith)) (subst (λ (x : ℕ). Packed rows2 x r) a1.end a2.packed),
                        );
                        before = λ i m. w.before i m ∙ a2.before i (omega (arith, a1.end)) ∙ a1.before i (omega arith);
                        after = λ i m. w.after i (omega (arith, a1.end, a2.end)) ∙ a2.after i m ∙ a1.after i (omega (arith, a2.end));
                      })
