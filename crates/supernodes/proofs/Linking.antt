-- Rows in preorder read by links: each link has its trie.
use Prim.Native.Nat.{ℕ, zero, suc, ◌+◌, ◌-◌, ◌*◌, ◌≤◌, ◌<◌, zero-le}
use mathlib.Core.Path.{◌≡◌, refl, sym, ap, subst, ◌∙◌}
use mathlib.Core.List.{List}
use native.Mathlib.Omega.{arith}
use native.Mathlib.Decide.{dec_le}
use lib.ListN.{length}
use borrow.Author.Tests.{ne_eqb, lt-ltb, le-ltb}
use Rattle.table.specs.Table.{Table, at}
use Rattle.table.proofs.Table.{sorted}
use Rattle.pieces.specs.BinaryTrie.{BinaryTrie, empty, knot, binary_nodes, binary_trie_of}
use Rattle.pieces.proofs.Ranges.{whole_range}
use Rattle.supernodes.specs.Spans.{Span, subtree, CountedNodes}
use Rattle.supernodes.specs.Limits.{node_row}
use Rattle.supernodes.specs.Linked.{row_column, node_column, link_at, Packed, Node, Nodes, sub_at, tree_at}

-- ---- the whole table
pub whole_span : (W : ℕ) (vs ls hs : List ℕ) → Table W vs ls hs → Span W vs ls 0 0 0 (length vs)
whole_span W vs ls hs t = record {
  table = record {
    width = t.width;
    lengths = t.lengths;
    few = t.few;
    prefix = λ i h. (t.entry i h).prefix;
    sorted = sorted W (at vs) (at ls) (at hs) (length vs) t.entry;
  };
  deep = zero-le;
  range = whole_range W (at vs) (at ls) (length vs) (λ i h. (t.entry i h).prefix);
}

pub whole_tree : (W : ℕ) (vs ls : List ℕ) (mark : ℕ → ℕ) → subtree W vs ls mark 0 0 ≡ binary_trie_of W (at vs) (at ls) mark (length vs)
unfolding subtree binary_trie_of
whole_tree W vs ls mark = let e : suc W - 0 ≡ suc W = omega arith in rw e refl

-- test 6's count
pub whole_count : (W : ℕ) (vs ls hs : List ℕ) (r : ℕ) → Table W vs ls hs → CountedNodes W vs ls 0 0 (length vs) r
    → r ≡ binary_nodes (binary_trie_of W (at vs) (at ls) (at hs) (length vs))
whole_count W vs ls hs r t c = c 0 (whole_span W vs ls hs t) (at hs) ∙ ap binary_nodes (whole_tree W vs ls (at hs))

-- ---- links
pub column_is : (rows : List ℕ) (x c : ℕ) → node_column rows (suc x) c ≡ row_column rows x c
unfolding node_column
column_is rows x c = let e : suc x - 1 ≡ x = omega arith in rw (ne_eqb (suc x) 0 (λ z. omega arith), e) refl

module _ (f : ℕ → BinaryTrie) (none : f 0 ≡ empty) (used : ℕ) (rows : List ℕ) where
  -- t stands in f from row x on
  abbrev Stands : BinaryTrie → ℕ → Type 0
  Stands t x = (i : ℕ) → i < binary_nodes t → f (suc (x + i)) ≡ sub_at t i

  link_tree : (t : BinaryTrie) (x : ℕ) → Stands t x → f (link_at x t) ≡ t
  unfolding binary_nodes sub_at
  link_tree empty x s = none
  link_tree (knot m l r) x s = let e : x + 0 ≡ x = omega arith in rw e at (s 0 (omega arith))

  link_used : (t : BinaryTrie) (x : ℕ) → x + binary_nodes t ≤ used → link_at x t ≤ used
  unfolding binary_nodes
  link_used empty x h = zero-le
  link_used (knot m l r) x h = omega arith

  stands_left : (m : ℕ) (l r : BinaryTrie) (x : ℕ) → Stands (knot m l r) x → Stands l (suc x)
  unfolding binary_nodes sub_at
  stands_left m l r x s i h = let e : suc x + i ≡ x + suc i = omega arith in rw e (s (suc i) (omega arith) ∙ rw (lt-ltb i (binary_nodes l) h) refl)

  stands_right : (m : ℕ) (l r : BinaryTrie) (x : ℕ) → Stands (knot m l r) x → Stands r (suc x + binary_nodes l)
  unfolding binary_nodes sub_at
  stands_right m l r x s i h =
      let e : suc x + binary_nodes l + i ≡ x + suc (binary_nodes l + i) = omega arith in
      let n : binary_nodes l + i - binary_nodes l ≡ i = omega arith in
      rw e (s (suc (binary_nodes l + i)) (omega arith) ∙ rw (le-ltb (binary_nodes l + i) (binary_nodes l) (omega arith), n) refl)

  each_node : (t : BinaryTrie) (x : ℕ) → Packed rows x t → Stands t x → x + binary_nodes t ≤ used → (i : ℕ) → i < binary_nodes t → Node f used rows (suc (x + i))
  unfolding binary_nodes sub_at
  each_node empty x p s h i l = absurd (omega arith)
  each_node (knot m a b) x p s h zero l =
      let e : x + 0 ≡ x = omega arith in
      let c0 : node_column rows (suc x) 0 ≡ link_at (suc x) a = column_is rows x 0 ∙ p.0 in
      let c1 : node_column rows (suc x) 1 ≡ link_at (suc x + binary_nodes a) b = column_is rows x 1 ∙ p.1 in
      let c2 : node_column rows (suc x) 2 ≡ m = column_is rows x 2 ∙ p.2 in
      rw e (record {
        left = rw c0 (link_used a (suc x) (omega arith));
        right = rw c1 (link_used b (suc x + binary_nodes a) (omega arith));
        is = link_tree (knot m a b) x s ∙ sym (rw (c0, c1, c2, link_tree a (suc x) (stands_left m a b x s), link_tree b (suc x + binary_nodes a) (stands_right m a b x s)) refl);
      })
  each_node (knot m a b) x p s h (suc i) l = elim (dec_le (suc i) (binary_nodes a)) [
    | yes y ↦ (
        let e : suc x + i ≡ x + suc i = omega arith in
        subst (λ (k : ℕ). Node f used rows (suc k)) e (each_node a (suc x) p.3 (stands_left m a b x s) (omega arith) i y)
        )
    | no y ↦ (
        let e : suc x + binary_nodes a + (i - binary_nodes a) ≡ x + suc i = omega arith in
        subst (λ (k : ℕ). Node f used rows (suc k)) e (each_node b (suc x + binary_nodes a) p.4 (stands_right m a b x s) (omega arith) (i - binary_nodes a) (omega arith))
        )
  ]

pub packed_nodes : (t : BinaryTrie) (rows : List ℕ) → Packed rows 0 t → binary_nodes t * node_row ≤ length rows → Nodes (tree_at t) (binary_nodes t) rows
unfolding tree_at
packed_nodes t rows p h = record {
  none = refl;
  fits = h;
  each = λ k a b. pick k a b;
}
  where
    pick : (k : ℕ) → 0 < k → k ≤ binary_nodes t → Node (tree_at t) (binary_nodes t) rows k
    pick zero a b = absurd (omega arith)
    pick (suc k) a b =
        let e : 0 + k ≡ k = omega arith in
        subst (λ (j : ℕ). Node (tree_at t) (binary_nodes t) rows (suc j)) e
        (each_node (tree_at t) refl (binary_nodes t) rows t 0 p (λ i l. let z : 0 + i ≡ i = omega arith in rw z refl) (omega arith) k (omega arith))

-- the link of the whole trie
pub root_tree : (t : BinaryTrie) → tree_at t (link_at 0 t) ≡ t
unfolding tree_at sub_at
root_tree empty = refl
root_tree (knot m l r) = refl
