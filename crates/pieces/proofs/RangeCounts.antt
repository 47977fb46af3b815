-- What a range of entries counts: the nodes of its trie are at most its entries times its levels, and the marks are just its entries. So
-- the hops of a table's supernodes are as many as its entries: each is the mark of one node, and each node stands in one supernode.
use Prim.Native.Nat.{ℕ, zero, suc, ◌+◌, ◌-◌, ◌*◌, ◌/◌, ◌≤◌, ◌<◌, zero-le}
use mathlib.Core.Path.{◌≡◌, refl, sym, ap, ◌∙◌}
use mathlib.Core.Bool.{Bool, true, false, cond}
use mathlib.Core.List.{List, [], ◌∷◌, ◌++◌, append_assoc}
use mathlib.Core.Logic.{⊎_elim}
use native.Mathlib.Nat.{le_refl, add-mul, mul-le-mul, eq-or-lt_of_le}
use native.Mathlib.Omega.{arith}
use native.Mathlib.Decide.{dec_le}
use lib.ListN.{length, length-append}
use Rattle.table.specs.Prefix.{start, IsPrefix}
use Rattle.table.specs.Entry.{Below}
use Rattle.table.specs.Table.{Table, at}
use Rattle.table.proofs.Table.{sorted}
use Rattle.strides.specs.Entries.{with_bit, mark_at}
use Rattle.strides.proofs.Entries.{start_half}
use Rattle.pieces.specs.BinaryTrie.{BinaryTrie, empty, knot, binary_nodes, mark, side_of, some_begins, binary_below, binary_trie_of, table_binary}
use Rattle.pieces.specs.Maps.{INTERNAL, place_level, subtrie_along, subtrie_at, if_node, if_mark, kids, marks_to, marks}
use Rattle.pieces.specs.Order.{kids_of, order, level}
use Rattle.pieces.specs.Rows.{supernodes_of, marks_of_all, bitmap_hops}
use Rattle.pieces.specs.Ranges.{Ranged, exact_first, first_mark, past_exact, Turning}
use Rattle.pieces.specs.Depth.{deep, nodes_below}
use Rattle.pieces.proofs.Ranges.{past_exact_is, left_range, right_range, range_empty, range_tree, whole_range}
use Rattle.pieces.proofs.Depth.{kids_lower, levels_end, tree_deep}

-- ---- the marks of a trie, and of the tries of a list
unfoldable mark_count : BinaryTrie → ℕ
mark_count empty = 0
mark_count (knot m l r) = length (if_mark m) + (mark_count l + mark_count r)

unfoldable mark_sum : List BinaryTrie → ℕ
mark_sum [] = 0
mark_sum (t ∷ q) = mark_count t + mark_sum q

mark-sum-++ : (a b : List BinaryTrie) → mark_sum (a ++ b) ≡ mark_sum a + mark_sum b
unfolding mark_sum
mark-sum-++ [] b = omega arith
mark-sum-++ (t ∷ a) b = omega (arith, mark-sum-++ a b)

-- a node's own, and those of its sides
own : BinaryTrie → ℕ
own t = length (if_mark (mark t))

own_sides : (t : BinaryTrie) → mark_count t ≡ own t + (mark_count (side_of 0 t) + mark_count (side_of 1 t))
unfolding mark_count own mark if_mark
own_sides empty = refl
own_sides (knot m l r) = refl

-- those of the first c levels, and those below
unfoldable up_to : ℕ → BinaryTrie → ℕ
up_to zero t = 0
up_to (suc c) t = own t + (up_to c (side_of 0 t) + up_to c (side_of 1 t))

node_sum : (t : BinaryTrie) → mark_sum (if_node t) ≡ mark_count t
unfolding mark_sum if_node mark_count
node_sum empty = refl
node_sum (knot m l r) = omega arith

levels_split : (c : ℕ) (t : BinaryTrie) → mark_count t ≡ up_to c t + mark_sum (nodes_below c t)
unfolding up_to nodes_below
levels_split zero t = omega (arith, node_sum t)
levels_split (suc c) t =
    omega (arith, own_sides t, levels_split c (side_of 0 t), levels_split c (side_of 1 t), mark-sum-++ (nodes_below c (side_of 0 t)) (nodes_below c (side_of 1 t)))

sum_to : ℕ → (ℕ → ℕ) → ℕ
sum_to zero f = 0
sum_to (suc n) f = sum_to n f + f n

marks_sum : (n : ℕ) (t : BinaryTrie) → length (marks_to n t) ≡ sum_to n (λ i. own (subtrie_at i t))
unfolding marks_to sum_to own
marks_sum zero t = refl
marks_sum (suc n) t = length-append (marks_to n t) (if_mark (mark (subtrie_at n t))) ∙ omega (arith, marks_sum n t)

supernode_marks : (t : BinaryTrie) → sum_to INTERNAL (λ i. own (subtrie_at i t)) ≡ up_to 4 t
unfolding sum_to up_to subtrie_at place_level subtrie_along
supernode_marks t = omega arith

own_and_kids : (t : BinaryTrie) → mark_count t ≡ length (marks t) + mark_sum (kids t)
own_and_kids t = levels_split 4 t ∙ rw (kids_lower t) (omega (arith, marks_sum INTERNAL t, supernode_marks t))

list_and_kids : (q : List BinaryTrie) → mark_sum q ≡ length (marks_of_all q) + mark_sum (kids_of kids q)
unfolding mark_sum marks_of_all kids_of
list_and_kids [] = refl
list_and_kids (t ∷ q) = omega (arith, own_and_kids t, list_and_kids q, length-append (marks t) (marks_of_all q), mark-sum-++ (kids t) (kids_of kids q))

pub marks_join : (a b : List BinaryTrie) → marks_of_all (a ++ b) ≡ marks_of_all a ++ marks_of_all b
unfolding marks_of_all
marks_join [] b = refl
marks_join (t ∷ a) b = ap (λ (m : List ℕ). marks t ++ m) (marks_join a b) ∙ sym (append_assoc (marks t) (marks_of_all a) (marks_of_all b))

order_marks : (n : ℕ) (q : List BinaryTrie) → mark_sum q ≡ length (marks_of_all (order kids n q)) + mark_sum (level kids n q)
unfolding order level marks_of_all
order_marks zero q = omega arith
order_marks (suc n) q =
    let rest = order kids n (kids_of kids q) in
    omega (arith, list_and_kids q, order_marks n (kids_of kids q), ap length (marks_join q rest), length-append (marks_of_all q) (marks_of_all rest))

hops_are_marks : (W : ℕ) (t : BinaryTrie) → deep t ≤ suc W → length (bitmap_hops W t) ≡ mark_count t
unfolding bitmap_hops supernodes_of mark_sum
hops_are_marks W t h =
    let e = order_marks (suc (W / 4)) (if_node t) in
    let z : mark_sum (level kids (suc (W / 4)) (if_node t)) ≡ 0 = ap mark_sum (levels_end (suc (W / 4)) t (omega arith)) in
    omega (arith, e, z, node_sum t)

-- ---- the marks of a range are its entries
module _ (W : ℕ) (val len mk : ℕ → ℕ) (n : ℕ) (prefix : (i : ℕ) → i < n → IsPrefix W (val i) (len i))
    (order : (i j : ℕ) → i < j → j < n → Below (val i) (len i) (val j) (len j)) (some : (i : ℕ) → i < n → 0 < mk i) where
  -- the range parts somewhere
  module _ (d q from to : ℕ) (r : Ranged W val len n d q from to) where
    abbrev first : ℕ
    first = past_exact len from to d

    turns : (k i : ℕ) → i + k ≡ to → first ≤ i → ((j : ℕ) → first ≤ j → j < i → start W (suc d) (val j) ≡ with_bit q 0)
        → (mid : ℕ) × Turning W val d q first to mid
    turns zero i e l z = (i, record { low = l; high = omega arith; zeros = z; one = λ h. absurd (omega arith) })
    turns (suc k) i e l z = elim (dec_le (with_bit q 1) (start W (suc d) (val i))) [
      | yes y ↦ (i, record { low = l; high = omega arith; zeros = z; one = λ h. omega (arith, half) })
      | no y ↦ turns k (suc i) (omega arith) (omega arith) (λ j a b. ⊎_elim
          (λ (s : j ≡ i). rw s (omega (arith, half))) (λ (s : j < i). z j a s) (eq-or-lt_of_le (omega arith)))
    ]
      where
        half : start W (suc d) (val i) / 2 ≡ q
        half =
            let h : i < n = omega (arith, r.within) in
            let w = (past_exact_is W val len mk n prefix order d q from to r i h).0 (l, omega arith) in
            start_half W d (val i) (omega (arith, w.0, (prefix i h).short)) ∙ w.1

    first_one : from < to → length (if_mark (first_mark len mk from to d)) + from ≡ first
    unfolding first_mark past_exact if_mark
    first_one h = go (exact_first len from to d) (mk from) (some from (omega (arith, r.within)))
      where
        go : (b : Bool) (m : ℕ) → 0 < m → length (if_mark (cond b m 0)) + from ≡ cond b (suc from) from
        go true zero l = absurd (omega arith)
        go true (suc m) l = omega arith
        go false m l = omega arith

    first_low : from < to → (from ≤ first) × (first ≤ to)
    unfolding past_exact
    first_low h = go (exact_first len from to d)
      where
        go : (b : Bool) → (from ≤ cond b (suc from) from) × (cond b (suc from) from ≤ to)
        go true = (omega arith, h)
        go false = (le_refl from, omega arith)

    parts : from < to → (mid : ℕ) × Turning W val d q first to mid
    parts h = turns (to - first) first (omega (arith, first_low h)) (le_refl first) (λ j a b. absurd (omega arith))

  abbrev below : ℕ → ℕ → ℕ → BinaryTrie
  below = binary_below (some_begins W val len n) (mark_at W val len mk n)

  -- an entry that starts with the bits is at least so long
  some_level : (d q from to : ℕ) → Ranged W val len n d q from to → from < to → d ≤ W
  some_level d q from to r l =
      let h : from < n = omega (arith, r.within) in
      omega (arith, ((r.exactly from h).0 (le_refl from, l)).0, (prefix from h).short)

  range_marks : (m d q from to : ℕ) → Ranged W val len n d q from to → m + d ≡ suc W → mark_count (below m d q) ≡ to - from
  unfolding mark_count
  range_marks zero d q from to r e = ⊎_elim (λ (z : from ≡ to). rw (range_empty W val len mk n prefix order d q from to r zero z) (omega arith))
      (λ (l : from < to). absurd (omega (arith, some_level d q from to r l))) (eq-or-lt_of_le r.ordered)
  range_marks (suc m) d q from to r e = ⊎_elim (λ (z : from ≡ to). rw (range_empty W val len mk n prefix order d q from to r (suc m) z) (omega arith))
      (λ (l : from < to). both l (turns d q from to r (to - past_exact len from to d) (past_exact len from to d) (omega (arith, first_low d q from to r l)) (le_refl _)
      (λ j a b. absurd (omega arith))) (λ q' f t s. range_marks m (suc d) q' f t s (omega arith))) (eq-or-lt_of_le r.ordered)
    where
      both : from < to → (mid : ℕ) × Turning W val d q (past_exact len from to d) to mid
          → ((q' f t : ℕ) → Ranged W val len n (suc d) q' f t → mark_count (below m (suc d) q') ≡ t - f) → mark_count (below (suc m) d q) ≡ to - from
      both l (mid, t) ih =
          let a = ih (with_bit q 0) (past_exact len from to d) mid (left_range W val len mk n prefix order d q from to r mid t) in
          let b = ih (with_bit q 1) mid to (right_range W val len mk n prefix order d q from to r mid t) in
          rw (range_tree W val len mk n prefix order d q from to r m l) (omega (arith, a, b, first_one d q from to r l, first_low d q from to r l, t.low, t.high))

  -- no level has more nodes than the range has entries
  pub range_nodes : (m d q from to : ℕ) → Ranged W val len n d q from to → m + d ≡ suc W → binary_nodes (below m d q) ≤ (to - from) * m
  unfolding binary_nodes
  range_nodes zero d q from to r e = ⊎_elim (λ (z : from ≡ to). rw (range_empty W val len mk n prefix order d q from to r zero z) zero-le)
      (λ (l : from < to). absurd (omega (arith, some_level d q from to r l))) (eq-or-lt_of_le r.ordered)
  range_nodes (suc m) d q from to r e = ⊎_elim (λ (z : from ≡ to). rw (range_empty W val len mk n prefix order d q from to r (suc m) z) zero-le)
      (λ (l : from < to). both l (parts d q from to r l) (λ q' f t s. range_nodes m (suc d) q' f t s (omega arith))) (eq-or-lt_of_le r.ordered)
    where
      sum : (k i j l a b : ℕ) → a ≤ i * k → b ≤ j * k → i + j ≤ l → 0 < l → suc (a + b) ≤ l * suc k
      sum k i j l a b s t h o =
          let w : (i + j) * k ≤ l * k = mul-le-mul h (le_refl k) in
          let z : l * suc k ≡ l * k + l = omega arith in
          omega (arith, add-mul i j k, w, z)

      both : from < to → (mid : ℕ) × Turning W val d q (past_exact len from to d) to mid
          → ((q' f t : ℕ) → Ranged W val len n (suc d) q' f t → binary_nodes (below m (suc d) q') ≤ (t - f) * m) → binary_nodes (below (suc m) d q) ≤ (to - from) * suc m
      both l (mid, t) ih =
          let a = ih (with_bit q 0) (past_exact len from to d) mid (left_range W val len mk n prefix order d q from to r mid t) in
          let b = ih (with_bit q 1) mid to (right_range W val len mk n prefix order d q from to r mid t) in
          rw (range_tree W val len mk n prefix order d q from to r m l)
          (sum m (mid - past_exact len from to d) (to - mid) (to - from) _ _ a b (omega (arith, first_low d q from to r l, t.low, t.high)) (omega arith))

-- so room for the hops of an accepted table is room for its entries
pub hops_are_entries : (W : ℕ) (vs ls hs : List ℕ) → Table W vs ls hs → length (bitmap_hops W (table_binary W vs ls hs)) ≡ length vs
unfolding binary_trie_of
hops_are_entries W vs ls hs t =
    let p : (i : ℕ) → i < length vs → IsPrefix W (at vs i) (at ls i) = λ i h. (t.entry i h).prefix in
    hops_are_marks W (table_binary W vs ls hs) (tree_deep W (at vs) (at ls) (at hs) (length vs))
    ∙ range_marks W (at vs) (at ls) (at hs) (length vs) p (sorted W (at vs) (at ls) (at hs) (length vs) t.entry) (λ i h. (t.entry i h).some_hop)
    (suc W) 0 0 0 (length vs) (whole_range W (at vs) (at ls) (length vs) p) (omega arith)
    ∙ omega arith

-- and a trie of a table has at most its entries times W + 1 nodes
pub table_nodes : (W : ℕ) (vs ls hs : List ℕ) → Table W vs ls hs → binary_nodes (table_binary W vs ls hs) ≤ length vs * suc W
unfolding binary_trie_of
table_nodes W vs ls hs t =
    let p : (i : ℕ) → i < length vs → IsPrefix W (at vs i) (at ls i) = λ i h. (t.entry i h).prefix in
    let e : length vs - 0 ≡ length vs = omega arith in
    rw e at (range_nodes W (at vs) (at ls) (at hs) (length vs) p (sorted W (at vs) (at ls) (at hs) (length vs) t.entry) (λ i h. (t.entry i h).some_hop)
    (suc W) 0 0 0 (length vs) (whole_range W (at vs) (at ls) (length vs) p) (omega arith))
