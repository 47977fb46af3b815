-- The tests up to 6; a table that passes them stands in scratch, its supernodes lined up.
use Prim.Native.Nat.{ℕ, zero, suc, ◌*◌, ◌-◌, ◌/◌, ◌≤◌, ◌<◌, zero-le}
use mathlib.Core.Path.{◌≡◌, refl, sym, ap, subst, ◌∙◌}
use mathlib.Core.Bool.{Bool, true, false, cond}
use mathlib.Core.List.{List, [], ◌∷◌}
use native.Mathlib.Nat.{mul-le-mul}
use native.Mathlib.Omega.{arith}
use lib.Dec.{eqb, ltb}
use lib.ListN.{length}
use borrow.Author.Tests.{lt-ltb, le-ltb, ltb-false}
use Rattle.table.specs.Limits.{width_limit, entry_limit}
use Rattle.table.specs.Refusals.{outcome, and_then}
use Rattle.table.specs.Table.{Table, at, table_tests, check_of}
use Rattle.table.specs.declared.refusal.Refusal.{Refusal}
use Rattle.table.specs.declared.refusal.Refusal.TheVariants.{Scratch}
use Rattle.std.specs.Prelude.{Ok, Err}
use Rattle.table.proofs.Refusals.{outcome_fails, outcome_passes, outcome_append, accepted_passes, accepted_parts}
use Rattle.table.proofs.Table.{accepted_table}
use Rattle.strides.specs.Entries.{with_bit, whole_entry, mark_at}
use Rattle.pieces.specs.BinaryTrie.{BinaryTrie, empty, knot, binary_nodes, mark, knot_if, some_begins, binary_below, binary_trie_of, table_binary}
use Rattle.pieces.specs.Rows.{supernodes_of}
use Rattle.pieces.proofs.Depth.{tree_deep}
use Rattle.pieces.proofs.RangeCounts.{table_nodes}
use Rattle.supernodes.specs.Spans.{NODES, CountAsk, CountedNodes}
use Rattle.supernodes.specs.Limits.{node_row}
use Rattle.supernodes.specs.Linked.{link_at, GrowIn, GrowAsk, Grown, Put, sub_at, tree_at}
use Rattle.supernodes.specs.Waiting.{LineIn, LineAsk, Lined, HoldsQueue}
use Rattle.walk.specs.Limits.{HOPS}
use Rattle.supernodes.specs.Fitting.{FitTable, TableLined}
use Rattle.supernodes.specs.Build.{nodes_test, up_to_scratch}
use Rattle.supernodes.proofs.Growing.{link_is}
use Rattle.supernodes.proofs.Linking.{whole_span, whole_tree, whole_count, packed_nodes, root_tree}

-- ---- the tests
module _ (W links : ℕ) (vs ls hs : List ℕ) (words : ℕ) where
  scratch_rest : outcome (up_to_scratch W links vs ls hs words) ≡ and_then (check_of W links vs ls hs) (outcome (nodes_test (table_binary W vs ls hs) words ∷ []))
  unfolding up_to_scratch check_of
  scratch_rest = outcome_append (table_tests W links vs ls hs) (nodes_test (table_binary W vs ls hs) words ∷ [])

  pub scratch_early : {e : Refusal} → Err e ≡ check_of W links vs ls hs → Err e ≡ outcome (up_to_scratch W links vs ls hs words)
  unfolding and_then
  scratch_early e = sym (scratch_rest ∙ rw (sym e) refl)

  module _ (e : Ok tt ≡ check_of W links vs ls hs) where
    checked_table : Table W vs ls hs
    checked_table = accepted_table W links vs ls hs (sym e)

    pub checked_ask : CountAsk W vs ls 0 0 (length vs)
    checked_ask = (0, whole_span W vs ls hs checked_table)

    module _ {c : ℕ} (q : CountedNodes W vs ls 0 0 (length vs) c) where
      pub scratch_short : words / node_row < c → Err (Scratch c) ≡ outcome (up_to_scratch W links vs ls hs words)
      unfolding and_then
      scratch_short h =
          let n = whole_count W vs ls hs c checked_table q in
          let fails = outcome_fails (nodes_test (table_binary W vs ls hs) words) [] (rw (← n) (lt-ltb (words / node_row) c h)) in
          ap (λ (m : ℕ). Err (Scratch m)) n ∙ sym (scratch_rest ∙ rw (sym e) fails)

      pub scratch_passes : c ≤ words / node_row → Ok tt ≡ outcome (up_to_scratch W links vs ls hs words)
      unfolding and_then outcome
      scratch_passes h =
          let n = whole_count W vs ls hs c checked_table q in
          sym (scratch_rest ∙ rw (sym e) (outcome_passes (nodes_test (table_binary W vs ls hs) words) [] (rw (← n) (le-ltb (words / node_row) c h))))

-- ---- a table that passes
pub fit_table : (W links : ℕ) (vs ls hs scratch : List ℕ) → outcome (up_to_scratch W links vs ls hs (length scratch)) ≡ Ok tt → FitTable W vs ls hs scratch
unfolding up_to_scratch check_of
fit_table W links vs ls hs scratch e =
    let t = table_binary W vs ls hs in
    let p = accepted_parts (table_tests W links vs ls hs) (nodes_test t (length scratch) ∷ []) e in
    let s = ltb-false (length scratch / node_row) (binary_nodes t) (accepted_passes (nodes_test t (length scratch)) [] p.1).0 in
    record { table = accepted_table W links vs ls hs p.0; room = omega arith }

-- ---- its marks are hops
abbrev SmallMarks : BinaryTrie → Type 0
SmallMarks empty = Unit {0}
SmallMarks (knot m l r) = (m < HOPS) × SmallMarks l × SmallMarks r

mark_small : (W : ℕ) (val len hop : ℕ → ℕ) → ((i : ℕ) → hop i < HOPS) → (n d q : ℕ) → mark_at W val len hop n d q < HOPS
unfolding mark_at
mark_small W val len hop h zero d q = omega arith
mark_small W val len hop h (suc n) d q = go (whole_entry W val len d q n) (h n) (mark_small W val len hop h n d q)
  where
    go : (b : Bool) → hop n < HOPS → mark_at W val len hop n d q < HOPS → cond b (hop n) (mark_at W val len hop n d q) < HOPS
    go true x y = x
    go false x y = y

below_small : (S : ℕ → ℕ → Bool) (M : ℕ → ℕ → ℕ) → ((d q : ℕ) → M d q < HOPS) → (m d q : ℕ) → SmallMarks (binary_below S M m d q)
unfolding binary_below knot_if
below_small S M h zero d q = tt
below_small S M h (suc m) d q = go (S d q) (below_small S M h m (suc d) (with_bit q 0)) (below_small S M h m (suc d) (with_bit q 1))
  where
    go : (b : Bool) → SmallMarks (binary_below S M m (suc d) (with_bit q 0)) → SmallMarks (binary_below S M m (suc d) (with_bit q 1))
        → SmallMarks (knot_if b (M d q) (binary_below S M m (suc d) (with_bit q 0)) (binary_below S M m (suc d) (with_bit q 1)))
    go true x y = (h d q, x, y)
    go false x y = tt

part_small : (t : BinaryTrie) (i : ℕ) → SmallMarks t → mark (sub_at t i) < HOPS
unfolding sub_at mark
part_small empty i s = omega arith
part_small (knot m l r) zero s = s.0
part_small (knot m l r) (suc i) s = go (ltb i (binary_nodes l)) (part_small l i s.1) (part_small r (i - binary_nodes l) s.2)
  where
    go : (b : Bool) → mark (sub_at l i) < HOPS → mark (sub_at r (i - binary_nodes l)) < HOPS → mark (cond b (sub_at l i) (sub_at r (i - binary_nodes l))) < HOPS
    go true x y = x
    go false x y = y

pub table_small : (W : ℕ) (vs ls hs : List ℕ) → ((i : ℕ) → at hs i < HOPS) → (k : ℕ) → mark (tree_at (table_binary W vs ls hs) k) < HOPS
unfolding tree_at mark binary_trie_of
table_small W vs ls hs h zero = omega arith
table_small W vs ls hs h (suc i) =
    part_small (table_binary W vs ls hs) i
    (below_small (some_begins W (at vs) (at ls) (length vs)) (mark_at W (at vs) (at ls) (at hs) (length vs)) (mark_small W (at vs) (at ls) (at hs) h (length vs)) (suc W) 0 0)

-- ---- it stands in scratch, its supernodes lined up
module _ {W : ℕ} {vs ls hs scratch : List ℕ} (g : FitTable W vs ls hs scratch) where
  abbrev t : BinaryTrie
  t = table_binary W vs ls hs

  grow_in : GrowIn scratch W vs ls hs 0 0 0 (length vs) 0
  grow_in = record {
    span = whole_span W vs ls hs g.table;
    hops = g.table.hops;
    room = rw (whole_tree W vs ls (at hs)) (omega (arith, g.room));
  }

  pub fit_grow : GrowAsk scratch W vs ls hs 0 0 (length vs) 0
  fit_grow = (0, grow_in)

  pub fit_few : binary_nodes t ≤ NODES
  fit_few =
      let w : length vs * suc W ≤ NODES = mul-le-mul {n₂ = entry_limit} {m₂ = suc width_limit} g.table.few (omega (arith, g.table.width)) in
      omega (arith, table_nodes W vs ls hs g.table, w)

  module _ {used : ℕ} {rows : List ℕ} (o : Grown scratch W vs ls hs 0 0 (length vs) 0 used rows) (l : length rows ≡ length scratch) where
    stands : Put scratch 0 t used rows
    stands = subst (λ (x : BinaryTrie). Put scratch 0 x used rows) (whole_tree W vs ls (at hs)) (o 0 grow_in)

    line_in : {root : ℕ} → root ≡ cond (eqb 0 used) 0 1 → LineIn (tree_at t) (binary_nodes t) rows root
    unfolding binary_nodes
    line_in {root} e =
        let p = stands in
        let r : root ≡ link_at 0 t = link_is t 0 used p.end e in
        record {
          nodes = packed_nodes t rows p.packed (omega (arith, g.room));
          link = rw r (first_link t);
          room = rw (r, root_tree t) (omega arith);
        }
      where
        first_link : (x : BinaryTrie) → link_at 0 x ≤ binary_nodes x
        first_link empty = zero-le
        first_link (knot m a b) = omega arith

    pub fit_line : {root : ℕ} → root ≡ cond (eqb 0 used) 0 1 → LineAsk rows root
    fit_line e = (tree_at t, binary_nodes t, line_in e)

    pub fit_lined : {root count : ℕ} {rows' : List ℕ} → root ≡ cond (eqb 0 used) 0 1 → Lined rows root count rows' → TableLined W vs ls hs count rows'
    fit_lined {root} {count} {rows'} e f =
        let r : root ≡ link_at 0 t = link_is t 0 used stands.end e in
        let s : tree_at t root ≡ t = ap (tree_at t) r ∙ root_tree t in
        subst (λ (x : BinaryTrie). HoldsQueue (tree_at t) (binary_nodes t) (supernodes_of W x) count rows') s
        (f (tree_at t) (binary_nodes t) (line_in e) W (rw s (tree_deep W (at vs) (at ls) (at hs) (length vs))))
