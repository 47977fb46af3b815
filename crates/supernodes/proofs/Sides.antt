-- The ranges of a sorted table: what the two sides of a node are, and how many nodes stand below.
use Prim.Native.Nat.{ℕ, suc, ◌+◌, ◌-◌, ◌*◌, ◌/◌, ◌%◌, ◌^◌, ◌≤◌, ◌<◌}
use mathlib.Core.Path.{◌≡◌, refl, sym, ap, subst, ◌∙◌}
use mathlib.Core.Bool.{Bool, true, false, cond}
use mathlib.Core.List.{List}
use native.Mathlib.Nat.{le_refl, mul-le-mul}
use native.Mathlib.Omega.{arith}
use lib.Dec.{eqb}
use lib.ListN.{length}
use borrow.Author.Tests.{lt-ltb}
use Rattle.table.specs.Limits.{width_limit, entry_limit}
use Rattle.table.specs.Prefix.{start}
use Rattle.table.specs.Table.{at}
use Rattle.strides.specs.Trie.{bit}
use Rattle.strides.specs.Entries.{with_bit}
use Rattle.strides.proofs.Paths.{bit_next}
use Rattle.pieces.specs.BinaryTrie.{empty, knot, binary_nodes}
use Rattle.pieces.specs.Ranges.{exact_first, first_mark, past_exact, Turning}
use Rattle.pieces.proofs.RangeCounts.{range_nodes}
use Rattle.pieces.proofs.Ranges.{past_exact_is, left_range, right_range, range_empty, range_tree}
use Rattle.supernodes.specs.Spans.{NODES, Parted, subtree, Span, CountAsk, CountedNodes}

-- the first entry past the exact one, as the code finds it
abbrev pub first_of : List ℕ → ℕ → ℕ → ℕ
first_of ls d from = cond (eqb (at ls from) d) (suc from) from

module _ {W : ℕ} {vs ls : List ℕ} {d q from to : ℕ} (s : Span W vs ls d q from to) where
  pub span_low : (from ≤ to) × (to ≤ length vs) × (length ls ≡ length vs) × (length vs ≤ entry_limit) × (W ≤ width_limit)
  span_low = (s.range.ordered, s.range.within, s.table.lengths, s.table.few, s.table.width)

  pub span_empty : from ≡ to → (mark : ℕ → ℕ) → subtree W vs ls mark d q ≡ empty
  unfolding subtree
  span_empty e mark = range_empty W (at vs) (at ls) mark (length vs) s.table.prefix s.table.sorted d q from to s.range (suc W - d) e

  module _ (h : from < to) where
    -- `past_exact` is what the code finds, and the mark too
    first_past : past_exact (at ls) from to d ≡ first_of ls d from
    unfolding past_exact exact_first
    first_past = rw (lt-ltb from to h) refl

    mark_first : (mark : ℕ → ℕ) → first_mark (at ls) mark from to d ≡ cond (eqb (at ls from) d) (mark from) 0
    unfolding first_mark exact_first
    mark_first mark = rw (lt-ltb from to h) refl

    pub first_low : (first : ℕ) → first ≡ first_of ls d from → (from ≤ first) × (first ≤ to)
    first_low first e = go (eqb (at ls from) d) refl
      where
        go : (b : Bool) → eqb (at ls from) d ≡ b → (from ≤ first) × (first ≤ to)
        go true f = let z : first ≡ suc from = e ∙ rw f refl in (omega arith, omega arith)
        go false f = let z : first ≡ from = e ∙ rw f refl in (omega arith, omega arith)

    pub tree_is : (mark : ℕ → ℕ) → subtree W vs ls mark d q
        ≡ knot (cond (eqb (at ls from) d) (mark from) 0) (subtree W vs ls mark (suc d) (with_bit q 0)) (subtree W vs ls mark (suc d) (with_bit q 1))
    unfolding subtree
    tree_is mark =
        let a : suc W - d ≡ suc (W - d) = omega (arith, s.deep) in
        let b : suc W - suc d ≡ W - d = omega (arith, s.deep) in
        rw (a, b) (range_tree W (at vs) (at ls) mark (length vs) s.table.prefix s.table.sorted d q from to s.range (W - d) h
        ∙ rw (mark_first mark) refl)

    module _ {first : ℕ} (e : first ≡ first_of ls d from) where
      is_past_lem : first ≡ past_exact (at ls) from to d
      is_past_lem = e ∙ sym first_past

      inside : (i : ℕ) → first ≤ i → i < to → (d < at ls i) × (start W d (at vs i) ≡ q)
      inside i a b =
          (past_exact_is W (at vs) (at ls) (λ x. x) (length vs) s.table.prefix s.table.sorted d q from to s.range i (omega (arith, s.range.within))).0
          (subst (λ (x : ℕ). x ≤ i) is_past_lem a, b)

      -- an entry is left, so there is a bit more
      pub deeper : first < to → d < W
      deeper l = omega (arith, (inside first (le_refl first) l).0, (s.table.prefix first (omega (arith, s.range.within))).short)

      module _ {mid n : ℕ} (k : n ≡ W - d - 1) (l : first < to) (p : Parted vs n first to mid) where
        turn : Turning W (at vs) d q (past_exact (at ls) from to d) to mid
        unfolding start bit
        turn = subst (λ (x : ℕ). Turning W (at vs) d q x to mid) is_past_lem (record {
          low = p.low;
          high = p.high;
          zeros = λ i a b. next i a (omega (arith, p.high)) 0 (p.zeros i a b);
          one = λ a. next mid p.low a 1 (p.one a);
        })
          where
            next : (i : ℕ) → first ≤ i → i < to → (b : ℕ) → at vs i / 2 ^ n % 2 ≡ b → start W (suc d) (at vs i) ≡ with_bit q b
            next i a c b f =
                let w = inside i a c in
                let y = deeper l in
                let z : W - suc d ≡ n = omega arith in
                let u : W - d ≡ suc n = omega arith in
                rw z (bit_next n (at vs i) q (rw u at w.1) ∙ ap (with_bit q) f)

        pub left_span : {d' : ℕ} → d' ≡ suc d → Span W vs ls d' (with_bit q 0) first mid
        left_span g = record {
          table = s.table;
          deep = omega (arith, deeper l);
          range = rw (g, is_past_lem) (left_range W (at vs) (at ls) (λ x. x) (length vs) s.table.prefix s.table.sorted d q from to s.range mid turn);
        }

        pub right_span : {d' : ℕ} → d' ≡ suc d → Span W vs ls d' (with_bit q 1) mid to
        right_span g = record {
          table = s.table;
          deep = omega (arith, deeper l);
          range = rw g (right_range W (at vs) (at ls) (λ x. x) (length vs) s.table.prefix s.table.sorted d q from to s.range mid turn);
        }

      -- no entry is left: a node without sides
      pub tree_leaf : first ≡ to → (mark : ℕ → ℕ) → subtree W vs ls mark d q ≡ knot (cond (eqb (at ls from) d) (mark from) 0) empty empty
      unfolding subtree
      tree_leaf z mark =
          let f : past_exact (at ls) from to d ≡ to = sym is_past_lem ∙ z in
          let t : Turning W (at vs) d q (past_exact (at ls) from to d) to to =
          record { low = omega arith; high = le_refl to; zeros = λ i a b. absurd (omega arith); one = λ a. absurd (omega arith) } in
          let x = range_empty W (at vs) (at ls) mark (length vs) s.table.prefix s.table.sorted (suc d) (with_bit q 0) (past_exact (at ls) from to d) to
          (left_range W (at vs) (at ls) mark (length vs) s.table.prefix s.table.sorted d q from to s.range to t) (suc W - suc d) f in
          let y = range_empty W (at vs) (at ls) mark (length vs) s.table.prefix s.table.sorted (suc d) (with_bit q 1) to to
          (right_range W (at vs) (at ls) mark (length vs) s.table.prefix s.table.sorted d q from to s.range to t) (suc W - suc d) refl in
          tree_is mark ∙ rw (x, y) refl

-- ---- the count of nodes
pub nodes_none : {W : ℕ} {vs ls : List ℕ} {d from to : ℕ} → from ≡ to → CountedNodes W vs ls d from to 0
unfolding binary_nodes
nodes_none e q s mark = rw (span_empty s e mark) refl

module _ {W : ℕ} {vs ls : List ℕ} {d from to : ℕ} (c : CountAsk W vs ls d from to) (ne : from ≡ to → ⊥) {first : ℕ} (e : first ≡ first_of ls d from) where
  pub some_entry : from < to
  some_entry = omega (arith, c.1.range.ordered)

  pub count_leaf : first ≡ to → CountedNodes W vs ls d from to 1
  unfolding binary_nodes
  count_leaf z q s mark = rw (tree_leaf s some_entry e z mark) refl

  module _ (ne2 : first ≡ to → ⊥) where
    pub more_entries : first < to
    more_entries = omega (arith, first_low c.1 some_entry first e)

    -- a bit is left where they part
    pub bit_left : d < W
    bit_left = deeper c.1 some_entry e more_entries

    module _ {mid n : ℕ} (k : n ≡ W - d - 1) (p : Parted vs n first to mid) {d' : ℕ} (g : d' ≡ suc d) where
      pub left_ask : CountAsk W vs ls d' first mid
      left_ask = (with_bit c.0 0, left_span c.1 some_entry e k more_entries p g)

      pub right_ask : CountAsk W vs ls d' mid to
      right_ask = (with_bit c.0 1, right_span c.1 some_entry e k more_entries p g)

      module _ {a b : ℕ} (x : CountedNodes W vs ls d' first mid a) (y : CountedNodes W vs ls d' mid to b) where
        pub count_both : CountedNodes W vs ls d from to (a + b + 1)
        unfolding binary_nodes
        count_both q s mark = whole q s mark (tree_is s some_entry mark)
            (x (with_bit q 0) (left_span s some_entry e k more_entries p g) mark) (y (with_bit q 1) (right_span s some_entry e k more_entries p g) mark)
          where
            whole : (q : ℕ) → Span W vs ls d q from to → (mark : ℕ → ℕ) {m : ℕ}
                → subtree W vs ls mark d q ≡ knot m (subtree W vs ls mark (suc d) (with_bit q 0)) (subtree W vs ls mark (suc d) (with_bit q 1))
                → a ≡ binary_nodes (subtree W vs ls mark d' (with_bit q 0)) → b ≡ binary_nodes (subtree W vs ls mark d' (with_bit q 1))
                → a + b + 1 ≡ binary_nodes (subtree W vs ls mark d q)
            whole q s mark t i j = rw t (omega (arith, rw g at i, rw g at j))

-- what the sum of two counts is at most
pub nodes_few : {W : ℕ} {vs ls : List ℕ} {d from to r : ℕ} → CountAsk W vs ls d from to → CountedNodes W vs ls d from to r → r ≤ NODES
unfolding subtree
nodes_few {W} {vs} {ls} {d} {from} {to} (q, s) x =
    let f = span_low s in
    let one : ℕ → ℕ = λ i. 1 in
    let n = range_nodes W (at vs) (at ls) one (length vs) s.table.prefix s.table.sorted (λ i h. omega arith) (suc W - d) d q from to s.range (omega (arith, s.deep)) in
    let w : (to - from) * (suc W - d) ≤ NODES = mul-le-mul {n₂ = entry_limit} {m₂ = suc width_limit} (omega (arith, f)) (omega (arith, f)) in
    omega (arith, x q s one, n, w)
