-- The binary trie is the 1-bit trie with a mark over each node; and what stands where an address's first bits lead: a node where they
-- begin some entry, with the mark of the entry that they are.
use Prim.Native.Nat.{ℕ, zero, suc, ◌+◌, ◌-◌, ◌/◌, ◌^◌, ◌≤◌, ◌<◌}
use mathlib.Core.Path.{◌≡◌, refl, sym, ap, ◌∙◌}
use mathlib.Core.Bool.{Bool, true, false, cond, ◌&&◌, ◌||◌}
use native.Mathlib.Omega.{arith}
use lib.Dec.{eqb, ltb, leb}
use borrow.Author.Tests.{lt-ltb, le-ltb, ltb-false, eq-eqb, ne_eqb, le-leb, lt-leb}
use native.Mathlib.Decide.{dec_le}
use lib.Pow.{shr-shr}
use Rattle.table.specs.Prefix.{start}
use Rattle.table.proofs.Bools.{or_false}
use Rattle.table.proofs.Starts.{start_none}
use Rattle.strides.specs.Trie.{bit}
use Rattle.strides.specs.Entries.{with_bit, node_if, trie_below, beyond, proper_start, whole_entry, some_start, mark_at, trie_of, floor_of}
use Rattle.strides.proofs.Paths.{bit_next}
use Rattle.table.specs.Prefix.{IsPrefix}
use Rattle.strides.proofs.Bools.{or_right}
use Rattle.strides.proofs.Entries.{Closed, closed}
use Rattle.pieces.specs.Maps.{subtrie_along, is_node}
use Rattle.pieces.specs.BinaryTrie.{BinaryTrie, empty, knot, begins_entry, some_begins, knot_if, binary_below, binary_trie_of, leaf, over, mark, side_of}

-- ---- where the nodes are
-- the bits begin an entry exactly where they are one, or a proper start of one
begins_or : (W : ℕ) (val len : ℕ → ℕ) (d q i : ℕ) → begins_entry W val len d q i ≡ (whole_entry W val len d q i || proper_start W val len d q i)
unfolding begins_entry whole_entry proper_start beyond
begins_or W val len d q i = go (eqb (start W d (val i)) q)
  where
    three : (leb d (len i) ≡ (eqb (len i) d || ltb d (len i)))
    three = elim (dec_le d (len i)) [
      | no l ↦ simp (lt-leb d (len i) (omega arith), ne_eqb (len i) d (λ e. omega arith), le-ltb d (len i) (omega arith))
      | yes l ↦ elim (dec_le (suc d) (len i)) [
        | yes k ↦ simp (le-leb d (len i) l, ne_eqb (len i) d (λ e. omega arith), lt-ltb d (len i) k)
        | no k ↦ simp (le-leb d (len i) l, eq-eqb (len i) d (omega arith))
      ]
    ]

    both : (y z b : Bool) → ((y || z) && b) ≡ ((y && b) || (z && b))
    both true z true = refl
    both true true false = refl
    both true false false = refl
    both false z b = refl

    go : (b : Bool) → (leb d (len i) && b) ≡ ((eqb (len i) d && b) || (ltb d (len i) && b))
    go b = ap (λ (x : Bool). x && b) three ∙ both (eqb (len i) d) (ltb d (len i)) b

-- and so over all entries, where marks are not 0
pub some_or : (W : ℕ) (val len mark : ℕ → ℕ) (n : ℕ) → ((i : ℕ) → i < n → 0 < mark i) → (d q : ℕ)
    → some_begins W val len n d q ≡ (ltb 0 (mark_at W val len mark n d q) || some_start W val len n d q)
unfolding some_begins mark_at some_start
some_or W val len mark zero h d q = refl
some_or W val len mark (suc n) h d q =
    ap (λ (x : Bool). x || some_begins W val len n d q) (begins_or W val len d q n)
    ∙ ap (λ (x : Bool). (whole_entry W val len d q n || proper_start W val len d q n) || x) (some_or W val len mark n (λ i l. h i (omega arith)) d q)
    ∙ go (whole_entry W val len d q n) (proper_start W val len d q n) (mark_at W val len mark n d q) (some_start W val len n d q)
  where
    swap : (p m s : Bool) → (p || (m || s)) ≡ (m || (p || s))
    swap true true s = refl
    swap true false s = refl
    swap false m s = refl

    go : (e p : Bool) (m : ℕ) (s : Bool) → ((e || p) || (ltb 0 m || s)) ≡ (ltb 0 (cond e (mark n) m) || (p || s))
    go true p m s = rw (lt-ltb 0 (mark n) (h n (omega arith))) refl
    go false p m s = swap p (ltb 0 m) s

-- ---- the binary trie is the 1-bit trie with a mark over each node
knot_leaf : (x : ℕ) (l r : BinaryTrie) → l ≡ empty → r ≡ empty → knot_if (ltb 0 x || false) x l r ≡ leaf x
unfolding knot_if leaf
knot_leaf zero l r p q = refl
knot_leaf (suc x) l r p q = rw (p, q, lt-ltb 0 (suc x) (omega arith)) refl

module _ (S S' : ℕ → ℕ → Bool) (M : ℕ → ℕ → ℕ) (c : Closed S' M) (or : (d q : ℕ) → S d q ≡ (ltb 0 (M d q) || S' d q)) where
  -- no node below no node
  down : (d q i : ℕ) → S d q ≡ false → S (suc d) (with_bit q i) ≡ false
  down d q i e =
      let f = (or_false (ltb 0 (M d q)) (S' d q) (sym (or d q) ∙ e)).1 in
      or (suc d) (with_bit q i) ∙ rw (c.marks d q i f, c.starts d q i f) refl

  empty_below : (m d q : ℕ) → S d q ≡ false → binary_below S M m d q ≡ empty
  unfolding binary_below knot_if
  empty_below zero d q e = refl
  empty_below (suc m) d q e = rw e refl

  -- no proper start here: a node of its own, or nothing
  ends : (m d q : ℕ) → S' d q ≡ false → binary_below S M (suc m) d q ≡ leaf (M d q)
  unfolding binary_below
  ends m d q e =
      ap (λ (b : Bool). knot_if b (M d q) (binary_below S M m (suc d) (with_bit q 0)) (binary_below S M m (suc d) (with_bit q 1))) (or d q ∙ ap (λ (b : Bool). ltb 0 (M d q) || b) e)
      ∙ knot_leaf (M d q) (binary_below S M m (suc d) (with_bit q 0)) (binary_below S M m (suc d) (with_bit q 1)) (none 0) (none 1)
    where
      none : (i : ℕ) → binary_below S M m (suc d) (with_bit q i) ≡ empty
      none i = empty_below m (suc d) (with_bit q i) (or (suc d) (with_bit q i) ∙ rw (c.marks d q i e, c.starts d q i e) refl)

  -- the subtrie where the bits y lead, of which the first are q
  side_below : (m d q i : ℕ) → i < 2 → side_of i (binary_below S M (suc m) d q) ≡ binary_below S M m (suc d) (with_bit q i)
  unfolding binary_below knot_if
  side_below m d q i h = go (S d q) refl i h
    where
      go : (b : Bool) → S d q ≡ b → (i : ℕ) → i < 2
          → side_of i (knot_if b (M d q) (binary_below S M m (suc d) (with_bit q 0)) (binary_below S M m (suc d) (with_bit q 1))) ≡ binary_below S M m (suc d) (with_bit q i)
      go true e zero h = refl
      go true e (suc zero) h = refl
      go true e (suc (suc i)) h = absurd (omega arith)
      go false e i h = sym (empty_below m (suc d) (with_bit q i) (down d q i e))

  pub along_below : (j m d q y : ℕ) → y / 2 ^ j ≡ q → subtrie_along j (binary_below S M (j + m) d q) y ≡ binary_below S M m (j + d) y
  unfolding subtrie_along bit
  along_below zero m d q y e =
      let a : zero + m ≡ m = omega arith in
      let b : zero + d ≡ d = omega arith in
      let z : q ≡ y = sym e ∙ omega arith in
      rw (a, b, z) refl
  along_below (suc j) m d q y e =
      let a : suc j + m ≡ suc (j + m) = omega arith in
      let b : suc j + d ≡ j + suc d = omega arith in
      ap (λ (k : ℕ). subtrie_along j (side_of (bit j y) (binary_below S M k d q)) y) a
      ∙ ap (λ (u : BinaryTrie). subtrie_along j u y) (side_below (j + m) d q (bit j y) (omega arith))
      ∙ along_below j m (suc d) (with_bit q (bit j y)) y (bit_next j y q e)
      ∙ ap (λ (k : ℕ). binary_below S M m k y) (sym b)

  pub is_node_below : (m d q : ℕ) → is_node (binary_below S M (suc m) d q) ≡ S d q
  unfolding binary_below knot_if is_node
  is_node_below m d q = go (S d q)
    where
      go : (b : Bool) → is_node (knot_if b (M d q) (binary_below S M m (suc d) (with_bit q 0)) (binary_below S M m (suc d) (with_bit q 1))) ≡ b
      go true = refl
      go false = refl

  mark_binary_below : (m d q : ℕ) → mark (binary_below S M (suc m) d q) ≡ M d q
  unfolding binary_below knot_if mark
  mark_binary_below m d q = go (S d q) refl
    where
      go : (b : Bool) → S d q ≡ b → mark (knot_if b (M d q) (binary_below S M m (suc d) (with_bit q 0)) (binary_below S M m (suc d) (with_bit q 1))) ≡ M d q
      go true e = refl
      go false e = omega (arith, ltb-false 0 (M d q) (or_false (ltb 0 (M d q)) (S' d q) (sym (or d q) ∙ e)).0)

  starts : (m d q : ℕ) → S' d q ≡ true
      → binary_below S M (suc m) d q ≡ knot (M d q) (binary_below S M m (suc d) (with_bit q 0)) (binary_below S M m (suc d) (with_bit q 1))
  unfolding binary_below knot_if
  starts m d q e = rw (or d q, e, or_right (ltb 0 (M d q))) refl

  pub tree_over : (m d q : ℕ) → ((k : ℕ) → S' (m + d) k ≡ false) → binary_below S M (suc m) d q ≡ over (M d q) (trie_below S' M m d q)
  unfolding over trie_below node_if
  tree_over zero d q h = let z : 0 + d ≡ d = omega arith in ends zero d q (rw z at (h q))
  tree_over (suc m) d q h =
      let z : m + suc d ≡ suc m + d = omega arith in
      go (S' d q) refl (tree_over m (suc d) (with_bit q 0) (rw z h)) (tree_over m (suc d) (with_bit q 1) (rw z h))
    where
      go : (b : Bool) → S' d q ≡ b
          → binary_below S M (suc m) (suc d) (with_bit q 0) ≡ over (M (suc d) (with_bit q 0)) (trie_below S' M m (suc d) (with_bit q 0))
          → binary_below S M (suc m) (suc d) (with_bit q 1) ≡ over (M (suc d) (with_bit q 1)) (trie_below S' M m (suc d) (with_bit q 1))
          → binary_below S M (suc (suc m)) d q
          ≡ over (M d q) (node_if b (M (suc d) (with_bit q 0)) (trie_below S' M m (suc d) (with_bit q 0)) (M (suc d) (with_bit q 1)) (trie_below S' M m (suc d) (with_bit q 1)))
      go true e x y = starts (suc m) d q e ∙ rw (x, y) refl
      go false e x y = ends (suc m) d q e

-- ---- the whole table
module _ (W : ℕ) (val len hop : ℕ → ℕ) (n : ℕ) (prefix : (i : ℕ) → i < n → IsPrefix W (val i) (len i)) (some_hop : (i : ℕ) → i < n → 0 < hop i) where
  no_longer : (k q : ℕ) → k ≤ n → some_start W val len k W q ≡ false
  unfolding some_start proper_start beyond
  no_longer zero q h = refl
  no_longer (suc k) q h = rw (le-ltb W (len k) (prefix k (omega arith)).short, no_longer k q (omega arith)) refl

  pub tree_over_trie : binary_trie_of W val len hop n ≡ over (floor_of W val len hop n) (trie_of W val len hop n)
  unfolding binary_trie_of trie_of floor_of
  tree_over_trie =
      tree_over (some_begins W val len n) (some_start W val len n) (mark_at W val len hop n) (closed W val len hop n (λ i h. (prefix i h).short))
      (some_or W val len hop n some_hop) W 0 0 (λ k. let z : W + 0 ≡ W = omega arith in rw z (no_longer n k (omega arith)))

  -- where the first d bits of an address lead
  module _ (a d : ℕ) (small : a < 2 ^ W) (within : d ≤ W) where
    abbrev S : ℕ → ℕ → Bool
    S = some_begins W val len n

    abbrev S' : ℕ → ℕ → Bool
    S' = some_start W val len n

    abbrev M : ℕ → ℕ → ℕ
    M = mark_at W val len hop n

    along_start : subtrie_along d (binary_trie_of W val len hop n) (start W d a) ≡ binary_below S M (suc (W - d)) d (start W d a)
    unfolding binary_trie_of start
    along_start =
        let e : suc W ≡ d + suc (W - d) = omega arith in
        let f : d + 0 ≡ d = omega arith in
        let z : a / 2 ^ (W - d) / 2 ^ d ≡ 0 = shr-shr a (W - d) d ∙ ap (λ (k : ℕ). a / 2 ^ k) (omega arith) ∙ start_none W a small in
        ap (λ (k : ℕ). subtrie_along d (binary_below S M k 0 0) (a / 2 ^ (W - d))) e
        ∙ along_below S S' M (closed W val len hop n (λ i h. (prefix i h).short)) (some_or W val len hop n some_hop) d (suc (W - d)) 0 0 (a / 2 ^ (W - d)) z
        ∙ ap (λ (k : ℕ). binary_below S M (suc (W - d)) k (a / 2 ^ (W - d))) f

    -- a node stands there exactly where they begin some entry
    pub node_at : is_node (subtrie_along d (binary_trie_of W val len hop n) (start W d a)) ≡ some_begins W val len n d (start W d a)
    node_at =
        ap is_node along_start
        ∙ is_node_below S S' M (closed W val len hop n (λ i h. (prefix i h).short)) (some_or W val len hop n some_hop) (W - d) d (start W d a)

    -- and has the mark of the entry that they are, 0 where they are none
    pub mark_on_lem : mark (subtrie_along d (binary_trie_of W val len hop n) (start W d a)) ≡ mark_at W val len hop n d (start W d a)
    mark_on_lem =
        ap mark along_start
        ∙ mark_binary_below S S' M (closed W val len hop n (λ i h. (prefix i h).short)) (some_or W val len hop n some_hop) (W - d) d (start W d a)
