-- Ranges of a sorted table against its trie: where a node stands, which marks it has, and the ranges of its two sides.
use mathlib.Core.Path.{◌≡◌, refl, sym, ap, subst, ◌∙◌}
use mathlib.Core.Bool.{Bool, true, false, cond, true≢false}
use mathlib.Core.Logic.{◌⊎◌, inl, inr, ⊎_elim, ◌↔◌}
use Prim.Native.Nat.{ℕ, zero, suc, ◌-◌, ◌/◌, ◌%◌, ◌^◌, ◌≤◌, ◌<◌, zero-le}
use native.Mathlib.Nat.{le_refl}
use native.Mathlib.Omega.{arith}
use native.Mathlib.Decide.{dec_le}
use lib.Dec.{eqb, ltb}
use borrow.Author.Tests.{eqb-true, eq-eqb, ltb-true, lt-ltb}
use Rattle.table.specs.Prefix.{start, IsPrefix}
use Rattle.table.specs.Entry.{Below}
use Rattle.table.proofs.Bools.{and_true}
use Rattle.table.proofs.Prefix.{below_le}
use Rattle.table.proofs.Starts.{start_mono, start_least, start_none}
use Rattle.strides.specs.Entries.{with_bit, mark_at}
use Rattle.strides.proofs.Bools.{not_so}
use Rattle.strides.proofs.Paths.{with_bit_half}
use Rattle.strides.proofs.Entries.{start_half, whole_is, whole_of, mark_missing}
use Rattle.strides.proofs.Sets.{mark_at_lem}
use Rattle.pieces.specs.BinaryTrie.{BinaryTrie, empty, knot, some_begins, knot_if, binary_below}
use Rattle.pieces.proofs.Begins.{begins_is, begins_of}
use Rattle.pieces.specs.Ranges.{Ranged, exact_first, first_mark, past_exact, Turning}

module _ (W : ℕ) (val len mark : ℕ → ℕ) (n : ℕ) (prefix : (i : ℕ) → i < n → IsPrefix W (val i) (len i))
    (sorted : (i j : ℕ) → i < j → j < n → Below (val i) (len i) (val j) (len j)) where
  -- equal prefixes are one entry
  one_entry : (i j : ℕ) → i < n → j < n → val i ≡ val j → len i ≡ len j → i ≡ j
  one_entry i j h g e f = go (dec_le (suc i) j) (dec_le (suc j) i)
    where
      clash : (i j : ℕ) → val i ≡ val j → len i ≡ len j → Below (val i) (len i) (val j) (len j) → ⊥
      clash i j e f (inl a) = omega arith
      clash i j e f (inr a) = omega (arith, a.1)

      go : Dec (suc i ≤ j) → Dec (suc j ≤ i) → i ≡ j
      go (yes a) b = absurd (clash i j e f (sorted i j a g))
      go (no a) (yes b) = absurd (clash j i (sym e) (sym f) (sorted j i b h))
      go (no a) (no b) = omega arith

  module _ (d q from to : ℕ) (r : Ranged W val len n d q from to) where
    -- the entry that is these bits can only be the first
    exact_first_lem : (i : ℕ) → i < n → len i ≡ d → start W d (val i) ≡ q → i ≡ from
    exact_first_lem i h e f =
        let at = (r.exactly i h).1 (omega arith, f) in
        go (dec_le (suc from) i) at.0 at.1
      where
        go : Dec (suc from ≤ i) → from ≤ i → i < to → i ≡ from
        go (no a) b c = omega arith
        go (yes a) b c = absurd (⊎_elim (λ (w : val from < val i). omega (arith, least)) (λ (w : (val from ≡ val i) × (len from < len i)). omega (arith, w.1, first.0)) (sorted from i a h))
          where
            first : (d ≤ len from) × (start W d (val from) ≡ q)
            first = (r.exactly from (omega (arith, r.within))).0 (le_refl from, omega arith)

            least : val i ≤ val from
            least = start_least W d (val i) (val from) (subst (λ (l : ℕ). val i % 2 ^ (W - l) ≡ 0) e (prefix i h).clear) (first.1 ∙ sym f)

    is_first : exact_first len from to d ≡ true → (from < to) × (len from ≡ d)
    unfolding exact_first
    is_first e = let w = and_true (ltb from to) (eqb (len from) d) e in (ltb-true _ _ w.0, eqb-true _ _ w.1)

    first_is : (from < to) → len from ≡ d → exact_first len from to d ≡ true
    unfolding exact_first
    first_is h e = simp (lt-ltb from to h, eq-eqb _ _ e)

    -- past it stand those of which the bits are a proper start
    pub past_exact_is : (i : ℕ) → i < n → ((past_exact len from to d ≤ i) × (i < to)) ↔ ((d < len i) × (start W d (val i) ≡ q))
    unfolding past_exact
    past_exact_is i h = (λ w. go (exact_first len from to d) refl w.0 w.1, λ w. back (exact_first len from to d) refl w.0 w.1)
      where
        go : (b : Bool) → exact_first len from to d ≡ b → cond b (suc from) from ≤ i → i < to → (d < len i) × (start W d (val i) ≡ q)
        go true e a c =
            let at = (r.exactly i h).0 (omega arith, c) in
            (over (dec_le (len i) d) at.0 at.1, at.1)
          where
            over : Dec (len i ≤ d) → d ≤ len i → start W d (val i) ≡ q → d < len i
            over (yes s) g f = absurd (omega (arith, exact_first_lem i h (omega arith) f))
            over (no s) g f = omega arith
        go false e a c =
            let at = (r.exactly i h).0 (a, c) in
            (over (dec_le (len i) d) at.0 at.1, at.1)
          where
            over : Dec (len i ≤ d) → d ≤ len i → start W d (val i) ≡ q → d < len i
            over (yes s) g f =
                let z : i ≡ from = exact_first_lem i h (omega arith) f in
                absurd (true≢false (sym (first_is (omega arith) (subst (λ (j : ℕ). len j ≡ d) z (omega arith))) ∙ e))
            over (no s) g f = omega arith

        back : (b : Bool) → exact_first len from to d ≡ b → d < len i → start W d (val i) ≡ q → (cond b (suc from) from ≤ i) × (i < to)
        back true e g f =
            let at = (r.exactly i h).1 (omega arith, f) in
            let ne : i ≡ from → ⊥ = λ z. omega (arith, (is_first e).1, ap len z) in
            (apart at.0 ne, at.1)
          where
            apart : from ≤ i → (i ≡ from → ⊥) → suc from ≤ i
            apart a ne = omega (arith)
        back false e g f = (r.exactly i h).1 (omega arith, f)

    -- a node stands there exactly where there are entries
    pub range_none : from ≡ to → some_begins W val len n d q ≡ false
    range_none e = not_so _ (λ t.
        let s = begins_is W val len n d q t in
        let w = (r.exactly s.0 s.1).1 (s.2, s.3) in
        omega (arith, w.0, w.1, e))

    pub range_node : from < to → some_begins W val len n d q ≡ true
    range_node l =
        let w = (r.exactly from (omega (arith, r.within))).0 (le_refl from, l) in
        begins_of W val len n d q (from, omega (arith, r.within), w.0, w.1)

    -- the mark of these bits
    pub range_mark : mark_at W val len mark n d q ≡ first_mark len mark from to d
    unfolding first_mark
    range_mark = go (exact_first len from to d) refl
      where
        go : (b : Bool) → exact_first len from to d ≡ b → mark_at W val len mark n d q ≡ cond b (mark from) 0
        go true e =
            let s = is_first e in
            let h : from < n = omega (arith, s.0, r.within) in
            let w = (r.exactly from h).0 (le_refl from, s.0) in
            mark_at_lem W val len mark n d q from prefix (λ i j hi hj a b. ap mark (one_entry i j hi hj a b)) h (whole_of W val len d q from s.1 w.1)
        go false e = mark_missing W val len mark n d q (λ i h. not_so _ (λ t.
            let x = whole_is W val len d q i t in
            let z : i ≡ from = exact_first_lem i h x.0 x.1 in
            let w = (r.exactly i h).1 (omega (arith, x.0), x.1) in
            true≢false (sym (first_is (omega (arith, w.1, z)) (subst (λ (j : ℕ). len j ≡ d) z x.0)) ∙ e)))

    -- the two sides
    module _ (mid : ℕ) (t : Turning W val d q (past_exact len from to d) to mid) where
      ones : (i : ℕ) → i < n → mid ≤ i → i < to → d < len i → start W d (val i) ≡ q → start W (suc d) (val i) ≡ with_bit q 1
      ones i h a b g f =
          let half : start W (suc d) (val i) / 2 ≡ q = start_half W d (val i) (omega (arith, (prefix i h).short)) ∙ f in
          let up : start W (suc d) (val mid) ≤ start W (suc d) (val i) = ⊎_elim
          (λ (z : mid ≡ i). subst (λ (j : ℕ). start W (suc d) (val mid) ≤ start W (suc d) (val j)) z (le_refl _))
          (λ (z : mid < i). start_mono W (suc d) (val mid) (val i) (below_le (sorted mid i z h))) (same a) in
          omega (arith, half, up, t.one (omega arith))
        where
          same : mid ≤ i → (mid ≡ i) ⊎ (mid < i)
          same l = elim (dec_le i mid) [ yes s ↦ inl (omega arith) | no s ↦ inr (omega arith) ]

      pub left_range : Ranged W val len n (suc d) (with_bit q 0) (past_exact len from to d) mid
      left_range = record {
        ordered = t.low;
        within = omega (arith, t.high, r.within);
        exactly = λ i h. (
          (λ w. (((past_exact_is i h).0 (w.0, omega (arith, w.1, t.high))).0, t.zeros i w.0 w.1)),
          (λ w. left i h w.0 w.1),
        );
      }
        where
          left : (i : ℕ) → i < n → suc d ≤ len i → start W (suc d) (val i) ≡ with_bit q 0 → (past_exact len from to d ≤ i) × (i < mid)
          left i h g f =
              let up : start W d (val i) ≡ q = sym (start_half W d (val i) (omega (arith, (prefix i h).short))) ∙ ap (λ (x : ℕ). x / 2) f ∙ with_bit_half q 0 in
              let w = (past_exact_is i h).1 (g, up) in
              (w.0, elim (dec_le mid i) [ yes s ↦ absurd (omega (arith, f, ones i h s w.1 g up)) | no s ↦ omega arith ])

      pub right_range : Ranged W val len n (suc d) (with_bit q 1) mid to
      right_range = record {
        ordered = t.high;
        within = r.within;
        exactly = λ i h. (
          (λ w. let u = (past_exact_is i h).0 (omega (arith, w.0, t.low), w.1) in (u.0, ones i h w.0 w.1 u.0 u.1)),
          (λ w. right i h w.0 w.1),
        );
      }
        where
          right : (i : ℕ) → i < n → suc d ≤ len i → start W (suc d) (val i) ≡ with_bit q 1 → (mid ≤ i) × (i < to)
          right i h g f =
              let up : start W d (val i) ≡ q = sym (start_half W d (val i) (omega (arith, (prefix i h).short))) ∙ ap (λ (x : ℕ). x / 2) f ∙ with_bit_half q 1 in
              let w = (past_exact_is i h).1 (g, up) in
              (elim (dec_le mid i) [ yes s ↦ s | no s ↦ absurd (omega (arith, f, t.zeros i w.0 (omega arith))) ], w.1)

module _ (W : ℕ) (val len mark : ℕ → ℕ) (n : ℕ) (prefix : (i : ℕ) → i < n → IsPrefix W (val i) (len i))
    (sorted : (i j : ℕ) → i < j → j < n → Below (val i) (len i) (val j) (len j)) (d q from to : ℕ) (r : Ranged W val len n d q from to) where
  abbrev below : ℕ → ℕ → ℕ → BinaryTrie
  below = binary_below (some_begins W val len n) (mark_at W val len mark n)

  -- where there is no entry, nothing stands
  pub range_empty : (m : ℕ) → from ≡ to → below m d q ≡ empty
  unfolding binary_below knot_if
  range_empty zero e = refl
  range_empty (suc m) e = rw (range_none W val len mark n prefix sorted d q from to r e) refl

  -- else a node, with the mark of the first entry where that is these bits
  pub range_tree : (m : ℕ) → from < to → below (suc m) d q ≡ knot (first_mark len mark from to d) (below m (suc d) (with_bit q 0)) (below m (suc d) (with_bit q 1))
  unfolding binary_below knot_if
  range_tree m h = rw (range_node W val len mark n prefix sorted d q from to r h, range_mark W val len mark n prefix sorted d q from to r) refl

-- the whole table starts with no bits
pub whole_range : (W : ℕ) (val len : ℕ → ℕ) (n : ℕ) → ((i : ℕ) → i < n → IsPrefix W (val i) (len i)) → Ranged W val len n 0 0 0 n
whole_range W val len n prefix = record {
  ordered = zero-le;
  within = le_refl n;
  exactly = λ i h. ((λ w. (zero-le, start_none W (val i) (prefix i h).small)), (λ w. (zero-le, h)));
}
