-- Writing the rows below a node: one row at the end of a path, else the half of each side. What each part asks, and how what it
-- gives goes together.
use Prim.Native.Nat.{ℕ, suc, ◌+◌, ◌-◌, ◌*◌, ◌/◌, ◌%◌, ◌^◌, ◌≤◌, ◌<◌}
use mathlib.Core.Path.{◌≡◌, refl, sym, ap, ◌∙◌}
use mathlib.Core.List.{List}
use native.Mathlib.Omega.{arith}
use native.Mathlib.Nat.{zero-add, add-zero, add_assoc, one-mul, pow-suc, div-eq_of_lt}
use native.Mathlib.Decide.{dec_le}
use lib.ListN.{length, get_or, set, replicate}
use lib.Seq.{get_or-set_same, get_or-set_other}
use borrow.Rule.Slice.PartMut.{mid_of, put_mid}
use Rattle.std.proofs.lemmas.Grind.{common_steps}
use lib.Pow.{pow_mono, low, high}
use Rattle.table.specs.Longest.{newer}
use Rattle.strides.specs.Trie.{Trie, none, left, right, left_mark, right_mark, bit, mark_along, sub_along}
use Rattle.strides.proofs.Paths.{bit_mod, mark_same, sub_same, sub_none, mark_none}
use Rattle.walk.specs.Limits.{WIDTH, LEVELS}
use Rattle.tries.specs.Limits.{ELEMENTS}
use Rattle.walk.specs.Rows.{Row, Lists, shortest, row_at}
use Rattle.choosers.specs.Scratch.{ROW, ask, stride_at, MARKS}
use Rattle.layout.specs.Marks.{hop_in, length_in}
use Rattle.layout.specs.Blocks.{Strides, wide, left_of, link_to, row_below}
use Rattle.tries.specs.Filling.{HasRoom, Spread, Bare, FillAsks, FillGives}
use Rattle.layout.proofs.Blocks.{wide_sides, left_same}
use Rattle.tries.proofs.Standing.{mark_left, mark_right, trunk_fits, trunk_none, trunk_left, trunk_right, trunk_child}

-- ---- the two halves of the rows below a node
bit_low : (c x : ℕ) → x < 2 ^ c → bit c x ≡ 0
unfolding bit
bit_low c x h = ap (λ (v : ℕ). v % 2) (div-eq_of_lt h)

bit_high : (c x : ℕ) → x < 2 ^ c → bit c (2 ^ c + x) ≡ 1
unfolding bit
bit_high c x h = ap (λ (v : ℕ). (v + x) / 2 ^ c % 2) (sym (one-mul (2 ^ c))) ∙ ap (λ (v : ℕ). v % 2) (high 1 c h)

same_high : (c x j : ℕ) → x < 2 ^ c → j < c → bit j (2 ^ c + x) ≡ bit j x
same_high c x j h g =
    let e : (2 ^ c + x) % 2 ^ c ≡ x = ap (λ (v : ℕ). (v + x) % 2 ^ c) (sym (one-mul (2 ^ c))) ∙ low 1 c h in
    sym (bit_mod j c (2 ^ c + x) g) ∙ ap (bit j) e

module _ (σ : Strides) (c r : ℕ) (t : Trie) (best free x : ℕ) (h : x < 2 ^ c) where
  row_left : row_below σ (suc c) r t best free x ≡ row_below σ c r (left t) (newer (left_mark t) best) free x
  unfolding row_below mark_along sub_along left_of
  row_left = rw (bit_low c x h, zero-add (left_of σ c (left t) c 0 r x))

  row_right : row_below σ (suc c) r t best free (2 ^ c + x)
      ≡ row_below σ c r (right t) (newer (right_mark t) best) (free + wide σ (left t) c 0 r) x
  unfolding row_below mark_along sub_along left_of
  row_right =
      let s : (j : ℕ) → j < c → bit j (2 ^ c + x) ≡ bit j x = λ j g. same_high c x j h g in
      rw (
        bit_high c x h,
        mark_same c (right t) (2 ^ c + x) x (newer (right_mark t) best) s,
        sub_same c (right t) (2 ^ c + x) x s,
        left_same σ c (right t) c 0 r (2 ^ c + x) x s,
        ← add_assoc free (wide σ (left t) c 0 r) (left_of σ c (right t) c 0 r x),
      )

-- ---- small things that the code's numbers need
pub power_most : {s p : ℕ} → p ≡ 2 ^ s → s ≤ WIDTH → p ≤ 2 ^ WIDTH
power_most {s} e h = omega (arith, pow_mono h)

-- lists as long as others have their room
pub room_kept : {e : ℕ} {ls ls' : Lists} → shortest ls' ≡ shortest ls → HasRoom e ls → HasRoom e ls'
room_kept s r = record { fits = omega (arith, r.fits); few = r.few }

-- ---- one row written
pub record Written (ls : Lists) (i : ℕ) (row : Row) (ls' : Lists) : Type 0 where
  pub hop : ls'.hop ≡ set ls.hop i row.hop
  pub len : ls'.len ≡ set ls.len i row.len
  pub link : ls'.link ≡ set ls.link i row.link
  pub stride : ls'.stride ≡ set ls.stride i row.stride

module _ {ls : Lists} {i : ℕ} {row : Row} {ls' : Lists} (w : Written ls i row ls') where
  row_other : (j : ℕ) → (j ≡ i → ⊥) → row_at ls' j ≡ row_at ls j
  row_other j ne = rw (w.hop, w.len, w.link, w.stride, other ls.hop row.hop, other ls.len row.len, other ls.link row.link, other ls.stride row.stride)
    where
      other : (l : List ℕ) (v : ℕ) → get_or (set l i v) j 0 ≡ get_or l j 0
      other l v = get_or-set_other l i j v 0 ne

  row_same : i < shortest ls → row_at ls' i ≡ row
  row_same b =
      let h0 : i < length ls.hop = omega arith in
      let h1 : i < length ls.len = omega arith in
      let h2 : i < length ls.link = omega arith in
      let h3 : i < length ls.stride = omega arith in
      rw (
        w.hop,
        w.len,
        w.link,
        w.stride,
        get_or-set_same ls.hop i row.hop 0 h0,
        get_or-set_same ls.len i row.len 0 h1,
        get_or-set_same ls.link i row.link 0 h2,
        get_or-set_same ls.stride i row.stride 0 h3,
      )

-- ---- the row at the end of a path
pub record LeafBounds (rows plan : List ℕ) (k r base free : ℕ) (ls : Lists) : Type 0 where
  pub fits : k * ROW ≤ length rows
  pub level : 0 < k → 0 < r
  pub levels : r ≤ length plan
  pub planned : length plan ≤ LEVELS
  pub own : base < shortest ls
  pub children : free ≤ ELEMENTS
  pub stride : stride_at rows plan k r ≤ WIDTH

module _ {σ : Strides} {t : Trie} {rows plan : List ℕ} {k r base free : ℕ} {ls : Lists}
    (g : FillAsks σ t rows plan k 0 r base free ls) where
  pub leaf_bounds : LeafBounds rows plan k r base free ls
  leaf_bounds = record {
    fits = trunk_fits g.trunk;
    level = (trunk_child g.trunk).level;
    levels = g.trunk.levels;
    planned = g.trunk.planned;
    own = omega (arith, g.own, g.room.fits);
    children = omega (arith, g.children, g.room.few);
    stride = (trunk_child g.trunk).small;
  }

  -- s: the stride read; p: the rows of the child block
  module _ (some : 0 < k) (best : ℕ) {s p : ℕ} {ls' : Lists} (es : s ≡ stride_at rows plan k r) (ep : p ≡ 2 ^ s)
      (w : Written ls base (record { hop = hop_in best; len = length_in best; link = free; stride = s }) ls') where
    made : record { hop = hop_in best; len = length_in best; link = free; stride = s } ≡ row_below σ 0 r t best free 0
    unfolding row_below mark_along sub_along left_of
    made =
        let b = trunk_child g.trunk in
        let lk : link_to t (free + 0) ≡ free = (b.some some).1 (free + 0) ∙ add-zero free in
        rw (lk, es, b.stride)

    pub leaf_gives : FillGives σ t 0 r base best free ls (free + p) ls'
    leaf_gives =
        let vw : p ≡ wide σ t 0 0 r = ep ∙ ap (λ (j : ℕ). 2 ^ j) es ∙ sym ((trunk_child g.trunk).some some).0 in
        record {
          next = omega arith;
          wrote = λ x h.
              let z : x ≡ 0 = omega arith in
              rw (z, add-zero) (row_same w leaf_bounds.own ∙ made);
          before = λ i h. row_other w i (λ e. omega arith);
          after = λ i h. row_other w i (λ e. omega arith);
        }

-- ---- no node: all rows are alike
pub spread_part : {base end v : ℕ} {l ys : List ℕ} → base ≤ end → end ≤ length l → ys ≡ replicate (length (mid_of base (end - base) l)) v
    → Spread base end v l (put_mid base (end - base) l ys)
spread_part h g e = record { wrote = grind (arith, common_steps); before = grind (arith, common_steps); after = grind (arith, common_steps) }

-- the same place by place
pub spread_none : {base v : ℕ} {l : List ℕ} → Spread base base v l l
spread_none = record { wrote = λ i h k. absurd (omega arith); before = λ i h. refl; after = λ i h. refl }

pub spread_more : {base i v : ℕ} {l l' : List ℕ} → base ≤ i → i < length l' → Spread base i v l l' → Spread base (i + 1) v l (set l' i v)
spread_more {base} {i} {v} {l} {l'} le h s =
    let other : (j : ℕ) → (j ≡ i → ⊥) → get_or (set l' i v) j 0 ≡ get_or l' j 0 = λ j ne. get_or-set_other l' i j v 0 ne in
    record {
      wrote = λ j p q. elim (dec_le i j) [
        | yes r ↦ let z : j ≡ i = omega arith in rw z (get_or-set_same l' i v 0 h)
        | no r ↦ other j (λ e. omega arith) ∙ s.wrote j p (omega arith)
      ];
      before = λ j p. other j (λ e. omega arith) ∙ s.before j p;
      after = λ j p. other j (λ e. omega arith) ∙ s.after j (omega arith);
    }

pub spread_end : {base i end v : ℕ} {l l' : List ℕ} → i ≡ end → Spread base i v l l' → Spread base end v l l'
spread_end e s = rw e at s

row_bare : (σ : Strides) (c r best free x : ℕ) → row_below σ c r none best free x ≡ record { hop = hop_in best; len = length_in best; link = 0; stride = 0 }
unfolding row_below
row_bare σ c r best free x = rw (sub_none c x, mark_none c x best)

wide_none : (σ : Strides) (c r : ℕ) → wide σ none c 0 r ≡ 0
unfolding wide
wide_none σ c r = refl

module _ {σ : Strides} {t : Trie} {rows plan : List ℕ} {k c r base free : ℕ} {ls : Lists} (g : FillAsks σ t rows plan k c r base free ls) where
  pub bare_gives : {p best : ℕ} {ls' : Lists} → k ≡ 0 → p ≡ 2 ^ c → Bare base (base + p) best ls ls' → FillGives σ t c r base best free ls free ls'
  bare_gives {p} {best} z e b =
      let n = trunk_none g.trunk z in
      record {
        next = rw (n, wide_none σ c r) (omega arith);
        wrote = λ x h.
            let i = base + x in
            let lo : base ≤ i = omega arith in
            let hi : i < base + p = omega arith in
            rw (b.hop.wrote i lo hi, b.len.wrote i lo hi, b.link.wrote i lo hi, b.stride.wrote i lo hi) (sym (rw n (row_bare σ c r best free x)));
        before = λ i h. rw (b.hop.before i h, b.len.before i h, b.link.before i h, b.stride.before i h);
        after = λ i h.
            let q : base + p ≤ i = omega arith in
            rw (b.hop.after i q, b.len.after i q, b.link.after i q, b.stride.after i q);
      }

-- ---- the two halves
pub record HalfBounds (rows : List ℕ) (k c base : ℕ) : Type 0 where
  pub fits : k * ROW ≤ length rows
  pub small0 : ask rows k 2 < MARKS
  pub small1 : ask rows k 3 < MARKS
  pub short : c ≤ WIDTH
  pub own : base ≤ ELEMENTS

module _ {σ : Strides} {t : Trie} {rows plan : List ℕ} {k c r base free : ℕ} {ls : Lists}
    (g : FillAsks σ t rows plan k c r base free ls) where
  pub half_bounds : HalfBounds rows k c base
  half_bounds = record {
    fits = trunk_fits g.trunk;
    small0 = (mark_left σ rows plan k t g.trunk.stands).1;
    small1 = (mark_right σ rows plan k t g.trunk.stands).1;
    short = g.short;
    own = omega (arith, g.own, g.room.few);
  }

  module _ {d : ℕ} (dc : c ≡ suc d) where
    halves : 2 ^ c ≡ 2 ^ d + 2 ^ d
    halves = ap (λ (v : ℕ). 2 ^ v) dc ∙ omega (arith, pow-suc 2 d)

    sides : wide σ t c 0 r ≡ wide σ (left t) d 0 r + wide σ (right t) d 0 r
    sides = rw dc (wide_sides σ t d 0 r)

    pub left_asks : {k0 : ℕ} → k0 ≡ ask rows k 0 → FillAsks σ (left t) rows plan k0 d r base free ls
    left_asks q = record {
      w = g.w - 1;
      trunk = trunk_left g.trunk dc q;
      short = omega (arith, g.short);
      e = g.e;
      own = omega (arith, g.own, halves);
      children = omega (arith, g.children, sides);
      room = g.room;
    }

    module _ {h0 f1 : ℕ} {ls1 : Lists} (s : shortest ls1 ≡ shortest ls) (o : FillGives σ (left t) d r base h0 free ls f1 ls1)
        {m : ℕ} (em : m ≡ 2 ^ d) where
      pub right_asks : {k1 : ℕ} → k1 ≡ ask rows k 1 → FillAsks σ (right t) rows plan k1 d r (base + m) f1 ls1
      right_asks q = record {
        w = g.w - 1;
        trunk = trunk_right g.trunk dc q;
        short = omega (arith, g.short);
        e = g.e;
        own = omega (arith, g.own, halves);
        children = omega (arith, g.children, sides, o.next);
        room = room_kept s g.room;
      }

      pub halves_give : {best h1 f2 : ℕ} {ls2 : Lists} → h0 ≡ newer (ask rows k 2) best → h1 ≡ newer (ask rows k 3) best
          → FillGives σ (right t) d r (base + m) h1 f1 ls1 f2 ls2 → FillGives σ t c r base best free ls f2 ls2
      halves_give {best} {h1} {f2} {ls2} e0 e1 u = record {
        next = omega (arith, sides, o.next, u.next);
        wrote = λ x h. elim (dec_le (2 ^ d) x) [
          | yes p ↦ high_half (x - 2 ^ d) x (omega arith) (omega (arith, halves))
          | no p ↦ low_half x (omega arith)
        ];
        before = λ i h. u.before i (omega arith) ∙ o.before i h;
        after = λ i h. u.after i (omega (arith, halves)) ∙ o.after i (omega (arith, halves));
      }
        where
          hl : h0 ≡ newer (left_mark t) best
          hl = e0 ∙ ap (λ (v : ℕ). newer v best) (mark_left σ rows plan k t g.trunk.stands).0

          hr : h1 ≡ newer (right_mark t) best
          hr = e1 ∙ ap (λ (v : ℕ). newer v best) (mark_right σ rows plan k t g.trunk.stands).0

          low_half : (x : ℕ) → x < 2 ^ d → row_at ls2 (base + x) ≡ row_below σ c r t best free x
          low_half x h =
              let eq : row_below σ c r t best free x ≡ row_below σ d r (left t) h0 free x = rw (dc, hl) (row_left σ d r t best free x h) in
              u.before (base + x) (omega arith) ∙ o.wrote x h ∙ sym eq

          high_half : (y x : ℕ) → x ≡ 2 ^ d + y → y < 2 ^ d → row_at ls2 (base + x) ≡ row_below σ c r t best free x
          high_half y x e h =
              let eq : row_below σ c r t best free (2 ^ d + y) ≡ row_below σ d r (right t) h1 f1 y =
              rw (dc, hr, o.next) (row_right σ d r t best free y h) in
              let at : base + (2 ^ d + y) ≡ base + m + y = omega arith in
              rw (e, eq, at) (u.wrote y h)
