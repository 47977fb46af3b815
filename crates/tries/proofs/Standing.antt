-- The trie that stands in the scratch rows at a link: what is read there, and what stands at the links below.
use Prim.Native.Nat.{ℕ, zero, suc, pred, ◌-◌, ◌*◌, ◌^◌, ◌≤◌, ◌<◌}
use mathlib.Core.Path.{◌≡◌, refl, sym, ap, ◌∙◌}
use mathlib.Core.Logic.{◌⊎◌, inl, inr}
use mathlib.Core.List.{List}
use native.Mathlib.Omega.{arith}
use lib.ListN.{length}
use Rattle.strides.specs.Trie.{Trie, none, node, Some, left, right, left_mark, right_mark, depth}
use Rattle.strides.specs.Strides.{Good}
use Rattle.walk.specs.Limits.{WIDTH}
use Rattle.choosers.specs.Scratch.{ROW, DEPTH, ask, stride_at, Stands, MARKS}
use Rattle.layout.specs.Blocks.{Strides, wide, link_to, stride_of}
use Rattle.tries.specs.Filling.{Trunk}
use Rattle.layout.proofs.GoodStrides.{good_left, good_right, good_width, good_level, good_stride, good_below}

pub zero? : (k : ℕ) → (k ≡ 0) ⊎ (0 < k)
zero? zero = inl refl
zero? (suc k) = inr (omega arith)

ask_none : (rows : List ℕ) (c : ℕ) → ask rows 0 c ≡ 0
unfolding ask
ask_none rows c = refl

stride_none : (rows plan : List ℕ) (r : ℕ) → stride_at rows plan 0 r ≡ 0
unfolding stride_at
stride_none rows plan r = refl

module _ (σ : Strides) (rows plan : List ℕ) (k : ℕ) where
  stands_fits : (t : Trie) → Stands σ rows plan k t → k * ROW ≤ length rows
  stands_fits none s = omega arith
  stands_fits (node p a q b) s = s.0.fits

  stands_none : (t : Trie) → Stands σ rows plan k t → k ≡ 0 → t ≡ none
  stands_none none s z = refl
  stands_none (node p a q b) s z = absurd (omega (arith, s.0.some))

  stands_some : (t : Trie) → Stands σ rows plan k t → 0 < k → Some t
  stands_some none s h = absurd (omega arith)
  stands_some (node p a q b) s h = tt

  stands_left : (t : Trie) → Stands σ rows plan k t → Stands σ rows plan (ask rows k 0) (left t)
  stands_left none s = rw s (ask_none rows 0)
  stands_left (node p a q b) s = s.1

  stands_right : (t : Trie) → Stands σ rows plan k t → Stands σ rows plan (ask rows k 1) (right t)
  stands_right none s = rw s (ask_none rows 1)
  stands_right (node p a q b) s = s.2

  pub mark_left : (t : Trie) → Stands σ rows plan k t → (ask rows k 2 ≡ left_mark t) × (ask rows k 2 < MARKS)
  mark_left none s = rw (s, ask_none rows 2) (refl, omega arith)
  mark_left (node p a q b) s = (s.0.mark0, omega (arith, s.0.mark0, s.0.small0))

  pub mark_right : (t : Trie) → Stands σ rows plan k t → (ask rows k 3 ≡ right_mark t) × (ask rows k 3 < MARKS)
  mark_right none s = rw (s, ask_none rows 3) (refl, omega arith)
  mark_right (node p a q b) s = (s.0.mark1, omega (arith, s.0.mark1, s.0.small1))

  stands_deep : (t : Trie) → Stands σ rows plan k t → ask rows k DEPTH ≡ depth t
  unfolding depth
  stands_deep none s = rw s (ask_none rows DEPTH)
  stands_deep (node p a q b) s = s.0.deep

  stands_stride : (t : Trie) (r : ℕ) → Stands σ rows plan k t → 0 < k → 1 ≤ r → r ≤ length plan → stride_at rows plan k r ≡ σ r t
  stands_stride none r s h x y = absurd (omega arith)
  stands_stride (node p a q b) r s h x y = s.0.stride r x y

  -- the block that begins at the link, or none: its stride, its rows, and the link to it
  pub record Child (t : Trie) (r : ℕ) : Type 0 where
    pub level : 0 < k → 0 < r
    pub stride : stride_at rows plan k r ≡ stride_of σ r t
    pub small : stride_at rows plan k r ≤ WIDTH
    pub none : k ≡ 0 → (wide σ t 0 0 r ≡ 0) × ((v : ℕ) → link_to t v ≡ 0)
    pub some : 0 < k → (wide σ t 0 0 r ≡ 2 ^ stride_at rows plan k r) × ((v : ℕ) → link_to t v ≡ v)

  child : (t : Trie) (w r : ℕ) → Stands σ rows plan k t → Good σ t w 0 r → w ≤ WIDTH → r ≤ length plan → Child t r
  unfolding wide
  child none w r s g n h =
      let z : stride_at rows plan k r ≡ 0 = ap (λ (j : ℕ). stride_at rows plan j r) s ∙ stride_none rows plan r in
      record { level = λ e. absurd (omega arith); stride = z; small = omega arith; none = λ e. (refl, λ v. refl); some = λ e. absurd (omega arith) }
  child (node p a q b) zero r s g n h = absurd g
  child (node p a q b) (suc w) zero s g n h = absurd g
  child (node p a q b) (suc w) (suc r) s g n h =
      let e = s.0.stride (suc r) (omega arith) h in
      record {
        level = λ z. omega arith;
        stride = e;
        small = omega (arith, g.1);
        none = λ z. absurd (omega (arith, s.0.some));
        some = λ z. (rw e, λ v. refl);
      }

-- ---- a trunk, and the trunks below it
module _ {σ : Strides} {t : Trie} {rows plan : List ℕ} {k w c r : ℕ} (g : Trunk σ t rows plan k w c r) where
  pub trunk_fits : k * ROW ≤ length rows
  trunk_fits = stands_fits σ rows plan k t g.stands

  pub trunk_deep : ask rows k DEPTH ≡ depth t
  trunk_deep = stands_deep σ rows plan k t g.stands

  pub trunk_none : k ≡ 0 → t ≡ none
  trunk_none z = stands_none σ rows plan k t g.stands z

  pub trunk_some : 0 < k → Some t
  trunk_some h = stands_some σ rows plan k t g.stands h

  pub trunk_width : 0 < k → 0 < w
  trunk_width h = good_width σ t w c r (trunk_some h) g.good

  -- between blocks
  module _ {d : ℕ} (e : c ≡ suc d) where
    less : pred w ≡ w - 1
    less = omega arith

    pub trunk_left : {k0 : ℕ} → k0 ≡ ask rows k 0 → Trunk σ (left t) rows plan k0 (w - 1) d r
    trunk_left q = record {
      stands = rw q (stands_left σ rows plan k t g.stands);
      good = rw (← less) (good_left σ t w d r (rw e at g.good));
      narrow = omega (arith, g.narrow);
      levels = g.levels;
      planned = g.planned;
    }

    pub trunk_right : {k1 : ℕ} → k1 ≡ ask rows k 1 → Trunk σ (right t) rows plan k1 (w - 1) d r
    trunk_right q = record {
      stands = rw q (stands_right σ rows plan k t g.stands);
      good = rw (← less) (good_right σ t w d r (rw e at g.good));
      narrow = omega (arith, g.narrow);
      levels = g.levels;
      planned = g.planned;
    }

-- where a block begins
module _ {σ : Strides} {t : Trie} {rows plan : List ℕ} {k w r : ℕ} (g : Trunk σ t rows plan k w 0 r) where
  pub trunk_child : Child σ rows plan k t r
  trunk_child = child σ rows plan k t w r g.stands g.good g.narrow g.levels

  pub trunk_level : 0 < k → 0 < r
  trunk_level h = good_level σ t w r (trunk_some g h) g.good

  module _ (some : 0 < k) {s : ℕ} (q : s ≡ stride_at rows plan k r) where
    -- its stride, with r - 1 levels left below it
    pub trunk_stride : {d : ℕ} → r ≡ suc d → (σ (suc d) t ≡ s) × (1 ≤ s) × (s ≤ w) × (s ≤ WIDTH)
    trunk_stride {d} e =
        let is : σ (suc d) t ≡ s = sym (q ∙ stands_stride σ rows plan k t r g.stands some (omega arith) g.levels ∙ ap (λ (v : ℕ). σ v t) e) in
        let b = rw is at (good_stride σ t w d (trunk_some g some) (rw e at g.good)) in
        (is, b.0, b.1, omega (arith, g.narrow))

    pub trunk_below : {d : ℕ} → r ≡ suc d → Trunk σ t rows plan k w s d
    trunk_below {d} e =
        let b = trunk_stride e in
        let p : s ≡ suc (pred s) = omega arith in
        record {
          stands = g.stands;
          good = rw p (good_below σ t w d (pred s) (b.0 ∙ p) (rw e at g.good));
          narrow = g.narrow;
          levels = omega (arith, g.levels);
          planned = g.planned;
        }
