-- Strides that agree wherever a block begins lay the same rows: what stands at other nodes, or with other levels left, is never asked.
use Prim.Native.Nat.{ℕ, zero, suc, pred, ◌+◌, ◌^◌}
use mathlib.Core.Path.{◌≡◌, refl, sym, ap, ap₂, subst, ◌∙◌}
use mathlib.Core.List.{List, ◌∷◌, ◌++◌}
use native.Mathlib.Omega.{arith}
use Rattle.strides.specs.Trie.{Trie, none, node, kid, bit, sub_along}
use Rattle.strides.specs.Strides.{Good, choice_by}
use Rattle.strides.specs.Choice.{SameBlocks}
use Rattle.walk.specs.Rows.{Row}
use Rattle.walk.specs.declared.record.Record.{Record}
use Rattle.walk.specs.Rows.{Lists}
use Rattle.layout.specs.Laid.{table_trie, Laid}
use Rattle.layout.specs.Blocks.{Hold, Strides, wide, passed, left_of, stride_of, row_below, list_of, block_rows, level_rows, first_row, levels_rows, rows_of, row_count, Begun, blocks_along, Agree}

-- one step along a path, with what stands left of it
at_none : (i : ℕ) (f : Trie → ℕ) → f none ≡ 0 → passed i 0 + f (kid i none) ≡ 0
at_none zero f e = omega (arith, e)
at_none (suc i) f e = omega (arith, e)

at_node : (i p : ℕ) (a : Trie) (q : ℕ) (b : Trie) (f g : Trie → ℕ) {v v' : ℕ} → v ≡ v' → f a ≡ g a → f b ≡ g b
    → passed i v + f (kid i (node p a q b)) ≡ passed i v' + g (kid i (node p a q b))
at_node zero p a q b f g e l r = ap (λ (y : ℕ). 0 + y) l
at_node (suc i) p a q b f g e l r = ap₂ (λ (y z : ℕ). y + z) e r

module _ (σ τ : Strides) where
  pub same_agree : (t : Trie) (w c r : ℕ) → Good σ t w c r → SameBlocks t c (choice_by σ t c r) (choice_by τ t c r) → Agree σ τ t c r
  unfolding choice_by
  same_agree none w c r g s = tt
  same_agree (node p a q b) zero c r g s = absurd g
  same_agree (node p a q b) (suc w) (suc c) r g s = (same_agree a w c r g.0 s.0, same_agree b w c r g.1 s.1)
  same_agree (node p a q b) (suc w) zero zero g s = absurd g
  same_agree (node p a q b) (suc w) zero (suc r) g s =
      let x = σ (suc r) (node p a q b) in
      let e : x ≡ τ (suc r) (node p a q b) = s.0 in
      let l = subst (λ (y : ℕ). SameBlocks a (pred x) (choice_by σ a (pred x) r) (choice_by τ a (pred y) r)) (sym e) s.1 in
      let m = subst (λ (y : ℕ). SameBlocks b (pred x) (choice_by σ b (pred x) r) (choice_by τ b (pred y) r)) (sym e) s.2 in
      (g.0, e, same_agree a w (pred x) r g.2 l, same_agree b w (pred x) r g.3 m)

  -- strides agree with themselves
  pub good_agree : ((r : ℕ) (u : Trie) → σ r u ≡ τ r u) → (t : Trie) (w c r : ℕ) → Good σ t w c r → Agree σ τ t c r
  good_agree e none w c r g = tt
  good_agree e (node p a q b) zero c r g = absurd g
  good_agree e (node p a q b) (suc w) (suc c) r g = (good_agree e a w c r g.0, good_agree e b w c r g.1)
  good_agree e (node p a q b) (suc w) zero zero g = absurd g
  good_agree e (node p a q b) (suc w) zero (suc r) g =
      let s = pred (σ (suc r) (node p a q b)) in (g.0, e (suc r) (node p a q b), good_agree e a w s r g.2, good_agree e b w s r g.3)

  pub wide_same : (t : Trie) (c n r : ℕ) → Agree σ τ t c r → wide σ t c n r ≡ wide τ t c n r
  unfolding wide
  wide_same none c n r g = refl
  wide_same (node p a q b) (suc c) n r g = ap₂ (λ (x y : ℕ). x + y) (wide_same a c n r g.0) (wide_same b c n r g.1)
  wide_same (node p a q b) zero n zero g = absurd g
  wide_same (node p a q b) zero zero (suc r) g = ap (λ (s : ℕ). 2 ^ s) g.1
  wide_same (node p a q b) zero (suc n) (suc r) g =
      let s = pred (σ (suc r) (node p a q b)) in
      rw (sym g.1) (ap₂ (λ (x y : ℕ). x + y) (wide_same a s n r g.2) (wide_same b s n r g.3))

  left_none : (ρ : Strides) (w c n r x : ℕ) → left_of ρ w none c n r x ≡ 0
  unfolding left_of wide
  left_none ρ zero c n r x = refl
  left_none ρ (suc w) (suc c) n r x = at_none (bit w x) (λ u. left_of ρ w u c n r x) (left_none ρ w c n r x)
  left_none ρ (suc w) zero n zero x = refl
  left_none ρ (suc w) zero zero (suc r) x = refl
  left_none ρ (suc w) zero (suc n) (suc r) x =
      let c = pred (ρ (suc r) none) in at_none (bit w x) (λ u. left_of ρ w u c n r x) (left_none ρ w c n r x)

  left_agree : (w : ℕ) (t : Trie) (c n r x : ℕ) → Agree σ τ t c r → left_of σ w t c n r x ≡ left_of τ w t c n r x
  unfolding left_of
  left_agree w none c n r x g = left_none σ w c n r x ∙ sym (left_none τ w c n r x)
  left_agree zero (node p a q b) c n r x g = refl
  left_agree (suc w) (node p a q b) (suc c) n r x g =
      at_node (bit w x) p a q b (λ u. left_of σ w u c n r x) (λ u. left_of τ w u c n r x) (wide_same a c n r g.0)
      (left_agree w a c n r x g.0) (left_agree w b c n r x g.1)
  left_agree (suc w) (node p a q b) zero n zero x g = absurd g
  left_agree (suc w) (node p a q b) zero zero (suc r) x g = refl
  left_agree (suc w) (node p a q b) zero (suc n) (suc r) x g =
      let c = pred (σ (suc r) (node p a q b)) in
      rw (sym g.1) (at_node (bit w x) p a q b (λ u. left_of σ w u c n r x) (λ u. left_of τ w u c n r x) (wide_same a c n r g.2)
      (left_agree w a c n r x g.2) (left_agree w b c n r x g.3))

  -- where the next blocks begin
  kid_agree : (i : ℕ) (t : Trie) (c r : ℕ) → Agree σ τ t (suc c) r → Agree σ τ (kid i t) c r
  kid_agree zero none c r g = tt
  kid_agree (suc i) none c r g = tt
  kid_agree zero (node p a q b) c r g = g.0
  kid_agree (suc i) (node p a q b) c r g = g.1

  sub_agree : (c : ℕ) (t : Trie) (r x : ℕ) → Agree σ τ t c r → Agree σ τ (sub_along c t x) 0 r
  unfolding sub_along
  sub_agree zero t r x g = g
  sub_agree (suc c) t r x g = sub_agree c (kid (bit c x) t) r x (kid_agree (bit c x) t c r g)

  pub stride_same : (t : Trie) (r : ℕ) → Agree σ τ t 0 r → stride_of σ r t ≡ stride_of τ r t
  stride_same none r g = refl
  stride_same (node p a q b) zero g = absurd g
  stride_same (node p a q b) (suc r) g = g.1

  -- the blocks on an address's path
  pub blocks_same : (w : ℕ) (t : Trie) (c n r x : ℕ) → Agree σ τ t c r → blocks_along σ w t c n r x ≡ blocks_along τ w t c n r x
  unfolding blocks_along
  blocks_same zero t c n r x g = refl
  blocks_same (suc w) none c n r x g = refl
  blocks_same (suc w) (node p a q b) (suc c) n r x g = blocks_same w (kid (bit w x) (node p a q b)) c n r x (kid_agree (bit w x) (node p a q b) c r g)
  blocks_same (suc w) (node p a q b) zero n zero x g = absurd g
  blocks_same (suc w) (node p a q b) zero n (suc r) x g =
      let s = pred (σ (suc r) (node p a q b)) in
      let rest = blocks_same w (kid (bit w x) (node p a q b)) s (suc n) r x (kid_agree (bit w x) (node p a q b) s r (g.2, g.3)) in
      rw (sym g.1) (ap (λ (bs : List Begun). record { level = n; stride = σ (suc r) (node p a q b); bits = suc w } ∷ bs) rest)

  row_same : (c r : ℕ) (t : Trie) (best free x : ℕ) → Agree σ τ t c r → row_below σ c r t best free x ≡ row_below τ c r t best free x
  unfolding row_below
  row_same c r t best free x g = rw (left_agree c t c 0 r x g, stride_same (sub_along c t x) r (sub_agree c t r x g)) refl

  list_same : (n : ℕ) (f g : ℕ → Row) → ((i : ℕ) → f i ≡ g i) → list_of n f ≡ list_of n g
  unfolding list_of
  list_same zero f g h = refl
  list_same (suc n) f g h = ap₂ (λ (y : Row) (ys : List Row). y ∷ ys) (h 0) (list_same n (λ i. f (suc i)) (λ i. g (suc i)) (λ i. h (suc i)))

  block_same : (r : ℕ) (p : ℕ) (a : Trie) (q : ℕ) (b : Trie) (free : ℕ) → Agree σ τ (node p a q b) 0 (suc r) → block_rows σ r (node p a q b) free ≡ block_rows τ r (node p a q b) free
  unfolding block_rows
  block_same r p a q b free g =
      let t = node p a q b in
      let s = σ (suc r) t in
      let e : suc (pred s) ≡ s = omega (arith, g.0) in
      let under : Agree σ τ t s r = subst (λ (y : ℕ). Agree σ τ t y r) e (g.2, g.3) in
      rw (sym g.1) (list_same (2 ^ s) (row_below σ s r t 0 free) (row_below τ s r t 0 free) (λ i. row_same s r t 0 free i under))

  level_same : (t : Trie) (c n r free : ℕ) → Agree σ τ t c r → level_rows σ t c n r free ≡ level_rows τ t c n r free
  unfolding level_rows
  level_same none c n r free g = refl
  level_same (node p a q b) (suc c) n r free g =
      ap₂ (λ (y z : List Row). y ++ z) (level_same a c n r free g.0)
      (level_same b c n r (free + wide σ a c (suc n) r) g.1 ∙ ap (λ (y : ℕ). level_rows τ b c n r (free + y)) (wide_same a c (suc n) r g.0))
  level_same (node p a q b) zero n zero free g = absurd g
  level_same (node p a q b) zero zero (suc r) free g = block_same r p a q b free g
  level_same (node p a q b) zero (suc n) (suc r) free g =
      let s = pred (σ (suc r) (node p a q b)) in
      rw (sym g.1) (ap₂ (λ (y z : List Row). y ++ z) (level_same a s n r free g.2)
      (level_same b s n r (free + wide σ a s (suc n) r) g.3 ∙ ap (λ (y : ℕ). level_rows τ b s n r (free + y)) (wide_same a s (suc n) r g.2)))

  module _ (t : Trie) (k : ℕ) (g : Agree σ τ t 0 k) where
    first_same : (n : ℕ) → first_row σ t k n ≡ first_row τ t k n
    unfolding first_row
    first_same zero = refl
    first_same (suc n) = ap₂ (λ (y z : ℕ). y + z) (first_same n) (wide_same t 0 n k g)

    levels_same : (n : ℕ) → levels_rows σ t k n ≡ levels_rows τ t k n
    unfolding levels_rows
    levels_same zero = refl
    levels_same (suc n) =
        ap₂ (λ (y z : List Row). y ++ z) (levels_same n) (level_same t 0 n k (first_row σ t k (suc n)) g ∙ ap (level_rows τ t 0 n k) (first_same (suc n)))

    pub rows_same : rows_of σ k t ≡ rows_of τ k t
    unfolding rows_of
    rows_same = levels_same k

    pub count_same : row_count σ k t ≡ row_count τ k t
    unfolding row_count
    count_same = first_same k

-- so what is laid for the ones is laid for the others
pub laid_agree : {most W : ℕ} {vs ls hs : List ℕ} {σ τ : Strides} {k : ℕ} {rec : Record} {rows : Lists} → Agree σ τ (table_trie W vs ls hs) 0 k
    → Good τ (table_trie W vs ls hs) W 0 k → Laid most W vs ls hs σ k rec rows → Laid most W vs ls hs τ k rec rows
laid_agree {W = W} {vs = vs} {ls = ls} {hs = hs} {σ = σ} {τ = τ} {k = k} {rows = rows} a good l =
    let t = table_trie W vs ls hs in
    let b = l.built in
    record {
      table = l.table;
      width = l.width;
      levels = l.levels;
      floor = l.floor;
      built = record {
        width = b.width;
        levels = b.levels;
        good = rw (l.width, l.levels) good;
        elements = rw l.levels (rw l.levels at b.elements ∙ count_same σ τ t k a);
        first = rw l.levels (rw l.levels at b.first ∙ stride_same σ τ t k a);
        room = b.room;
        rows = rw l.levels (subst (Hold rows 0) (rows_same σ τ t k a) (rw l.levels at b.rows));
      };
    }
