-- Every row of every block on the path of any address, in lists that hold the rows of a trie: 01's row rule, tied to the lists. A row's
-- path, filled up with zeros, is itself an address, so the child block that a link names is the next block on that address's path.
use Prim.Native.Nat.{ℕ, suc, ◌+◌, ◌-◌, ◌*◌, ◌/◌, ◌^◌, ◌≤◌, ◌<◌}
use mathlib.Core.Path.{◌≡◌, refl, sym, ap, ap₂, subst, ◌∙◌}
use mathlib.Core.List.{List}
use native.Mathlib.Omega.{arith}
use native.Mathlib.Nat.{sub-zero, zero-add}
use lib.ListN.{length}
use lib.Pow.{low, shr_lt}
use Rattle.table.specs.Prefix.{start}
use Rattle.table.specs.Table.{at}
use Rattle.table.specs.Longest.{of_winner, winner_in}
use Rattle.table.proofs.Starts.{start_less}
use Rattle.strides.specs.Trie.{Trie, Some, sub_along, bit}
use Rattle.strides.specs.Strides.{Good}
use Rattle.strides.proofs.Paths.{bit_mod, SameBits, sub_same}
use Rattle.walk.specs.declared.record.Record.{Record}
use Rattle.walk.specs.Rows.{Row}
use Rattle.walk.specs.Rows.{Lists, row_at}
use Rattle.walk.specs.Answers.{HopLength}
use Rattle.layout.specs.Blocks.{Strides, left_of, link_to, stride_of, row_below, block_rows, first_row, rows_of, row_count, Hold, block_row}
use Rattle.layout.specs.PathBlocks.{node_on, BlockAt, at_root, after, row_path}
use Rattle.layout.specs.Marks.{entry_marks}
use Rattle.layout.specs.Laid.{table_trie, Laid}
use Rattle.layout.proofs.Marks.{mark_best, some_mark, winner_says}
use Rattle.layout.proofs.Blocks.{hold_at, level_own, left_same, left_own, left_below, left_split}
use Rattle.layout.proofs.Answering.{Lies, lies_all, lies_next}
use Rattle.layout.proofs.Hops.{path_row, path_node, row_mark}
use Rattle.layout.proofs.PathBlocks.{next_node, BlockHere, here}

module _ (σ : Strides) (W k : ℕ) (t : Trie) (good : Good σ t W 0 k) (ls : Lists) (rows_held : Hold ls 0 (rows_of σ k t)) where
  -- where the levels below a block lie, for two addresses that lead to it
  record Stood (x y n d : ℕ) : Type 0 where
    pub at : ℕ → ℕ
    pub lies : Lies σ ls (row_count σ k t) (node_on W t x d) 0 (k - n) at
    pub first_x : (m : ℕ) → at m + left_of σ (W - d) (node_on W t x d) 0 m (k - n) x ≡ block_row σ W k t x (n + m)
    pub first_y : (m : ℕ) → at m + left_of σ (W - d) (node_on W t x d) 0 m (k - n) y ≡ block_row σ W k t y (n + m)

  -- the first rows of the next blocks, one level lower
  lower : (z d s r n m : ℕ) (u : Trie) (a : ℕ) → d + suc s ≤ W → σ (suc r) u ≡ suc s → a + left_of σ (W - d) u 0 (suc m) (suc r) z ≡ block_row σ W k t z (n + suc m)
      → a + left_of σ (suc s) u (suc s) m r (start W (d + suc s) z) + left_of σ (W - (d + suc s)) (sub_along (suc s) u (start W (d + suc s) z)) 0 m r z
      ≡ block_row σ W k t z (suc n + m)
  unfolding start
  lower z d s r n m u a fits e h =
      let w : W - d ≡ suc s + (W - (d + suc s)) = omega arith in
      let l : n + suc m ≡ suc n + m = omega arith in
      omega (arith, left_below σ (W - d) u m r s z e, left_split σ (suc s) (W - (d + suc s)) (W - d) u m r z w, ap (block_row σ W k t z) l)

  stood_next : (x y n d s r : ℕ) → Stood x y n d → k - n ≡ suc r → Some (node_on W t x d) → σ (suc r) (node_on W t x d) ≡ suc s → d + suc s ≤ W
      → start W (d + suc s) x ≡ start W (d + suc s) y → Stood x y (suc n) (d + suc s)
  unfolding start
  stood_next x y n d s r i levels some e fits same =
      let u = node_on W t x d in
      let l : k - suc n ≡ r = omega arith in
      let w : W - d - suc s ≡ W - (d + suc s) = omega arith in
      let v : sub_along (suc s) u (start W (d + suc s) x) ≡ node_on W t x (d + suc s) = next_node W t x d (suc s) fits in
      let old : Lies σ ls (row_count σ k t) u 0 (suc r) i.at = rw levels at i.lies in
      let cut : x / 2 ^ (W - d - suc s) ≡ start W (d + suc s) x = ap (λ (v : ℕ). x / 2 ^ v) w in
      let new : Lies σ ls (row_count σ k t) (sub_along (suc s) u (start W (d + suc s) x)) 0 r (λ m. i.at (suc m) + left_of σ (suc s) u (suc s) m r (start W (d + suc s) x))
      = subst (λ (z : ℕ). Lies σ ls (row_count σ k t) (sub_along (suc s) u z) 0 r (λ m. i.at (suc m) + left_of σ (suc s) u (suc s) m r z)) cut
      (lies_next σ ls (row_count σ k t) x r s (W - d) u i.at some e (omega arith) old) in
      record {
        at = λ m. i.at (suc m) + left_of σ (suc s) u (suc s) m r (start W (d + suc s) x);
        lies = rw (l, ← v) new;
        first_x = λ m. rw (l, ← v) (lower x d s r n m u (i.at (suc m)) fits e (rw levels at (i.first_x (suc m))));
        first_y = λ m. rw (l, ← v, same) (lower y d s r n m u (i.at (suc m)) fits e (rw levels at (i.first_y (suc m))));
      }

  stood : (x y : ℕ) {n d : ℕ} → BlockAt σ W k t x n d → start W d x ≡ start W d y → Stood x y n d
  unfolding sub_along block_row
  stood x y (at_root some) e = record {
    at = first_row σ t k;
    lies = rw (sub-zero k) (lies_all σ t k ls W some good rows_held);
    first_x = λ m. rw (sub-zero W, sub-zero k, zero-add m) refl;
    first_y = λ m. rw (sub-zero W, sub-zero k, zero-add m) refl;
  }
  stood x y (after {n} {d} b some) e =
      let h = here σ W k t good x b in
      let s = h.s in
      let u = node_on W t x d in
      let f : σ (k - n) u ≡ suc s = ap (λ (l : ℕ). σ l u) h.levels ∙ h.stride in
      let same : start W (d + suc s) x ≡ start W (d + suc s) y = rw f at e in
      let i = stood x y b (start_less W d (d + suc s) x y (omega arith) h.fits same) in
      subst (λ (v : ℕ). Stood x y (suc n) (d + v)) (sym f) (stood_next x y n d s h.r i h.levels h.some h.stride h.fits same)

  -- ---- row i of a block: the levels below it lie as the two addresses x and the row's path say
  module _ (x n d : ℕ) (small : x < 2 ^ W) (b : BlockAt σ W k t x n d) (i : ℕ) (index : i < 2 ^ σ (k - n) (node_on W t x d)) where
    abbrev u : Trie
    u = node_on W t x d

    abbrev h : BlockHere σ W k t good x n d
    h = here σ W k t good x b

    own_stride : σ (k - n) u ≡ suc h.s
    own_stride = ap (λ (l : ℕ). σ l u) h.levels ∙ h.stride

    -- the row's path
    abbrev y : ℕ
    y = row_path W d (suc h.s) (start W d x) i

    first_bits : start W d x < 2 ^ d
    unfolding start
    first_bits = let e : d + (W - d) ≡ W = omega (arith, h.fits) in shr_lt d (W - d) (rw e small)

    fits : i < 2 ^ suc h.s
    fits = rw own_stride at index

    same_node : start W d x ≡ start W d y
    same_node = sym (path_node W d (suc h.s) (start W d x) i h.fits first_bits fits)

    st : Stood x y n d
    st = stood x y b same_node

    first_row_lem : st.at 0 ≡ block_row σ W k t x n
    first_row_lem =
        let e : n + 0 ≡ n = omega arith in
        omega (arith, st.first_x 0, left_own σ (W - d) u (k - n) x, ap (block_row σ W k t x) e)

    row_below_lem : row_at ls (block_row σ W k t x n + i) ≡ row_below σ (suc h.s) h.r u 0 (st.at 1) i
    unfolding block_rows
    row_below_lem =
        let l : Lies σ ls (row_count σ k t) u 0 (suc h.r) st.at = rw h.levels at st.lies in
        rw (← first_row_lem) (hold_at ls (2 ^ suc h.s) (st.at 0) _ (rw (level_own σ u h.r (st.at 1) h.some, h.stride) at (l.rows 0)) i fits)

    -- the bits of the row's path after the block's node are the row's index
    same_bits : SameBits (suc h.s) i (start W (d + suc h.s) y)
    same_bits j l =
        let q = start W d x in
        ap (bit j) (sym (low q (suc h.s) fits)) ∙ bit_mod j (suc h.s) (q * 2 ^ suc h.s + i) l
        ∙ ap (bit j) (sym (path_row W d (suc h.s) q i h.fits first_bits fits))

    -- the subtrie below the row is that of the node on its path
    child_node : sub_along (suc h.s) u i ≡ node_on W t y (d + suc h.s)
    child_node =
        sub_same (suc h.s) u i (start W (d + suc h.s) y) same_bits
        ∙ ap (λ (q : ℕ). sub_along (suc h.s) (sub_along d t q) (start W (d + suc h.s) y)) same_node ∙ next_node W t y d (suc h.s) h.fits

    -- and its link leads to the next block on that path
    child_row : st.at 1 + left_of σ (suc h.s) u (suc h.s) 0 h.r i ≡ block_row σ W k t y (suc n)
    child_row =
        let s = h.s in
        let e : suc n + 0 ≡ suc n = omega arith in
        omega (
          arith,
          left_same σ (suc s) u (suc s) 0 h.r i (start W (d + suc s) y) same_bits,
          lower y d s h.r n 0 u (st.at 1) h.fits h.stride (rw h.levels at (st.first_y 1)),
          left_own σ (W - (d + suc s)) (sub_along (suc s) u (start W (d + suc s) y)) h.r y,
          ap (block_row σ W k t y) e,
        )

-- ---- over a table
module _ {most W : ℕ} {vs ls hs : List ℕ} {σ : Strides} {k : ℕ} {rec : Record} {rows : Lists} (g : Laid most W vs ls hs σ k rec rows) where
  abbrev T : Trie
  T = table_trie W vs ls hs

  fine : Good σ T W 0 k
  fine = rw (g.width, g.levels) at g.built.good

  rows_held : Hold rows 0 (rows_of σ k T)
  rows_held = rw g.levels at g.built.rows

  -- row i of the block of level n at depth d on the path of x, whose stride is s: its hop and length are those of the longest entry with
  -- length above d and at most d + s that begins the row's path, else 0; its link is the first row of the child block, and its child stride that block's
  -- stride; both are 0 where there is none
  pub row_rule : (x n d : ℕ) → x < 2 ^ W → BlockAt σ W k T x n d → (i : ℕ) → i < 2 ^ σ (k - n) (node_on W T x d)
      → let s = σ (k - n) (node_on W T x d) in
      let y = row_path W d s (start W d x) i in
      let w = winner_in W (at vs) (at ls) (length vs) d (d + s) y in
      row_at rows (block_row σ W k T x n + i) ≡ record {
        hop = of_winner (at hs) w;
        len = of_winner (at ls) w;
        link = link_to (node_on W T y (d + s)) (block_row σ W k T y (suc n));
        stride = stride_of σ (k - suc n) (node_on W T y (d + s));
      }
  unfolding row_below
  row_rule x n d small b i index =
      let s = (here σ W k T fine x b).s in
      let r = (here σ W k T fine x b).r in
      let u = node_on W T x d in
      let q = start W d x in
      let e : σ (k - n) u ≡ suc s = own_stride σ W k T fine rows rows_held x n d small b i index in
      let fits = (here σ W k T fine x b).fits in
      let bits = first_bits σ W k T fine rows rows_held x n d small b i index in
      let inside = rw e at index in
      let free = (st σ W k T fine rows rows_held x n d small b i index).at 1 in
      let mark = row_mark W d (suc s) q i fits bits inside (at vs) (at ls) (entry_marks ls hs) (length vs) (λ j l. (g.table.entry j l).prefix) (some_mark g.table) in
      let own = ap mark_best mark ∙ winner_says g.table _ in
      let child = child_node σ W k T fine rows rows_held x n d small b i index in
      let link = ap₂ link_to child (child_row σ W k T fine rows rows_held x n d small b i index) in
      let levels : r ≡ k - suc n = omega (arith, (here σ W k T fine x b).levels) in
      subst (λ (v : ℕ). row_at rows (block_row σ W k T x n + i) ≡ ruled v d q n i) (sym e)
      (row_below_lem σ W k T fine rows rows_held x n d small b i index ∙ same_row own link (ap₂ (stride_of σ) levels child))
    where
      ruled : (v d q n i : ℕ) → Row
      ruled v d q n i =
          let y = row_path W d v q i in
          let w = winner_in W (at vs) (at ls) (length vs) d (d + v) y in
          record {
            hop = of_winner (at hs) w;
            len = of_winner (at ls) w;
            link = link_to (node_on W T y (d + v)) (block_row σ W k T y (suc n));
            stride = stride_of σ (k - suc n) (node_on W T y (d + v));
          }

      same_row : {b b' : HopLength} {l l' c c' : ℕ} → b ≡ b' → l ≡ l' → c ≡ c'
          → ◌≡◌ {A = Row} (record { hop = b.hop; len = b.len; link = l; stride = c }) (record { hop = b'.hop; len = b'.len; link = l'; stride = c' })
      same_row p q r = rw (p, q, r) refl
