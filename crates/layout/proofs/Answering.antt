-- A lookup over the rows of a trie: it reads one row for each node that begins the address and at which the strides begin a
-- block, that block's first row plus the next s bits, and answers what the last nonzero mark on the address's path says, else the floor.
use Prim.Native.Nat.{ℕ, zero, suc, pred, ◌+◌, ◌-◌, ◌/◌, ◌%◌, ◌^◌, ◌≤◌, ◌<◌}
use mathlib.Core.Path.{◌≡◌, refl, sym, ap, ap₂, ◌∙◌}
use mathlib.Core.Bool.{true, cond}
use mathlib.Core.Logic.{⊎_elim}
use mathlib.Core.List.{List, [], ◌∷◌, map}
use native.Mathlib.Omega.{arith}
use native.Mathlib.Nat.{mod-lt}
use native.Mathlib.Decide.{dec_le}
use lib.ListN.{length, length-map}
use lib.Pow.{pow_pos, shr-shr}
use lib.Dec.{eqb}
use Rattle.table.specs.Longest.{newer}
use Rattle.strides.specs.Trie.{Trie, none, node, Some, left, right, kid, bit, mark_along, sub_along}
use Rattle.strides.specs.Strides.{Good}
use Rattle.strides.proofs.Paths.{bit_mod, bit_shr, some?, SameBits, sub_none, mark_none, sub_split, mark_same, sub_same, mark_newer, mark_split}
use Rattle.walk.specs.declared.record.Record.{Record}
use Rattle.walk.specs.Rows.{Row}
use Rattle.walk.specs.Rows.{Lists, shortest, row_at, root, row_of}
use Rattle.walk.specs.Answers.{HopLength, floor_best, row_best, new_best, latest, answer}
use Rattle.walk.specs.Lookup.{path_rows, lookup_of}
use Rattle.walk.specs.Meaning.{Passed, Readable, Path, last, on, OnPath, empty, walked}
use Rattle.layout.specs.Blocks.{Strides, wide, passed, left_of, link_to, stride_of, row_below, block_rows, level_rows, first_row, levels_rows, rows_of, row_count, Hold, Begun, blocks_along}
use Rattle.layout.specs.Blocks.{block_row, row_in, rows_along}
use Rattle.layout.specs.Laid.{LaidTrie}
use Rattle.walk.proofs.Looked.{path_answer}
use Rattle.walk.proofs.Reading.{path_rows_lem}
use Rattle.strides.proofs.Marks.{AllMarks, along_has, sub_marks}
use Rattle.layout.proofs.Marks.{mark_best, HasHop, row_says}
use Rattle.layout.proofs.GoodStrides.{good_level, good_root, good_block}
use Rattle.layout.proofs.Blocks.{hold_first, hold_rest, hold_at, level_length, wide_own, level_own, wide_below, level_below, wide_past, left_same, left_own, left_below, left_split}
use Rattle.layout.proofs.Blocks.{first_next, first_mono, first_past, levels_length, count_none}

-- ---- the blocks along an address
module _ (σ : Strides) where
  pub blocks_none : (w c n r x : ℕ) → blocks_along σ w none c n r x ≡ []
  unfolding blocks_along
  blocks_none zero c n r x = refl
  blocks_none (suc w) c n r x = refl

  -- a block begins: it, and the blocks below its stride
  pub blocks_own : (w : ℕ) (t : Trie) (n r s x : ℕ) → Some t → 0 < w → σ (suc r) t ≡ suc s
      → blocks_along σ w t 0 n (suc r) x ≡ record { level = n; stride = suc s; bits = w } ∷ blocks_along σ w t (suc s) (suc n) r x
  unfolding blocks_along
  blocks_own zero t n r s x g h e = absurd (omega arith)
  blocks_own (suc w) none n r s x g h e = absurd g
  blocks_own (suc w) (node p a q b) n r s x g h e = rw e

  -- between blocks the bits lead on
  pub blocks_split : (c m w : ℕ) (t : Trie) (n r x : ℕ) → w ≡ c + m
      → blocks_along σ w t c n r x ≡ blocks_along σ m (sub_along c t (x / 2 ^ m)) 0 n r x
  unfolding blocks_along sub_along
  blocks_split zero m w t n r x e = let z : w ≡ m = omega arith in rw z
  blocks_split (suc c) m zero t n r x e = absurd (omega arith)
  blocks_split (suc c) m (suc w) none n r x e = sym (ap (λ (u : Trie). blocks_along σ m u 0 n r x) (sub_none (suc c) (x / 2 ^ m)) ∙ blocks_none m 0 n r x)
  blocks_split (suc c) m (suc w) (node p a q b) n r x e =
      let z : m + c ≡ w = omega arith in
      rw (bit_shr c m x, z) (blocks_split c m w (kid (bit w x) (node p a q b)) n r x (omega arith))

-- the same blocks, counted from the next level
abbrev deeper : Begun → Begun
deeper b = record { level = suc b.level; stride = b.stride; bits = b.bits }

blocks_deeper : {A : Type 0} (σ : Strides) (f : Begun → A) (w : ℕ) (t : Trie) (c n r x : ℕ)
    → map f (blocks_along σ w t c (suc n) r x) ≡ map (λ b. f (deeper b)) (blocks_along σ w t c n r x)
unfolding blocks_along
blocks_deeper σ f zero t c n r x = refl
blocks_deeper σ f (suc w) none c n r x = refl
blocks_deeper σ f (suc w) (node p a q b) (suc c) n r x = blocks_deeper σ f w (kid (bit w x) (node p a q b)) c n r x
blocks_deeper σ f (suc w) (node p a q b) zero n zero x = refl
blocks_deeper σ f (suc w) (node p a q b) zero n (suc r) x =
    ap (λ l. f (record { level = suc n; stride = σ (suc r) (node p a q b); bits = suc w }) ∷ l)
    (blocks_deeper σ f w (kid (bit w x) (node p a q b)) (pred (σ (suc r) (node p a q b))) (suc n) r x)

pub map_same : {A : Type 0} (f g : Begun → A) (bs : List Begun) → ((b : Begun) → f b ≡ g b) → map f bs ≡ map g bs
map_same f g [] e = refl
map_same f g (b ∷ bs) e = rw (e b, map_same f g bs e)

-- ---- where the levels lie
module _ (σ : Strides) (ls : Lists) (e : ℕ) where
  -- the levels below t are in the lists: level n from row `at n` on, each before row e, and no link is 0
  pub record Lies (t : Trie) (c r : ℕ) (at : ℕ → ℕ) : Type 0 where
    pub rows : (n : ℕ) → Hold ls (at n) (level_rows σ t c n r (at (suc n)))
    pub fits : (n : ℕ) → at n + wide σ t c n r ≤ e
    pub positive : (n : ℕ) → 0 < at (suc n)

  lies_same : {t : Trie} {c r : ℕ} (at at' : ℕ → ℕ) → ((n : ℕ) → at' n ≡ at n) → Lies t c r at → Lies t c r at'
  lies_same at at' q l = record {
    rows = λ n. rw (q n, q (suc n)) (l.rows n);
    fits = λ n. rw (q n) (l.fits n);
    positive = λ n. rw (q (suc n)) (l.positive n);
  }

  lies_left : (t : Trie) (c r : ℕ) (at : ℕ → ℕ) → Lies t (suc c) r at → Lies (left t) c r at
  unfolding level_rows wide
  lies_left none c r at l = record { rows = λ n. tt; fits = l.fits; positive = l.positive }
  lies_left (node p a q b) c r at l = record {
    rows = λ n. hold_first ls (at n) (level_rows σ a c n r (at (suc n))) _ (l.rows n);
    fits = λ n. omega (arith, l.fits n);
    positive = l.positive;
  }

  lies_right : (t : Trie) (c r : ℕ) (at : ℕ → ℕ) → Lies t (suc c) r at → Lies (right t) c r (λ n. at n + wide σ (left t) c n r)
  unfolding level_rows wide
  lies_right none c r at l = record { rows = λ n. tt; fits = λ n. omega (arith, l.fits n); positive = λ n. omega (arith, l.positive n) }
  lies_right (node p a q b) c r at l = record {
    rows = λ n. rw (level_length σ a c n r (at (suc n))) at (hold_rest ls (at n) (level_rows σ a c n r (at (suc n))) _ (l.rows n));
    fits = λ n. omega (arith, l.fits n);
    positive = λ n. omega (arith, l.positive n);
  }

  -- where bits lead, each level begins after the rows left of the path
  lies_along : (c : ℕ) (t : Trie) (r : ℕ) (at : ℕ → ℕ) (x : ℕ) → Lies t c r at → Lies (sub_along c t x) 0 r (λ n. at n + left_of σ c t c n r x)
  unfolding sub_along left_of
  lies_along zero t r at x l = lies_same at (λ n. at n + 0) (λ n. omega arith) l
  lies_along (suc c) t r at x l = side (bit c x)
      (lies_along c (left t) r at x (lies_left t c r at l))
      (lies_along c (right t) r (λ n. at n + wide σ (left t) c n r) x (lies_right t c r at l))
    where
      side : (i : ℕ) → Lies (sub_along c (left t) x) 0 r (λ n. at n + left_of σ c (left t) c n r x)
          → Lies (sub_along c (right t) x) 0 r (λ n. at n + wide σ (left t) c n r + left_of σ c (right t) c n r x)
          → Lies (sub_along c (kid i t) x) 0 r (λ n. at n + (passed i (wide σ (left t) c n r) + left_of σ c (kid i t) c n r x))
      side zero a b = lies_same (λ n. at n + left_of σ c (left t) c n r x) (λ n. at n + (0 + left_of σ c (left t) c n r x)) (λ n. omega arith) a
      side (suc i) a b =
          lies_same (λ n. at n + wide σ (left t) c n r + left_of σ c (right t) c n r x)
          (λ n. at n + (wide σ (left t) c n r + left_of σ c (right t) c n r x)) (λ n. omega arith) b

  lies_below : (t : Trie) (r s : ℕ) (at : ℕ → ℕ) → σ (suc r) t ≡ suc s → Lies t 0 (suc r) at → Lies t (suc s) r (λ n. at (suc n))
  lies_below t r s at h l = record {
    rows = λ n. rw (level_below σ t n r (at (suc (suc n))) s h) at (l.rows (suc n));
    fits = λ n. rw (wide_below σ t n r s h) at (l.fits (suc n));
    positive = λ n. l.positive (suc n);
  }

  -- ---- what a lookup with k levels left finds from the block of t on: the rows on its path, and the best at the path's end
  abbrev rows_here : (x k w : ℕ) → Trie → (ℕ → ℕ) → List ℕ
  rows_here x k w t at = map (row_in x (λ n. at n + left_of σ w t 0 n k x)) (blocks_along σ w t 0 0 k x)

  record PathRead (x k w : ℕ) (t : Trie) (at : ℕ → ℕ) : Type 0 where
    pub path : Path e x (row_at ls) k (at 0) (σ k t) w (rows_here x k w t at) true
    pub best : AllMarks HasHop t → (b : ℕ) → latest (row_at ls) (mark_best b) (rows_here x k w t at) ≡ mark_best (mark_along w t x b)

  -- ---- one block, of stride suc s, where w bits of the address x are left before it
  module _ (x r s w : ℕ) (t : Trie) (at : ℕ → ℕ) (some : Some t) (h : σ (suc r) t ≡ suc s) (le : suc s ≤ w) (l : Lies t 0 (suc r) at) where
    -- the address down to the block's last bit, the subtrie there, and the row
    abbrev cut : ℕ
    cut = x / 2 ^ (w - suc s)

    abbrev sub : Trie
    sub = sub_along (suc s) t cut

    abbrev row : ℕ
    row = row_of x (at 0) (suc s) w

    abbrev next_first : ℕ → ℕ
    next_first n = at (suc n) + left_of σ (suc s) t (suc s) n r cut

    index_lt : cut % 2 ^ suc s < 2 ^ suc s
    index_lt = mod-lt cut (pow_pos (suc s))

    -- what the row holds
    row_is : row_at ls row ≡ row_below σ (suc s) r t 0 (at 1) cut
    unfolding row_of row_below block_rows
    row_is =
        let same : SameBits (suc s) (cut % 2 ^ suc s) cut = λ j g. bit_mod j (suc s) cut g in
        hold_at ls (2 ^ suc s) (at 0) _ (rw (level_own σ t r (at 1) some, h) at (l.rows 0)) (cut % 2 ^ suc s) index_lt
        ∙ rw (
          mark_same (suc s) t (cut % 2 ^ suc s) cut 0 same,
          sub_same (suc s) t (cut % 2 ^ suc s) cut same,
          left_same σ (suc s) t (suc s) 0 r (cut % 2 ^ suc s) cut same,
        )

    readable : Readable e x (at 0) (suc s) w
    unfolding row_of
    readable = record { stride = omega arith; fits = le; within = omega (arith, rw (wide_own σ t r some, h) at (l.fits 0), index_lt) }

    pub lies_next : Lies sub 0 r next_first
    lies_next = lies_along (suc s) t r (λ n. at (suc n)) cut (lies_below t r s at h l)

    -- the rows on the path from here, and from the child block
    blocks_next : {A : Type 0} (f : Begun → A)
        → map f (blocks_along σ w t 0 0 (suc r) x)
        ≡ f (record { level = 0; stride = suc s; bits = w }) ∷ map (λ b. f (deeper b)) (blocks_along σ (w - suc s) sub 0 0 r x)
    blocks_next f =
        ap (map f) (blocks_own σ w t 0 r s x some (omega arith) h)
        ∙ ap (λ l. f (record { level = 0; stride = suc s; bits = w }) ∷ l)
        (ap (map f) (blocks_split σ (suc s) (w - suc s) w t 1 r x (omega arith)) ∙ blocks_deeper σ f (w - suc s) sub 0 0 r x)

    rows_next : rows_here x (suc r) w t at ≡ row ∷ rows_here x r (w - suc s) sub next_first
    rows_next =
        let first : ℕ → ℕ = λ n. at n + left_of σ w t 0 n (suc r) x in
        let own : first 0 ≡ at 0 = omega (arith, left_own σ w t (suc r) x) in
        blocks_next (row_in x first)
        ∙ ap₂ (λ (b : ℕ) (rs : List ℕ). row_of x b (suc s) w ∷ rs) own
        (map_same _ _ (blocks_along σ (w - suc s) sub 0 0 r x) (λ b. ap (λ (v : ℕ). row_of x v b.stride b.bits) (later b.level)))
      where
        later : (n : ℕ) → at (suc n) + left_of σ w t 0 (suc n) (suc r) x ≡ next_first n + left_of σ (w - suc s) sub 0 n r x
        later n = omega (arith, left_below σ w t n r s x h, left_split σ (suc s) (w - suc s) w t n r x (omega arith))

    -- the mark that it is made of
    abbrev mark : ℕ
    mark = mark_along (suc s) t cut 0

    row_best_is : row_best (row_at ls row) ≡ mark_best mark
    unfolding row_below
    row_best_is = ap row_best row_is

    -- the best after the row
    best_row : AllMarks HasHop t → (best : ℕ) → new_best (row_at ls row) (mark_best best) ≡ mark_best (newer mark best)
    unfolding new_best
    best_row named best =
        ap (λ (b : HopLength). cond (eqb b.hop 0) (mark_best best) b) row_best_is
        ∙ row_says mark best (along_has HasHop (λ e. refl) (suc s) t cut 0 named (λ e. refl))

    best_next : (best : ℕ) → mark_along w t x best ≡ mark_along (w - suc s) sub x (newer mark best)
    best_next best = mark_split (suc s) (w - suc s) w t x best (omega arith) ∙ ap (mark_along (w - suc s) sub x) (mark_newer (suc s) t cut best)

    link_is : (row_at ls row).link ≡ link_to sub (next_first 0)
    unfolding row_below
    link_is = ap (λ (v : Row). v.link) row_is

    stride_is : (row_at ls row).stride ≡ stride_of σ r sub
    unfolding row_below
    stride_is = ap (λ (v : Row). v.stride) row_is

    -- no child block: the path ends
    reached_last : sub ≡ none → PathRead x (suc r) w t at
    unfolding latest
    reached_last z =
        let m = w - suc s in
        let nothing : rows_here x r m sub next_first ≡ [] = ap (map _) (ap (λ (u : Trie). blocks_along σ m u 0 0 r x) z ∙ blocks_none σ m 0 0 r x) in
        let list : rows_here x (suc r) w t at ≡ row ∷ [] = rows_next ∙ ap (λ (rs : List ℕ). row ∷ rs) nothing in
        let ends : (b : ℕ) → mark_along m sub x b ≡ b = λ b. rw z (mark_none m x b) in
        record {
          path = rw (list, h) (last readable (link_is ∙ ap (λ (u : Trie). link_to u (next_first 0)) z));
          best = λ named b. rw list (best_row named b ∙ ap mark_best (sym (best_next b ∙ ends (newer mark b))));
        }

    -- a child block: the path goes on there
    reached_on : Some sub → PathRead x r (w - suc s) sub next_first → PathRead x (suc r) w t at
    unfolding latest
    reached_on g c =
        let to : (row_at ls row).link ≡ next_first 0 = link_is ∙ link_some sub g (next_first 0) in
        let st : (row_at ls row).stride ≡ σ r sub = stride_is ∙ stride_some sub g in
        let there : Path e x (row_at ls) r (row_at ls row).link (row_at ls row).stride (w - suc s) (rows_here x r (w - suc s) sub next_first) true =
        rw (to, st) c.path in
        record {
          path = rw (rows_next, h) (on readable (rw to positive) there);
          best = λ named b. rw rows_next
              (ap (λ (v : HopLength). latest (row_at ls) v (rows_here x r (w - suc s) sub next_first)) (best_row named b)
              ∙ c.best (sub_marks HasHop (λ e. refl) (suc s) t cut named) (newer mark b) ∙ ap mark_best (sym (best_next b)));
        }
      where
        link_some : (u : Trie) → Some u → (v : ℕ) → link_to u v ≡ v
        link_some none k v = absurd k
        link_some (node p a q b) k v = refl

        stride_some : (u : Trie) → Some u → stride_of σ r u ≡ σ r u
        stride_some none k = absurd k
        stride_some (node p a q b) k = refl

        positive : 0 < next_first 0
        positive = omega (arith, l.positive 0)

  reached : (x k w : ℕ) (t : Trie) (at : ℕ → ℕ) → Some t → Good σ t w 0 k → Lies t 0 k at → PathRead x k w t at
  reached x zero w t at some good l = absurd (omega (arith, good_level σ t w 0 some good))
  reached x (suc r) w t at some good l =
      let b = good_block σ t w r some good in
      let s = b.s in
      ⊎_elim (reached_last x r s w t at some b.stride b.fits l)
      (λ k. reached_on x r s w t at some b.stride b.fits l k
      (reached x r (w - suc s) _ _ k (b.child (x / 2 ^ (w - suc s))) (lies_next x r s w t at some b.stride b.fits l)))
      (some? (sub_along (suc s) t (x / 2 ^ (w - suc s))))

  -- ---- what the rows on the path say: the mark said d (d + s) for a block of stride s at depth d, where said says so of each such part of
  -- the address's path in the whole trie T of width W
  module _ (x W : ℕ) (T : Trie) (said : ℕ → ℕ → ℕ)
      (told : (d s : ℕ) → d + s ≤ W → mark_along s (sub_along d T (x / 2 ^ (W - d))) (x / 2 ^ (W - (d + s))) 0 ≡ said d (d + s)) where
    abbrev best_said : Begun → HopLength
    best_said b = mark_best (said (W - b.bits) (W - b.bits + b.stride))

    -- where w bits are left, the subtrie is that of the address's first bits
    abbrev At : (w : ℕ) → Trie → Type 0
    At w u = (w ≤ W) × (u ≡ sub_along (W - w) T (x / 2 ^ w))

    at_next : (w s : ℕ) (t : Trie) → s ≤ w → At w t → At (w - s) (sub_along s t (x / 2 ^ (w - s)))
    at_next w s t le a =
        let y = x / 2 ^ (w - s) in
        let e : y / 2 ^ s ≡ x / 2 ^ w = shr-shr x (w - s) s ∙ ap (λ (v : ℕ). x / 2 ^ v) (omega arith) in
        let n : W - (w - s) ≡ W - w + s = omega (arith, a.0) in
        (omega (arith, a.0), rw (n, a.1, ← e) (sym (sub_split (W - w) s (W - w + s) T y refl)))

    mark_here : (w s : ℕ) (t : Trie) → s ≤ w → At w t → mark_along s t (x / 2 ^ (w - s)) 0 ≡ said (W - w) (W - w + s)
    mark_here w s t le a =
        let d : W - (W - w) ≡ w = omega (arith, a.0) in
        let c : W - (W - w + s) ≡ w - s = omega (arith, a.0) in
        rw a.1 (rw (d, c) at (told (W - w) s (omega (arith, a.0))))

    says_none : (k w : ℕ) (t : Trie) (at : ℕ → ℕ) → t ≡ none
        → map (λ r. row_best (row_at ls r)) (rows_here x k w t at) ≡ map best_said (blocks_along σ w t 0 0 k x)
    says_none k w t at z = let e : blocks_along σ w t 0 0 k x ≡ [] = rw z (blocks_none σ w 0 0 k x) in rw e

    says : (k w : ℕ) (t : Trie) (at : ℕ → ℕ) → At w t → Some t → Good σ t w 0 k → Lies t 0 k at
        → map (λ r. row_best (row_at ls r)) (rows_here x k w t at) ≡ map best_said (blocks_along σ w t 0 0 k x)
    says zero w t at a some good l = absurd (omega (arith, good_level σ t w 0 some good))
    says (suc r) w t at a some good l =
        let b = good_block σ t w r some good in
        let s = b.s in
        let m = w - suc s in
        let to = next_first x r s w t at some b.stride b.fits l in
        let u = sub_along (suc s) t (x / 2 ^ m) in
        ap (map (λ r. row_best (row_at ls r))) (rows_next x r s w t at some b.stride b.fits l)
        ∙ ap₂ (λ (v : HopLength) (vs : List HopLength). v ∷ vs)
        (row_best_is x r s w t at some b.stride b.fits l ∙ ap mark_best (mark_here w (suc s) t b.fits a))
        (⊎_elim (says_none r m u to)
        (λ k. says r m u to (at_next w (suc s) t b.fits a) k (b.child (x / 2 ^ m)) (lies_next x r s w t at some b.stride b.fits l))
        (some? u))
        ∙ sym (blocks_next x r s w t at some b.stride b.fits l best_said)

-- ---- the whole trie
module _ (σ : Strides) (t : Trie) (k : ℕ) (ls : Lists) where
  no_rows : (xs : List Row) → length xs ≡ 0 → xs ≡ []
  no_rows [] h = refl
  no_rows (x ∷ xs) h = absurd (omega arith)

  level_held : (m n : ℕ) → n < m → Hold ls 0 (levels_rows σ t k m) → Hold ls (first_row σ t k n) (level_rows σ t 0 n k (first_row σ t k (suc n)))
  unfolding levels_rows
  level_held zero n l h = absurd (omega arith)
  level_held (suc m) n l h = elim (dec_le (suc n) m) [
    | yes p ↦ level_held m n p (hold_first ls 0 (levels_rows σ t k m) _ h)
    | no p ↦
        (let z : n ≡ m = omega arith in
        let g = hold_rest ls 0 (levels_rows σ t k m) (level_rows σ t 0 m k (first_row σ t k (suc m))) h in
        let q : 0 + length (levels_rows σ t k m) ≡ first_row σ t k m = omega (arith, levels_length σ t k m) in
        rw (z, ← q) g)
  ]

  root_wide : (w : ℕ) → Some t → Good σ t w 0 k → 0 < wide σ t 0 0 k
  root_wide w some good =
      let l = good_level σ t w k some good in
      let e : k ≡ suc (pred k) = omega arith in
      rw e (rw (wide_own σ t (pred k) some) (pow_pos (σ (suc (pred k)) t)))

  pub lies_all : (w : ℕ) → Some t → Good σ t w 0 k → Hold ls 0 (rows_of σ k t) → Lies σ ls (row_count σ k t) t 0 k (first_row σ t k)
  unfolding rows_of row_count
  lies_all w some good h = record {
    rows = λ n. elim (dec_le (suc n) k) [
      | yes p ↦ level_held k n p h
      | no p ↦
          rw (no_rows (level_rows σ t 0 n k (first_row σ t k (suc n))) (level_length σ t 0 n k (first_row σ t k (suc n)) ∙ wide_past σ t 0 n k (omega arith))) tt
    ];
    fits = λ n. elim (dec_le (suc n) k) [
      | yes p ↦ omega (arith, first_mono σ t k (suc n) k p, first_next σ t k n)
      | no p ↦ omega (arith, first_past σ t k n (omega arith), wide_past σ t 0 n k (omega arith))
    ];
    positive = λ n. omega (arith, first_mono σ t k 1 (suc n) (omega arith), first_next σ t k 0, root_wide w some good);
  }

-- ---- a lookup over what a build left
module _ {most : ℕ} {σ : Strides} {t : Trie} {rec : Record} {ls : Lists} (g : LaidTrie most σ t rec ls) where
  abbrev W : ℕ
  W = rec.width

  abbrev k : ℕ
  k = rec.levels

  -- it reads the rows of the nodes that begin the address and at which the strides begin a block, and they leave as best what the
  -- last nonzero mark on the address's path says
  abbrev Finds : (x : ℕ) → List ℕ → Trie → Type 0
  Finds x rs u = OnPath rec ls x rs × (AllMarks HasHop u → (best : ℕ) → latest (row_at ls) (mark_best best) rs ≡ mark_best (mark_along W u x best))

  finds : (x : ℕ) → Finds x (rows_along σ W k t x) t
  unfolding rows_along block_row first_row latest
  finds x = go t g.good g.first g.elements g.rows
    where
      go : (u : Trie) → Good σ u W 0 k → root rec ≡ stride_of σ k u → rec.elements ≡ row_count σ k u → Hold ls 0 (rows_of σ k u)
          → Finds x (rows_along σ W k u x) u
      go none h f c rows =
          let z : rows_along σ W k none x ≡ [] = ap (map _) (blocks_none σ W 0 0 k x) in
          rw z (empty f, λ named best. ap mark_best (sym (mark_none W x best)))
      go (node p a q b) h f c rows =
          let u = node p a q b in
          let r = reached σ ls (row_count σ k u) x k W u (first_row σ u k) tt h (lies_all σ u k ls W tt h rows) in
          let path : Path rec.elements x (row_at ls) k 0 (root rec) W (rows_along σ W k u x) true = rw (f, c) r.path in
          (walked (rw f (good_root σ u W k tt h)) path, r.best)

  passes : (x : ℕ) → x < 2 ^ W → Passed most rec (shortest ls) x
  passes x a = record { width = g.width; levels = g.levels; inside = a; enough = g.room; rooted = go t g.good g.first g.elements }
    where
      go : (t : Trie) → Good σ t W 0 k → root rec ≡ stride_of σ k t → rec.elements ≡ row_count σ k t → root rec ≡ 0 → rec.elements ≡ 0
      go none h f c z = c ∙ count_none σ k
      go (node p a q b) h f c z = absurd (omega (arith, good_root σ (node p a q b) W k tt h))

  module _ (x : ℕ) (a : x < 2 ^ W) where
    -- the path's rows are exactly those
    pub path_exactly : path_rows rec ls x ≡ rows_along σ W k t x
    path_exactly = path_rows_lem rec ls x (finds x).0

    -- and the answer is what the last nonzero mark on the address's path says, else the floor, with one read for each such node
    pub lookup_built : AllMarks HasHop t → (m : ℕ) → mark_best m ≡ floor_best rec.floor
        → let b = mark_best (mark_along W t x m) in lookup_of most rec ls x ≡ answer b.hop b.len (length (blocks_along σ W t 0 0 k x))
    unfolding rows_along
    lookup_built named m floor =
        let e = ap (λ (b : HopLength). latest (row_at ls) b (rows_along σ W k t x)) (sym floor) ∙ (finds x).1 named m in
        path_answer most rec ls x (passes x a) (finds x).0
        ∙ ap₂ (λ (b : HopLength). answer b.hop b.len) e (length-map (blocks_along σ W t 0 0 k x) (row_in x (block_row σ W k t x)))

    -- what the rows on the path say, where said says what mark stands in each part of it
    pub rows_say : (said : ℕ → ℕ → ℕ)
        → ((d s : ℕ) → d + s ≤ W → mark_along s (sub_along d t (x / 2 ^ (W - d))) (x / 2 ^ (W - (d + s))) 0 ≡ said d (d + s))
        → map (λ r. row_best (row_at ls r)) (path_rows rec ls x) ≡ map (λ b. mark_best (said (W - b.bits) (W - b.bits + b.stride))) (blocks_along σ W t 0 0 k x)
    unfolding rows_along block_row sub_along
    rows_say said told =
        let e = row_count σ k t in
        let there : (W ≤ W) × (t ≡ sub_along (W - W) t (x / 2 ^ W)) = let z : W - W ≡ 0 = omega arith in rw z (omega arith, refl) in
        ap (map (λ r. row_best (row_at ls r))) path_exactly
        ∙ ⊎_elim (says_none σ ls e x W t said told k W t (first_row σ t k))
        (λ some. says σ ls e x W t said told k W t (first_row σ t k) there some g.good (lies_all σ t k ls W some g.good g.rows))
        (some? t)
