-- The element rows of a trie: how many there are, level by level and in all; rows that lists hold; how the rows of a level, and
-- those left of a path, split over the two sides of a node and over a block's stride.
use Prim.Native.Nat.{ℕ, zero, suc, pred, ◌+◌, ◌/◌, ◌^◌, ◌≤◌, ◌<◌}
use mathlib.Core.Path.{◌≡◌, refl, sym, ap, ap₂, ◌∙◌}
use mathlib.Core.List.{List, [], ◌∷◌, ◌++◌}
use native.Mathlib.Omega.{arith}
use native.Mathlib.Decide.{dec_le}
use lib.ListN.{length, length-append}
use Rattle.strides.specs.Trie.{Trie, none, node, Some, left, right, kid, bit, depth, sub_along}
use Rattle.strides.proofs.Paths.{bit_shr, SameBits}
use Rattle.walk.specs.Rows.{Row}
use Rattle.walk.specs.Rows.{Lists, row_at}
use Rattle.layout.specs.Blocks.{Strides, wide, left_of, list_of, block_rows, level_rows, first_row, levels_rows, rows_of, row_count, Hold}

-- ---- rows that the lists hold
module _ (ls : Lists) where
  pub hold_first : (b : ℕ) (xs ys : List Row) → Hold ls b (xs ++ ys) → Hold ls b xs
  hold_first b [] ys h = tt
  hold_first b (x ∷ xs) ys h = (h.0, hold_first (suc b) xs ys h.1)

  pub hold_rest : (b : ℕ) (xs ys : List Row) → Hold ls b (xs ++ ys) → Hold ls (b + length xs) ys
  hold_rest b [] ys h = let e : b + 0 ≡ b = omega arith in rw e h
  hold_rest b (x ∷ xs) ys h = let e : b + suc (length xs) ≡ suc b + length xs = omega arith in rw e (hold_rest (suc b) xs ys h.1)

  pub hold_append : (b : ℕ) (xs ys : List Row) → Hold ls b xs → Hold ls (b + length xs) ys → Hold ls b (xs ++ ys)
  hold_append b [] ys h g = let e : b + 0 ≡ b = omega arith in rw e at g
  hold_append b (x ∷ xs) ys h g =
      let e : b + suc (length xs) ≡ suc b + length xs = omega arith in
      (h.0, hold_append (suc b) xs ys h.1 (rw e at g))

  -- rows given by their index
  pub hold_at : (n b : ℕ) (g : ℕ → Row) → Hold ls b (list_of n g) → (i : ℕ) → i < n → row_at ls (b + i) ≡ g i
  unfolding list_of
  hold_at zero b g h i l = absurd (omega arith)
  hold_at (suc n) b g h zero l = let e : b + 0 ≡ b = omega arith in rw e h.0
  hold_at (suc n) b g h (suc i) l =
      let e : b + suc i ≡ suc b + i = omega arith in
      rw e (hold_at n (suc b) (λ j. g (suc j)) h.1 i (omega arith))

  pub hold_all : (n b : ℕ) (g : ℕ → Row) → ((i : ℕ) → i < n → row_at ls (b + i) ≡ g i) → Hold ls b (list_of n g)
  unfolding list_of
  hold_all zero b g h = tt
  hold_all (suc n) b g h =
      let e : b + 0 ≡ b = omega arith in (
        rw e at (h 0 (omega arith)),
        hold_all n (suc b) (λ j. g (suc j)) (λ i l. let e' : b + suc i ≡ suc b + i = omega arith in rw e' at (h (suc i) (omega arith))),
      )

-- other lists that agree there hold them too
pub hold_kept : (ls ls' : Lists) (b : ℕ) (xs : List Row) → ((i : ℕ) → b ≤ i → i < b + length xs → row_at ls' i ≡ row_at ls i)
    → Hold ls b xs → Hold ls' b xs
hold_kept ls ls' b [] same h = tt
hold_kept ls ls' b (x ∷ xs) same h =
    (same b (omega arith) (omega arith) ∙ h.0, hold_kept ls ls' (suc b) xs (λ i p q. same i (omega arith) (omega arith)) h.1)

-- and lists that hold the same rows agree there
pub hold_unique : (ls ls' : Lists) (b : ℕ) (xs : List Row) → Hold ls b xs → Hold ls' b xs
    → (i : ℕ) → b ≤ i → i < b + length xs → row_at ls i ≡ row_at ls' i
hold_unique ls ls' b [] h g i p q = absurd (omega arith)
hold_unique ls ls' b (x ∷ xs) h g i p q = elim (dec_le (suc b) i) [
  | yes r ↦ hold_unique ls ls' (suc b) xs h.1 g.1 i r (omega arith)
  | no r ↦ (let e : i ≡ b = omega arith in rw e (h.0 ∙ sym g.0))
]

length_of_lem : (n : ℕ) (g : ℕ → Row) → length (list_of n g) ≡ n
unfolding list_of
length_of_lem zero g = refl
length_of_lem (suc n) g = ap suc (length_of_lem n (λ i. g (suc i)))

no_rows : (xs : List Row) → length xs ≡ 0 → xs ≡ []
no_rows [] e = refl
no_rows (x ∷ xs) e = absurd (omega arith)

module _ (σ : Strides) where
  -- ---- a level
  -- it has as many rows as its blocks are wide
  pub level_length : (t : Trie) (c n r f : ℕ) → length (level_rows σ t c n r f) ≡ wide σ t c n r
  unfolding level_rows wide block_rows
  level_length none c n r f = refl
  level_length (node p a q b) (suc c) n r f =
      length-append (level_rows σ a c n r f) (level_rows σ b c n r (f + wide σ a c (suc n) r))
      ∙ ap₂ ◌+◌ (level_length a c n r f) (level_length b c n r (f + wide σ a c (suc n) r))
  level_length (node p a q b) zero n zero f = refl
  level_length (node p a q b) zero zero (suc r) f = length_of_lem (2 ^ σ (suc r) (node p a q b)) _
  level_length (node p a q b) zero (suc n) (suc r) f =
      let s = pred (σ (suc r) (node p a q b)) in
      length-append (level_rows σ a s n r f) (level_rows σ b s n r (f + wide σ a s (suc n) r))
      ∙ ap₂ ◌+◌ (level_length a s n r f) (level_length b s n r (f + wide σ a s (suc n) r))

  -- the two sides of a node between blocks
  pub wide_sides : (t : Trie) (c n r : ℕ) → wide σ t (suc c) n r ≡ wide σ (left t) c n r + wide σ (right t) c n r
  unfolding wide
  wide_sides none c n r = refl
  wide_sides (node p a q b) c n r = refl

  pub level_sides : (t : Trie) (c n r f : ℕ)
      → level_rows σ t (suc c) n r f ≡ level_rows σ (left t) c n r f ++ level_rows σ (right t) c n r (f + wide σ (left t) c (suc n) r)
  unfolding level_rows
  level_sides none c n r f = refl
  level_sides (node p a q b) c n r f = refl

  -- a block of its own
  pub wide_own : (t : Trie) (r : ℕ) → Some t → wide σ t 0 0 (suc r) ≡ 2 ^ σ (suc r) t
  unfolding wide
  wide_own none r g = absurd g
  wide_own (node p a q b) r g = refl

  pub level_own : (t : Trie) (r f : ℕ) → Some t → level_rows σ t 0 0 (suc r) f ≡ block_rows σ r t f
  unfolding level_rows
  level_own none r f g = absurd g
  level_own (node p a q b) r f g = refl

  -- below a block's node the levels of its stride are passed
  pub wide_below : (t : Trie) (n r s : ℕ) → σ (suc r) t ≡ suc s → wide σ t 0 (suc n) (suc r) ≡ wide σ t (suc s) n r
  unfolding wide
  wide_below none n r s e = refl
  wide_below (node p a q b) n r s e = rw e

  pub level_below : (t : Trie) (n r f s : ℕ) → σ (suc r) t ≡ suc s → level_rows σ t 0 (suc n) (suc r) f ≡ level_rows σ t (suc s) n r f
  unfolding level_rows
  level_below none n r f s e = refl
  level_below (node p a q b) n r f s e = rw e

  -- no block has more than r levels below it
  pub wide_past : (t : Trie) (c n r : ℕ) → r ≤ n → wide σ t c n r ≡ 0
  unfolding wide
  wide_past none c n r h = refl
  wide_past (node p a q b) (suc c) n r h = omega (arith, wide_past a c n r h, wide_past b c n r h)
  wide_past (node p a q b) zero n zero h = refl
  wide_past (node p a q b) zero zero (suc r) h = absurd (omega arith)
  wide_past (node p a q b) zero (suc n) (suc r) h =
      let s = pred (σ (suc r) (node p a q b)) in
      omega (arith, wide_past a s n r (omega arith), wide_past b s n r (omega arith))

  -- the n-th block after the next begins at least c + n levels lower: a trie that has no such level has none
  pub wide_deep : (t : Trie) (c n r : ℕ) → depth t ≤ c + n → wide σ t c n r ≡ 0
  unfolding wide depth
  wide_deep none c n r h = refl
  wide_deep (node p a q b) (suc c) n r h = omega (arith, wide_deep a c n r (omega arith), wide_deep b c n r (omega arith))
  wide_deep (node p a q b) zero n zero h = refl
  wide_deep (node p a q b) zero zero (suc r) h = absurd (omega arith)
  wide_deep (node p a q b) zero (suc n) (suc r) h =
      let s = pred (σ (suc r) (node p a q b)) in
      omega (arith, wide_deep a s n r (omega arith), wide_deep b s n r (omega arith))

  pub level_deep : (t : Trie) (c n r f : ℕ) → depth t ≤ c + n → level_rows σ t c n r f ≡ []
  level_deep t c n r f h = no_rows (level_rows σ t c n r f) (level_length t c n r f ∙ wide_deep t c n r h)

  -- ---- left of a path
  -- only the last w bits count
  pub left_same : (w : ℕ) (t : Trie) (c n r x y : ℕ) → SameBits w x y → left_of σ w t c n r x ≡ left_of σ w t c n r y
  unfolding left_of
  left_same zero t c n r x y e = refl
  left_same (suc w) t (suc c) n r x y e = rw (e w (omega arith), left_same w (kid (bit w y) t) c n r x y (λ j h. e j (omega arith)))
  left_same (suc w) t zero n zero x y e = refl
  left_same (suc w) t zero zero (suc r) x y e = refl
  left_same (suc w) t zero (suc n) (suc r) x y e =
      rw (e w (omega arith), left_same w (kid (bit w y) t) (pred (σ (suc r) t)) n r x y (λ j h. e j (omega arith)))

  -- the block at the path's start has nothing left of it
  pub left_own : (w : ℕ) (t : Trie) (r x : ℕ) → left_of σ w t 0 0 r x ≡ 0
  unfolding left_of
  left_own zero t r x = refl
  left_own (suc w) t zero x = refl
  left_own (suc w) t (suc r) x = refl

  pub left_below : (w : ℕ) (t : Trie) (n r s x : ℕ) → σ (suc r) t ≡ suc s → left_of σ w t 0 (suc n) (suc r) x ≡ left_of σ w t (suc s) n r x
  unfolding left_of
  left_below zero t n r s x e = refl
  left_below (suc w) t n r s x e = rw e

  -- a path of w bits is one of c bits and one of m bits
  pub left_split : (c m w : ℕ) (t : Trie) (n r x : ℕ) → w ≡ c + m
      → left_of σ w t c n r x ≡ left_of σ c t c n r (x / 2 ^ m) + left_of σ m (sub_along c t (x / 2 ^ m)) 0 n r x
  unfolding left_of sub_along
  left_split zero m w t n r x e = let z : w ≡ m = omega arith in rw z (omega arith)
  left_split (suc c) m zero t n r x e = absurd (omega arith)
  left_split (suc c) m (suc w) t n r x e =
      let q : m + c ≡ w = omega arith in
      rw (bit_shr c m x, q) (omega (arith, left_split c m w (kid (bit w x) t) n r x (omega arith)))

  -- ---- all levels
  module _ (t : Trie) (k : ℕ) where
    pub first_next : (n : ℕ) → first_row σ t k (suc n) ≡ first_row σ t k n + wide σ t 0 n k
    unfolding first_row
    first_next n = refl

    pub first_mono : (n m : ℕ) → n ≤ m → first_row σ t k n ≤ first_row σ t k m
    unfolding first_row
    first_mono n zero h = let z : n ≡ 0 = omega arith in rw z (omega arith)
    first_mono n (suc m) h =
        elim (dec_le n m) [ yes p ↦ omega (arith, first_mono n m p) | no p ↦ (let z : n ≡ suc m = omega arith in rw z (omega arith)) ]

    pub first_past : (n : ℕ) → k ≤ n → first_row σ t k n ≡ first_row σ t k k
    unfolding first_row
    first_past zero h = let z : 0 ≡ k = omega arith in ap (first_row σ t k) z
    first_past (suc n) h = elim (dec_le k n) [
      | yes p ↦ omega (arith, first_past n p, wide_past t 0 n k p)
      | no p ↦ (let z : suc n ≡ k = omega arith in ap (first_row σ t k) z)
    ]

    pub first_le : (n : ℕ) → first_row σ t k n ≤ first_row σ t k k
    first_le n = elim (dec_le n k) [ yes p ↦ first_mono n k p | no p ↦ omega (arith, first_past n (omega arith)) ]

    pub levels_length : (n : ℕ) → length (levels_rows σ t k n) ≡ first_row σ t k n
    unfolding levels_rows first_row
    levels_length zero = refl
    levels_length (suc n) =
        length-append (levels_rows σ t k n) (level_rows σ t 0 n k (first_row σ t k n + wide σ t 0 n k))
        ∙ ap₂ ◌+◌ (levels_length n) (level_length t 0 n k (first_row σ t k n + wide σ t 0 n k))

    -- the levels lie without gaps: E is the number of rows
    pub rows_length : length (rows_of σ k t) ≡ row_count σ k t
    unfolding rows_of row_count
    rows_length = levels_length k

  -- an empty trie has none
  pub count_none : (k : ℕ) → row_count σ k none ≡ 0
  unfolding row_count first_row wide
  count_none k = go k
    where
      go : (n : ℕ) → first_row σ none k n ≡ 0
      go zero = refl
      go (suc n) = omega (arith, go n)
