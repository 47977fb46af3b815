-- A queue takes the blocks level by level, and so lays the rows of Blocks.antt.
use Prim.Native.Nat.{ℕ, zero, suc, pred, ◌+◌, ◌-◌, ◌≤◌}
use mathlib.Core.Path.{◌≡◌, refl, sym, ap, ap₂, ◌∙◌}
use mathlib.Core.List.{List, [], ◌∷◌, ◌++◌, append_assoc, append-nil}
use native.Mathlib.Omega.{arith}
use native.Mathlib.Nat.{zero-add}
use lib.ListN.{length, length-append}
use Rattle.strides.specs.Trie.{Trie, none, node}
use Rattle.walk.specs.Rows.{Row}
use Rattle.layout.specs.Blocks.{Strides, wide, level_rows, first_row, levels_rows, rows_of}
use Rattle.layout.specs.Order.{Block, level_of, root_block, children, queue, laid_out}
use Rattle.layout.proofs.Blocks.{first_next}

module _ (σ : Strides) where
  -- the child blocks of all blocks of a list; m levels from the blocks q on; the level after them
  unfoldable next_level : List Block → List Block
  next_level [] = []
  next_level (x ∷ q) = children σ x ++ next_level q

  unfoldable by_level : ℕ → List Block → List Block
  by_level zero q = []
  by_level (suc m) q = q ++ by_level m (next_level q)

  unfoldable after : ℕ → List Block → List Block
  after zero q = q
  after (suc m) q = after m (next_level q)

  -- ---- the queue
  -- it holds the rest of a level and the beginning of the next: it takes the rest, then goes on with the next level
  turn : (more : ℕ) (xs ys : List Block) → queue σ (length xs + more) (xs ++ ys) ≡ xs ++ queue σ more (ys ++ next_level xs)
  unfolding queue next_level
  turn more [] ys = rw (zero-add more, append-nil ys)
  turn more (x ∷ xs) ys =
      let e : suc (length xs) + more ≡ suc (length xs + more) = omega arith in
      rw (e, append_assoc xs ys (children σ x), turn more xs (ys ++ children σ x), append_assoc ys (children σ x) (next_level xs))

  queue_levels : (m more : ℕ) (q : List Block) → queue σ (length (by_level m q) + more) q ≡ by_level m q ++ queue σ more (after m q)
  unfolding by_level after
  queue_levels zero more q = rw (zero-add more)
  queue_levels (suc m) more q =
      let l = by_level m (next_level q) in
      let e : length (q ++ l) + more ≡ length q + (length l + more) = omega (arith, length-append q l) in
      let one : queue σ (length q + (length l + more)) q ≡ q ++ queue σ (length l + more) (next_level q) =
      rw append-nil at (turn (length l + more) q []) in
      rw (e, one, queue_levels m more (next_level q), append_assoc q l (queue σ more (after m (next_level q))))

  queue_none : (turns : ℕ) → queue σ turns [] ≡ []
  unfolding queue
  queue_none zero = refl
  queue_none (suc turns) = refl

  -- ---- the levels of a trie
  next_append : (xs ys : List Block) → next_level (xs ++ ys) ≡ next_level xs ++ next_level ys
  unfolding next_level
  next_append [] ys = refl
  next_append (x ∷ xs) ys =
      ap (λ (l : List Block). children σ x ++ l) (next_append xs ys) ∙ sym (append_assoc (children σ x) (next_level xs) (next_level ys))

  -- the child blocks of level n are level n + 1, in order
  next_level_lem : (t : Trie) (c n r : ℕ) → next_level (level_of σ t c n r) ≡ level_of σ t c (suc n) r
  unfolding next_level level_of children
  next_level_lem none c n r = refl
  next_level_lem (node p a q b) (suc c) n r =
      next_append (level_of σ a c n r) (level_of σ b c n r) ∙ ap₂ ◌++◌ (next_level_lem a c n r) (next_level_lem b c n r)
  next_level_lem (node p a q b) zero n zero = refl
  next_level_lem (node p a q b) zero zero (suc r) = append-nil _
  next_level_lem (node p a q b) zero (suc n) (suc r) =
      let s = pred (σ (suc r) (node p a q b)) in
      next_append (level_of σ a s n r) (level_of σ b s n r) ∙ ap₂ ◌++◌ (next_level_lem a s n r) (next_level_lem b s n r)

  level_past : (t : Trie) (c n r : ℕ) → r ≤ n → level_of σ t c n r ≡ []
  unfolding level_of
  level_past none c n r h = refl
  level_past (node p a q b) (suc c) n r h = ap₂ ◌++◌ (level_past a c n r h) (level_past b c n r h)
  level_past (node p a q b) zero n zero h = refl
  level_past (node p a q b) zero zero (suc r) h = absurd (omega arith)
  level_past (node p a q b) zero (suc n) (suc r) h =
      let s = pred (σ (suc r) (node p a q b)) in
      ap₂ ◌++◌ (level_past a s n r (omega arith)) (level_past b s n r (omega arith))

  after_level : (t : Trie) (k m n : ℕ) → k ≤ n + m → after m (level_of σ t 0 n k) ≡ []
  unfolding after
  after_level t k zero n h = level_past t 0 n k (omega arith)
  after_level t k (suc m) n h = rw (next_level_lem t 0 n k) (after_level t k m (suc n) (omega arith))

  -- ---- the rows
  -- the blocks of level n, and then those of q
  abbrev LevelLaid : Trie → (c n r : ℕ) → Type 0
  LevelLaid t c n r = (f : ℕ) (q : List Block)
      → laid_out σ f (level_of σ t c n r ++ q) ≡ level_rows σ t c n r f ++ laid_out σ (f + wide σ t c (suc n) r) q

  sides_laid : (a b : Trie) (c n r : ℕ) → LevelLaid a c n r → LevelLaid b c n r → (f : ℕ) (q : List Block)
      → laid_out σ f ((level_of σ a c n r ++ level_of σ b c n r) ++ q)
      ≡ (level_rows σ a c n r f ++ level_rows σ b c n r (f + wide σ a c (suc n) r)) ++ laid_out σ (f + (wide σ a c (suc n) r + wide σ b c (suc n) r)) q
  sides_laid a b c n r ha hb f q =
      let f1 = f + wide σ a c (suc n) r in
      let e : f1 + wide σ b c (suc n) r ≡ f + (wide σ a c (suc n) r + wide σ b c (suc n) r) = omega arith in
      ap (laid_out σ f) (append_assoc (level_of σ a c n r) (level_of σ b c n r) q)
      ∙ ha f (level_of σ b c n r ++ q)
      ∙ ap (λ (l : List Row). level_rows σ a c n r f ++ l) (hb f1 q)
      ∙ sym (append_assoc (level_rows σ a c n r f) (level_rows σ b c n r f1) _)
      ∙ ap (λ (v : ℕ). (level_rows σ a c n r f ++ level_rows σ b c n r f1) ++ laid_out σ v q) e

  level_laid : (t : Trie) (c n r : ℕ) → LevelLaid t c n r
  unfolding laid_out level_of level_rows wide
  level_laid none c n r f q = let e : f + 0 ≡ f = omega arith in rw e
  level_laid (node p a p' b) (suc c) n r f q = sides_laid a b c n r (level_laid a c n r) (level_laid b c n r) f q
  level_laid (node p a p' b) zero n zero f q = let e : f + 0 ≡ f = omega arith in rw e
  level_laid (node p a p' b) zero zero (suc r) f q = refl
  level_laid (node p a p' b) zero (suc n) (suc r) f q =
      let s = pred (σ (suc r) (node p a p' b)) in
      sides_laid a b s n r (level_laid a s n r) (level_laid b s n r) f q

  levels_laid : (t : Trie) (k m n : ℕ)
      → levels_rows σ t k (n + m) ≡ levels_rows σ t k n ++ laid_out σ (first_row σ t k (suc n)) (by_level m (level_of σ t 0 n k))
  unfolding levels_rows by_level laid_out
  levels_laid t k zero n = let e : n + 0 ≡ n = omega arith in rw (e, append-nil)
  levels_laid t k (suc m) n =
      let e : n + suc m ≡ suc n + m = omega arith in
      rw (
        e,
        levels_laid t k m (suc n),
        next_level_lem t 0 n k,
        level_laid t 0 n k (first_row σ t k (suc n)) (by_level m (level_of σ t 0 (suc n) k)),
        ← first_next σ t k (suc n),
        append_assoc (levels_rows σ t k n) (level_rows σ t 0 n k (first_row σ t k (suc n))) _,
      )

  -- ---- the queue's rows
  module _ (k : ℕ) (t : Trie) where
    -- the blocks, level by level
    pub blocks_of : List Block
    blocks_of = by_level k (root_block σ k t)

    -- a queue that has turns enough takes all of them, in this order
    pub queue_takes : (turns : ℕ) → length blocks_of ≤ turns → queue σ turns (root_block σ k t) ≡ blocks_of
    unfolding blocks_of
    queue_takes turns h =
        let more = turns - length blocks_of in
        let e : turns ≡ length blocks_of + more = omega arith in
        rw e (
        queue_levels k more (root_block σ k t)
        ∙ ap (λ (q : List Block). blocks_of ++ queue σ more q) (after_level t k k 0 (omega arith))
        ∙ ap (λ (q : List Block). blocks_of ++ q) (queue_none more)
        ∙ append-nil blocks_of)

    -- and lays the rows of the trie
    pub rows_queue : (turns : ℕ) → length blocks_of ≤ turns
        → laid_out σ (first_row σ t k 1) (queue σ turns (root_block σ k t)) ≡ rows_of σ k t
    unfolding blocks_of rows_of levels_rows
    rows_queue turns h = rw (queue_takes turns h) (sym (rw zero-add at (levels_laid t k k 0)))
