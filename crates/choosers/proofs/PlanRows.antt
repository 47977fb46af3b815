-- The rows that a plan leaves, as the builder reads them: a tree that stands stands for its trie with the strides of the plan; and
-- what the root's row says of costs and strides.
use mathlib.Core.Path.{◌≡◌, refl, ap, ◌∙◌}
use mathlib.Core.List.{List}
use mathlib.Core.Logic.{inl, inr}
use Prim.Native.Nat.{ℕ, zero, suc, ◌+◌, ◌-◌, ◌*◌, ◌%◌, ◌≤◌, ◌<◌}
use native.Mathlib.Nat.{le_refl, mod-eq_of_lt}
use native.Mathlib.Omega.{arith}
use lib.ListN.{length, get_or, replicate, set}
use borrow.Author.Tests.{eq-eqb, ne_eqb}
use Rattle.table.specs.Lists.{padded}
use Rattle.strides.specs.Trie.{Trie, none, node, depth, nodes_at}
use Rattle.strides.specs.Cheapest.{variable}
use Rattle.strides.specs.Recurrence.{opt_by, pick_by, pick_fixed_by, least_by, strides_by, fixed_strides}
use Rattle.strides.specs.Strides.{variable_stride}
use Rattle.strides.proofs.Strides.{pick_variable}
use Rattle.strides.proofs.Marks.{AllMarks}
use Rattle.walk.specs.Limits.{WIDTH, LEVELS}
use Rattle.choosers.specs.Limits.{BYTE}
use Rattle.choosers.specs.Scratch.{ROW, DEPTH, ask, stride_at, Stands, before_strides, COST, MARKS, STRIDE}
use Rattle.choosers.specs.Trees.{Tree, nil, fork, shape, link_of, Stand, Deep, HasRow}
use Rattle.choosers.specs.Costs.{held, AllPriced}
use Rattle.choosers.proofs.Settling.{ask_col}
use Rattle.choosers.proofs.FixedChoice.{list_head}

-- ---- the rows that a plan leaves, as the builder reads them

-- a mark that a word of 24 bits holds
abbrev pub Small : ℕ → Type 0
Small mark = mark < MARKS

-- each node's strides, as they are read
abbrev StridesIn : (ℕ → Trie → ℕ) → List ℕ → List ℕ → Tree → Type 0
StridesIn σ rows plan nil = Unit {0}
StridesIn σ rows plan (fork x p l q r) =
    ((i : ℕ) → 1 ≤ i → i ≤ length plan → stride_at rows plan (x + 1) i ≡ σ i (node p (shape l) q (shape r))) × StridesIn σ rows plan l × StridesIn σ rows plan r

pub tree_stands : (σ : ℕ → Trie → ℕ) (rows plan : List ℕ) (t : Tree) → Stand rows t → Deep rows t → AllMarks Small (shape t)
    → ((y : ℕ) → HasRow y t → (y + 1) * ROW ≤ length rows) → StridesIn σ rows plan t → Stands σ rows plan (link_of t) (shape t)
unfolding shape
tree_stands σ rows plan nil s d m f i = refl
tree_stands σ rows plan (fork x p l q r) s d m f i = (
  record {
    some = omega arith;
    fits = f x (inl refl);
    mark0 = ask_col rows x 2 ∙ s.0.mark0;
    mark1 = ask_col rows x 3 ∙ s.0.mark1;
    small0 = m.0;
    small1 = m.2;
    deep = ask_col rows x DEPTH ∙ d.0;
    stride = i.0;
  },
  rw (ask_col rows x 0 ∙ s.0.link0) (tree_stands σ rows plan l s.1 d.1 m.1 (λ y h. f y (inr (inl h))) i.1),
  rw (ask_col rows x 1 ∙ s.0.link1) (tree_stands σ rows plan r s.2 d.2 m.3 (λ y h. f y (inr (inr h))) i.2),
)

-- a plan that is 0 leaves each row its own
pub strides_own : (k : ℕ) (rows plan : List ℕ) (t : Tree) → get_or plan 0 0 ≡ 0 → length plan ≡ k → AllPriced k rows t → StridesIn (variable_stride held) rows plan t
unfolding stride_at variable_stride
strides_own k rows plan nil z len a = tt
strides_own k rows plan (fork x p l q r) z len a = (
  λ i h g. own i h g,
  strides_own k rows plan l z len a.1,
  strides_own k rows plan r z len a.2,
)
  where
    own : (i : ℕ) → 1 ≤ i → i ≤ length plan → stride_at rows plan (x + 1) i ≡ variable_stride held i (node p (shape l) q (shape r))
    own zero h g = absurd (omega arith)
    own (suc j) h g =
        let e : before_strides + suc j ≡ STRIDE + j = omega arith in
        rw (ne_eqb (x + 1) 0 (λ w. omega arith), eq-eqb (get_or plan 0 0) 0 z, e) (ask_col rows x (STRIDE + j) ∙ a.0.stride j (omega arith))

-- any other plan names the strides of the levels
strides_fixed : (σ : ℕ → Trie → ℕ) (rows plan : List ℕ) (t : Tree) → (get_or plan 0 0 ≡ 0 → ⊥)
    → ((i : ℕ) (u : Trie) → 1 ≤ i → i ≤ length plan → get_or plan (length plan - i) 0 ≡ σ i u) → StridesIn σ rows plan t
unfolding stride_at
strides_fixed σ rows plan nil z f = tt
strides_fixed σ rows plan (fork x p l q r) z f = (
  λ i h g. rw (ne_eqb (x + 1) 0 (λ w. omega arith), ne_eqb (get_or plan 0 0) 0 z) (f i (node p (shape l) q (shape r)) h g),
  strides_fixed σ rows plan l z f,
  strides_fixed σ rows plan r z f,
)

-- ---- what the root's row says

pub root_cost : (k : ℕ) (rows : List ℕ) (t : Tree) → AllPriced k rows t → (r : ℕ) → r < k → ask rows (link_of t) (COST + r) ≡ opt_by held r (shape t)
unfolding ask opt_by shape
root_cost k rows nil a zero h = refl
root_cost k rows nil a (suc r) h = refl
root_cost k rows (fork x p l q u) a r h = ask_col rows x (COST + r) ∙ a.0.cost r h

pub root_pick : (k : ℕ) (rows : List ℕ) (t : Tree) → AllPriced k rows t → (r : ℕ) → r < k → ask rows (link_of t) (STRIDE + r) ≡ pick_by held r (shape t)
unfolding ask pick_by shape
root_pick k rows nil a zero h = refl
root_pick k rows nil a (suc r) h = refl
root_pick k rows (fork x p l q u) a r h = ask_col rows x (STRIDE + r) ∙ a.0.stride r h

pub least_variable : (k : ℕ) (t : Trie) → 1 ≤ k → opt_by held (k - 1) t ≡ least_by held variable k t
unfolding least_by
least_variable zero t h = absurd (omega arith)
least_variable (suc m) t h = let e : suc m - 1 ≡ m = omega arith in rw e

pick_small : (m : ℕ) (t : Trie) → pick_by held m t ≤ depth t
unfolding pick_by variable_stride depth
pick_small zero none = le_refl 0
pick_small (suc m) none = le_refl 0
pick_small zero (node p a q b) = (pick_variable held).most 0 (node p a q b) tt
pick_small (suc m) (node p a q b) = (pick_variable held).most (suc m) (node p a q b) tt

-- a variable choice names the root's stride only
pub root_stride : (k : ℕ) (t : Trie) (stride : ℕ) → 1 ≤ k → stride ≡ pick_by held (k - 1) t → depth t ≤ WIDTH
    → set (replicate LEVELS 0) 0 (stride % BYTE) ≡ padded LEVELS (strides_by held variable k t)
unfolding strides_by padded pick_by
root_stride zero t stride h e w = absurd (omega arith)
root_stride (suc m) t stride h e w =
    let m1 : suc m - 1 ≡ m = omega arith in
    let small : stride % BYTE ≡ stride = mod-eq_of_lt (omega (arith, e, pick_small (suc m - 1) t)) in
    ap (λ (x : ℕ). set (replicate LEVELS 0) 0 x) (small ∙ e ∙ ap (λ (x : ℕ). pick_by held x t) m1) ∙ at_root m t
  where
    at_root : (m : ℕ) (t : Trie) → set (replicate LEVELS 0) 0 (pick_by held m t) ≡ padded LEVELS (strides_by held variable (suc m) t)
    at_root zero none = refl
    at_root (suc m) none = refl
    at_root m (node p a q b) = refl

pick_some : (nodes : ℕ → ℕ) (m i n : ℕ) → 1 ≤ n → 1 ≤ pick_fixed_by held nodes m i n
unfolding pick_fixed_by
pick_some nodes zero i n h = h
pick_some nodes (suc m) i zero h = absurd (omega arith)
pick_some nodes (suc m) i (suc n) h = omega arith

-- the strides of a fixed choice, as they are read at any node
pub fixed_strides_lem : (k : ℕ) (t : Trie) (σ : ℕ → Trie → ℕ) (rows plan : List ℕ) (u : Tree) → 1 ≤ k → depth (shape u) ≡ depth t
    → get_or plan 0 0 ≡ get_or (fixed_strides held k t) 0 0 → ((i : ℕ) (v : Trie) → 1 ≤ i → i ≤ length plan → get_or plan (length plan - i) 0 ≡ σ i v)
    → StridesIn σ rows plan u
unfolding fixed_strides shape depth
fixed_strides_lem zero t σ rows plan u h e f w = absurd (omega arith)
fixed_strides_lem (suc m) t σ rows plan nil h e f w = tt
fixed_strides_lem (suc m) t σ rows plan (fork x p l q r) h e f w =
    strides_fixed σ rows plan (fork x p l q r)
    (λ z. omega (arith, f, list_head (λ i. nodes_at i t) m 0 (depth t), pick_some (λ i. nodes_at i t) m 0 (depth t) (omega arith))) w
