-- The fixed strides, from the last level up; and the whole fixed choice from the counts of nodes by level.
use mathlib.Core.Path.{◌≡◌, refl, ap, ap₂, sym, subst, ◌∙◌, fun_ext}
use mathlib.Core.List.{List, [], ◌∷◌}
use mathlib.Core.Logic.{⊎_elim}
use Prim.Native.Nat.{ℕ, zero, suc, max, ◌+◌, ◌-◌, ◌*◌, ◌^◌, ◌≤◌, ◌<◌}
use native.Mathlib.Nat.{le_refl, add-zero, zero-add, sub-zero}
use native.Mathlib.Decide.{dec_le}
use native.Mathlib.Numerals.{add-one}
use native.Mathlib.Omega.{arith}
use lib.ListN.{length, get_or, set, length-set, replicate}
use lib.Seq.{get_or-set_same, get_or-set_other}
use Rattle.table.specs.Table.{at}
use Rattle.strides.specs.Trie.{Trie, depth, nodes_at}
use Rattle.strides.specs.Entries.{longest_length}
use Rattle.strides.specs.Cheapest.{fixed}
use Rattle.strides.specs.Recurrence.{with_first_fixed, fix_by, pick_fixed_by, list_by, least_by, strides_by, fixed_strides}
use Rattle.strides.proofs.Scan.{scanned}
use Rattle.strides.proofs.Sums.{nodes_deep}
use Rattle.walk.specs.Limits.{WIDTH, LEVELS, Within}
use Rattle.choosers.specs.Limits.{ENTRIES}
use Rattle.choosers.specs.Costs.{held, column, price, best_cost, best_stride}
use Rattle.choosers.specs.FixedChoice.{level_cells, cell, Filled, RowFilled, StridesFilled, ListRead, FixedIn}
use Rattle.table.proofs.Zeroes.{zeros_read}
use Rattle.table.specs.Lists.{padded}
use Rattle.table.proofs.Lists.{padded_is}
use Rattle.choosers.proofs.Gathering.{same?}
use Rattle.choosers.proofs.Pricing.{scan_same}

pub longest_next : (len : ℕ → ℕ) (i : ℕ) → longest_length len (i + 1) ≡ max (len i) (longest_length len i)
unfolding longest_length
longest_next len i = rw (add-one i)

-- ---- one level of the table of fixed strides

module _ (n d i : ℕ) (costs strides : List ℕ) where
  -- what the levels below cost, for a choice with r + 1 levels left
  abbrev lower : List ℕ → ℕ → ℕ → ℕ
  lower table r = column ((i + 1) * LEVELS + r - 1) LEVELS table

  pub fill_next : (costs1 strides1 : List ℕ) (m c s : ℕ) → m < LEVELS → (i + 1) * LEVELS ≤ length costs → (i + 1) * LEVELS ≤ length strides → RowFilled m n d i costs strides costs1 strides1
      → c ≡ best_cost (lower costs1 m) n d m → s ≡ best_stride (lower costs1 m) n d m
      → RowFilled (m + 1) n d i costs strides (set costs1 (i * LEVELS + m) c) (set strides1 (i * LEVELS + m) s)
  unfolding best_cost best_stride
  fill_next costs1 strides1 m c s hm fc fs a ec es =
      let at = i * LEVELS + m in
      let cost-off : (x : ℕ) → (x ≡ at → ⊥) → get_or (set costs1 at c) x 0 ≡ get_or costs1 x 0 = λ x ne. get_or-set_other costs1 at x c 0 ne in
      let stride-off : (x : ℕ) → (x ≡ at → ⊥) → get_or (set strides1 at s) x 0 ≡ get_or strides1 x 0 = λ x ne. get_or-set_other strides1 at x s 0 ne in
      let same = kept m in
      record {
        long_costs = length-set costs1 at c ∙ a.long_costs;
        long_strides = length-set strides1 at s ∙ a.long_strides;
        cost = λ r h. ⊎_elim
            (λ (z : r ≡ m). subst (λ (y : ℕ). cell (set costs1 at c) i y ≡ best_cost (lower costs y) n d y) (sym z)
            (get_or-set_same costs1 at c 0 (omega (arith, a.long_costs)) ∙ ec ∙ same.0))
            (λ (z : r ≡ m → ⊥). cost-off (i * LEVELS + r) (λ q. omega arith) ∙ a.cost r (omega arith)) (same? r m);
        stride = λ r h. ⊎_elim
            (λ (z : r ≡ m). subst (λ (y : ℕ). cell (set strides1 at s) i y ≡ best_stride (lower costs y) n d y) (sym z)
            (get_or-set_same strides1 at s 0 (omega (arith, a.long_strides)) ∙ es ∙ same.1))
            (λ (z : r ≡ m → ⊥). stride-off (i * LEVELS + r) (λ q. omega arith) ∙ a.stride r (omega arith)) (same? r m);
        costs_below = λ x h. cost-off x (λ q. omega arith) ∙ a.costs_below x h;
        strides_below = λ x h. stride-off x (λ q. omega arith) ∙ a.strides_below x h;
      }
    where
      -- the levels below are as they were; with one level left nothing is read of them
      kept : (r : ℕ) → (best_cost (lower costs1 r) n d r ≡ best_cost (lower costs r) n d r) × (best_stride (lower costs1 r) n d r ≡ best_stride (lower costs r) n d r)
      kept zero = (refl, refl)
      kept (suc q) =
          let e : lower costs1 (suc q) ≡ lower costs (suc q) = fun_ext (λ j. a.costs_below (j * LEVELS + ((i + 1) * LEVELS + suc q - 1)) (omega arith)) in
          (ap (λ (f : ℕ → ℕ). best_cost f n d (suc q)) e, ap (λ (f : ℕ → ℕ). best_stride f n d (suc q)) e)

-- what is chosen there is what the recurrence says
module _ (nodes : ℕ → ℕ) (i n : ℕ) (below : ℕ → ℕ) where
  abbrev BelowFixed : ℕ → Type 0
  BelowFixed q = (j : ℕ) → j ≤ n → below j ≡ fix_by held nodes q (i + suc j) (n - j)

  price_fixed : (q : ℕ) → BelowFixed q → (j : ℕ) → j ≤ n → price below (nodes i) j ≡ with_first_fixed held (fix_by held nodes q) nodes i n j
  unfolding price with_first_fixed
  price_fixed q sum j h = ap (λ (x : ℕ). held (nodes i * held (2 ^ suc j) + x)) (sum j h)

  fixed_cost : (r : ℕ) → ((q : ℕ) → r ≡ suc q → BelowFixed q) → best_cost below (nodes i) (suc n) r ≡ fix_by held nodes r i (suc n)
  unfolding best_cost fix_by
  fixed_cost zero s = refl
  fixed_cost (suc m) s = ap (λ (x : ℕ × ℕ). x.1) (scan_same (price below (nodes i)) (with_first_fixed held (fix_by held nodes m) nodes i n) n (price_fixed m (s m refl)))

  fixed_stride_lem : (r : ℕ) → ((q : ℕ) → r ≡ suc q → BelowFixed q) → best_stride below (nodes i) (suc n) r ≡ pick_fixed_by held nodes r i (suc n)
  unfolding best_stride pick_fixed_by
  fixed_stride_lem zero s = refl
  fixed_stride_lem (suc m) s = ap (λ (x : ℕ × ℕ). suc x.0) (scan_same (price below (nodes i)) (with_first_fixed held (fix_by held nodes m) nodes i n) n (price_fixed m (s m refl)))

fix_none : (nodes : ℕ → ℕ) (r j : ℕ) → fix_by held nodes r j 0 ≡ 0
unfolding fix_by
fix_none nodes zero j = refl
fix_none nodes (suc r) j = refl

pick_none : (nodes : ℕ → ℕ) (r j : ℕ) → pick_fixed_by held nodes r j 0 ≡ 0
unfolding pick_fixed_by
pick_none nodes zero j = refl
pick_none nodes (suc r) j = refl

pub filled_start : (nodes : ℕ → ℕ) (levels depth : ℕ) (costs strides : List ℕ) → length costs ≡ level_cells → length strides ≡ level_cells
    → ((x : ℕ) → get_or costs x 0 ≡ 0) → ((x : ℕ) → get_or strides x 0 ≡ 0) → Filled nodes levels depth depth costs strides
filled_start nodes levels depth costs strides lc ls zc zs = record {
  long_costs = lc;
  long_strides = ls;
  cost = λ j r h g l. let e : depth - j ≡ 0 = omega arith in rw e (zc (j * LEVELS + r) ∙ sym (fix_none nodes r j));
  stride = λ j r h g l. let e : depth - j ≡ 0 = omega arith in rw e (zs (j * LEVELS + r) ∙ sym (pick_none nodes r j));
}

pub filled_next : (nodes : ℕ → ℕ) (levels depth i : ℕ) (costs strides costs' strides' : List ℕ) → levels ≤ LEVELS → i < depth
    → Filled nodes levels depth (i + 1) costs strides → RowFilled levels (nodes i) (depth - i) i costs strides costs' strides'
    → Filled nodes levels depth i costs' strides'
filled_next nodes levels depth i costs strides costs' strides' few h f a = record {
  long_costs = a.long_costs ∙ f.long_costs;
  long_strides = a.long_strides ∙ f.long_strides;
  cost = λ j r p q l. ⊎_elim
      (λ (z : j ≡ i). subst (λ (y : ℕ). cell costs' y r ≡ fix_by held nodes r y (depth - y)) (sym z) (own_cost r l))
      (λ (z : j ≡ i → ⊥). a.costs_below (j * LEVELS + r) (omega arith) ∙ f.cost j r (omega arith) q l) (same? j i);
  stride = λ j r p q l. ⊎_elim
      (λ (z : j ≡ i). subst (λ (y : ℕ). cell strides' y r ≡ pick_fixed_by held nodes r y (depth - y)) (sym z) (own_stride r l))
      (λ (z : j ≡ i → ⊥). a.strides_below (j * LEVELS + r) (omega arith) ∙ f.stride j r (omega arith) q l) (same? j i);
}
  where
    below_is : (r q : ℕ) → r ≡ suc q → r < levels → (j : ℕ) → j ≤ depth - i - 1
        → column ((i + 1) * LEVELS + r - 1) LEVELS costs j ≡ fix_by held nodes q (i + suc j) (depth - i - 1 - j)
    below_is r q z l j p =
        let e : j * LEVELS + ((i + 1) * LEVELS + r - 1) ≡ (i + suc j) * LEVELS + q = omega arith in
        let g : depth - (i + suc j) ≡ depth - i - 1 - j = omega arith in
        ap (λ (x : ℕ). get_or costs x 0) e ∙ f.cost (i + suc j) q (omega arith) (omega arith) (omega arith) ∙ ap (λ (x : ℕ). fix_by held nodes q (i + suc j) x) g

    own_cost : (r : ℕ) → r < levels → cell costs' i r ≡ fix_by held nodes r i (depth - i)
    own_cost r l =
        let e : depth - i ≡ suc (depth - i - 1) = omega arith in
        rw e (rw e at (a.cost r l) ∙ fixed_cost nodes i (depth - i - 1) _ r (λ q z. below_is r q z l))

    own_stride : (r : ℕ) → r < levels → cell strides' i r ≡ pick_fixed_by held nodes r i (depth - i)
    own_stride r l =
        let e : depth - i ≡ suc (depth - i - 1) = omega arith in
        rw e (rw e at (a.stride r l) ∙ fixed_stride_lem nodes i (depth - i - 1) _ r (λ q z. below_is r q z l))

-- ---- the list of strides

pub pick_within : (nodes : ℕ → ℕ) (m i n : ℕ) → pick_fixed_by held nodes m i n ≤ n
unfolding pick_fixed_by
pick_within nodes zero i n = le_refl n
pick_within nodes (suc m) i zero = le_refl 0
pick_within nodes (suc m) i (suc n) = omega (arith, (scanned (with_first_fixed held (fix_by held nodes m) nodes i n) n).within)

pub list_head : (nodes : ℕ → ℕ) (m i n : ℕ) → get_or (list_by held nodes m i n) 0 0 ≡ pick_fixed_by held nodes m i n
unfolding list_by pick_fixed_by
list_head nodes zero i zero = refl
list_head nodes zero i (suc n) = refl
list_head nodes (suc m) i zero = refl
list_head nodes (suc m) i (suc n) = refl

list_tail : (nodes : ℕ → ℕ) (m i n x : ℕ)
    → get_or (list_by held nodes (suc m) i n) (suc x) 0 ≡ get_or (list_by held nodes m (i + pick_fixed_by held nodes (suc m) i n) (n - pick_fixed_by held nodes (suc m) i n)) x 0
unfolding list_by
list_tail nodes m i zero x =
    let e = pick_none nodes (suc m) i in
    let none_left : get_or (list_by held nodes m i 0) x 0 ≡ 0 = empty m in
    rw (e, add-zero, sub-zero) (sym none_left)
  where
    empty : (m : ℕ) → get_or (list_by held nodes m i 0) x 0 ≡ 0
    empty zero = refl
    empty (suc m) = refl
list_tail nodes m i (suc n) x = refl

list_end : (nodes : ℕ → ℕ) (i n x : ℕ) → get_or (list_by held nodes 0 i n) (suc x) 0 ≡ 0
unfolding list_by
list_end nodes i zero x = refl
list_end nodes i (suc n) x = refl

pub reading_start : (nodes : ℕ → ℕ) (levels depth : ℕ) → 1 ≤ levels → ListRead nodes levels depth 0 0 (replicate LEVELS 0)
reading_start nodes levels depth h = record {
  done = λ x l. absurd (omega arith);
  blank = λ x l. zeros_read LEVELS x;
  rest = λ l x. let e : levels - 1 - 0 ≡ levels - 1 = omega arith in rw (zero-add, e, sub-zero);
  end = λ e x. absurd (omega arith);
}

pub reading_next : (nodes : ℕ → ℕ) (levels depth i p s : ℕ) (list : List ℕ) → p < levels → levels ≤ length list → ListRead nodes levels depth i p list
    → s ≡ pick_fixed_by held nodes (levels - 1 - p) i (depth - i) → ListRead nodes levels depth (i + s) (p + 1) (set list p s)
reading_next nodes levels depth i p s list h len g e =
    let L = list_by held nodes (levels - 1) 0 depth in
    let here : get_or L p 0 ≡ s = ap (λ (y : ℕ). get_or L y 0) (sym (add-zero p)) ∙ g.rest h 0 ∙ list_head nodes (levels - 1 - p) i (depth - i) ∙ sym e in
    let after : (x : ℕ) → p + 1 + x ≡ p + suc x = λ x. omega arith in
    record {
      done = λ x l. ⊎_elim
          (λ (z : x ≡ p). subst (λ (y : ℕ). get_or (set list p s) y 0 ≡ get_or L y 0) (sym z) (get_or-set_same list p s 0 (omega arith) ∙ sym here))
          (λ (z : x ≡ p → ⊥). get_or-set_other list p x s 0 z ∙ g.done x (omega arith)) (same? x p);
      blank = λ x l. get_or-set_other list p x s 0 (λ z. omega arith) ∙ g.blank x (omega arith);
      rest = λ l x.
          let m : levels - 1 - p ≡ suc (levels - 1 - (p + 1)) = omega arith in
          let d : depth - (i + s) ≡ depth - i - s = omega arith in
          ap (λ (y : ℕ). get_or L y 0) (after x) ∙ g.rest h (suc x)
          ∙ rw (d, e, m) (list_tail nodes (levels - 1 - (p + 1)) i (depth - i) x);
      end = λ q x.
          let m : levels - 1 - p ≡ 0 = omega arith in
          ap (λ (y : ℕ). get_or L y 0) (after x) ∙ g.rest h (suc x) ∙ rw m (list_end nodes i (depth - i) x);
    }

pub reading_done : (nodes : ℕ → ℕ) (levels depth i : ℕ) (list : List ℕ) → levels ≤ LEVELS → length list ≡ LEVELS → ListRead nodes levels depth i levels list
    → list ≡ padded LEVELS (list_by held nodes (levels - 1) 0 depth)
reading_done nodes levels depth i list few len g = padded_is LEVELS list (list_by held nodes (levels - 1) 0 depth) len (λ x h. at x (dec_le levels x))
  where
    at : (x : ℕ) → Dec (levels ≤ x) → get_or list x 0 ≡ get_or (list_by held nodes (levels - 1) 0 depth) x 0
    at x (no q) = g.done x (omega arith)
    at x (yes q) =
        let e : levels + (x - levels) ≡ x = omega arith in
        g.blank x q ∙ sym (g.end refl (x - levels)) ∙ ap (λ (y : ℕ). get_or (list_by held nodes (levels - 1) 0 depth) y 0) e

-- ---- the whole fixed choice

past_end : (l : List ℕ) (j : ℕ) → length l ≤ j → get_or l j 0 ≡ 0
past_end [] j h = refl
past_end (x ∷ xs) zero h = absurd (omega arith)
past_end (x ∷ xs) (suc j) h = past_end xs j (omega arith)

module _ (counts : List ℕ) (deep levels : ℕ) (t : Trie) (g : FixedIn counts deep levels t) where
  -- the counts are those of the trie, at every level
  counts_are : (j : ℕ) → get_or counts j 0 ≡ nodes_at j t
  counts_are j = go (dec_le WIDTH j)
    where
      go : Dec (WIDTH ≤ j) → get_or counts j 0 ≡ nodes_at j t
      go (yes q) = past_end counts j (omega (arith, g.counted.long)) ∙ sym (nodes_deep t j (omega (arith, g.short)))
      go (no q) = g.counted.nodes j (omega arith)

  pub counts_small : (j : ℕ) → get_or counts j 0 ≤ ENTRIES
  counts_small j = omega (arith, counts_are j, g.few j)

  pub fixed_out : (cost : ℕ) (costs strides list : List ℕ) → Filled (at counts) levels deep 0 costs strides → cost ≡ get_or costs (levels - 1) 0
      → ((nodes : ℕ → ℕ) → StridesFilled nodes levels deep strides → list ≡ padded LEVELS (list_by held nodes (levels - 1) 0 deep))
      → (cost ≡ least_by held fixed levels t) × (list ≡ padded LEVELS (strides_by held fixed levels t))
  unfolding least_by strides_by fixed_strides
  fixed_out cost costs strides list f c l = go levels g.within f c l
    where
      nodes : at counts ≡ (λ (j : ℕ). nodes_at j t)
      nodes = fun_ext counts_are

      go : (k : ℕ) → Within k LEVELS → Filled (at counts) k deep 0 costs strides → cost ≡ get_or costs (k - 1) 0
          → ((nodes : ℕ → ℕ) → StridesFilled nodes k deep strides → list ≡ padded LEVELS (list_by held nodes (k - 1) 0 deep))
          → (cost ≡ least_by held fixed k t) × (list ≡ padded LEVELS (strides_by held fixed k t))
      go zero w f c l = absurd (omega arith)
      go (suc m) w f c l =
          let m1 : suc m - 1 ≡ m = omega arith in
          let zero_row : cell costs 0 m ≡ get_or costs (suc m - 1) 0 = ap (λ (x : ℕ). get_or costs x 0) (omega arith) in (
            c ∙ sym zero_row ∙ f.cost 0 m (omega arith) (omega arith) (omega arith)
                ∙ ap₂ (λ (ν : ℕ → ℕ) (x : ℕ). fix_by held ν m 0 x) nodes (sub-zero deep ∙ g.depths),
            l (at counts) (λ j r p q. f.stride j r (omega arith) p q)
                ∙ rw m1 (ap₂ (λ (ν : ℕ → ℕ) (x : ℕ). padded LEVELS (list_by held ν m 0 x)) nodes g.depths),
          )
