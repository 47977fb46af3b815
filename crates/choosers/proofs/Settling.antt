-- A whole tree settled from the bottom up, left, right, then the node itself: rows of other subtrees are kept. And what that adds to
-- the sums, pass by pass.
use mathlib.Core.Path.{◌≡◌, refl, ap, sym, subst, ◌∙◌}
use mathlib.Core.List.{List}
use mathlib.Core.Logic.{inl, inr}
use Prim.Native.Nat.{ℕ, suc, max, ◌+◌, ◌-◌, ◌*◌, ◌≤◌, ◌<◌}
use native.Mathlib.Decide.{dec_le}
use native.Mathlib.Omega.{arith}
use lib.ListN.{length, get_or}
use borrow.Author.Tests.{ne_eqb}
use Rattle.strides.specs.Trie.{node, depth, sum_below}
use Rattle.strides.specs.Recurrence.{opt_by, pick_by}
use Rattle.walk.specs.Limits.{WIDTH, LEVELS}
use Rattle.choosers.specs.Scratch.{ROW, ask, COST, DEPTH, STRIDE, before_costs}
use Rattle.choosers.specs.Trees.{Tree, nil, fork, shape, col, HasRow}
use Rattle.choosers.specs.Costs.{Priced, AllPriced, column, COLUMNS, Pass, Stored, HandedUp, SettleIn}
use Rattle.choosers.specs.Costs.{held, TreeIn, TreeOut, TreeAsk, TreeDone, SumsIn, SumsOut, SumsDone, Sums}
use Rattle.choosers.proofs.Frames.{keep_stand, keep_deep}
use Rattle.choosers.proofs.Pricing.{best_cost_lem, best_stride_lem}
use Rattle.choosers.proofs.Gathering.{sums_below, sums_after, sums_room, sums_none, both_sums, sums_node}

pub ask_col : (rows : List ℕ) (x c : ℕ) → ask rows (x + 1) c ≡ col rows x c
unfolding ask
ask_col rows x c = let e : x + 1 - 1 ≡ x = omega arith in rw (ne_eqb (x + 1) 0 (λ z. omega arith), e)

-- ---- what is kept

keep_priced : (levels : ℕ) (rows rows' : List ℕ) (t : Tree) → levels ≤ LEVELS → ((y : ℕ) → HasRow y t → (c : ℕ) → c < ROW → col rows' y c ≡ col rows y c)
    → AllPriced levels rows t → AllPriced levels rows' t
keep_priced levels rows rows' nil few same p = tt
keep_priced levels rows rows' (fork x m l n r) few same p = (
  record {
    cost = λ j h. same x (inl refl) (COST + j) (omega arith) ∙ p.0.cost j h;
    stride = λ j h. same x (inl refl) (STRIDE + j) (omega arith) ∙ p.0.stride j h;
  },
  keep_priced levels rows rows' l few (λ y h. same y (inr (inl h))) p.1,
  keep_priced levels rows rows' r few (λ y h. same y (inr (inr h))) p.2,
)

-- for no number of levels there is nothing to know
pub priced_none : (rows : List ℕ) (t : Tree) → AllPriced 0 rows t
priced_none rows nil = tt
priced_none rows (fork x p l q r) = (record { cost = λ j h. absurd (omega arith); stride = λ j h. absurd (omega arith) }, priced_none rows l, priced_none rows r)

-- ---- a node and what stands below it

module _ (from to : ℕ) (pass : Pass from to) (rows : List ℕ) (k d x p : ℕ) (l : Tree) (q : ℕ) (r : Tree) (g : TreeIn from rows k d (fork x p l q r)) where
  node_fits : k * ROW ≤ length rows
  node_fits = omega (arith, g.link, g.fits x (inl refl))

  at_node : (rows1 : List ℕ) (c : ℕ) → ask rows1 k c ≡ col rows1 x c
  at_node rows1 c = ap (λ (y : ℕ). ask rows1 y c) g.link ∙ ask_col rows1 x c

  left_tree : TreeIn from rows (ask rows k 0) (d + 1) l
  unfolding shape depth
  left_tree = record {
    link = at_node rows 0 ∙ g.stand.0.link0;
    stand = g.stand.1;
    depths = g.depths.1;
    priced = g.priced.1;
    apart = g.apart.3;
    fits = λ y h. g.fits y (inr (inl h));
    deep = omega (arith, g.deep);
  }

  module _ (rows1 : List ℕ) (len1 : length rows1 ≡ length rows) (o1 : TreeOut to rows rows1 l) where
    -- the node's row and the right tree are as they were
    right_kept : (y : ℕ) → HasRow y r → (c : ℕ) → c < ROW → col rows1 y c ≡ col rows y c
    right_kept y h c hc = o1.others y (λ z. g.apart.2 y z h) c hc

    right_tree : TreeIn from rows1 (ask rows1 k 1) (d + 1) r
    unfolding shape depth
    right_tree = record {
      link = at_node rows1 1 ∙ o1.others x g.apart.0 1 (omega arith) ∙ g.stand.0.link1;
      stand = keep_stand rows rows1 r (λ y h c hc. right_kept y h c (omega arith)) g.stand.2;
      depths = keep_deep rows rows1 r (λ y h. right_kept y h DEPTH (omega arith)) g.depths.2;
      priced = keep_priced from rows rows1 r (omega (arith, pass.some, pass.most)) right_kept g.priced.2;
      apart = g.apart.4;
      fits = λ y h. omega (arith, g.fits y (inr (inr h)));
      deep = omega (arith, g.deep);
    }

    module _ (rows2 : List ℕ) (len2 : length rows2 ≡ length rows1) (o2 : TreeOut to rows1 rows2 r) where
      left_kept : (y : ℕ) → HasRow y l → (c : ℕ) → c < ROW → col rows2 y c ≡ col rows1 y c
      left_kept y h c hc = o2.others y (λ z. g.apart.2 y h z) c hc

      own_kept : (c : ℕ) → c < ROW → col rows2 x c ≡ col rows x c
      own_kept c hc = o2.others x g.apart.1 c hc ∙ o1.others x g.apart.0 c hc

      own_depth : ask rows2 k DEPTH ≡ suc (max (depth (shape l)) (depth (shape r)))
      unfolding depth
      own_depth = at_node rows2 DEPTH ∙ own_kept DEPTH (omega arith) ∙ g.depths.0

      module _ (rows3 : List ℕ) (below : ℕ) (sums : List ℕ) (st : Stored from to rows2 x (suc (max (depth (shape l)) (depth (shape r)))) (below * COLUMNS) sums rows3)
          (sum : Sums from to below sums (shape l) (shape r)) where
        last_kept : (y : ℕ) → (y ≡ x → ⊥) → (c : ℕ) → c < ROW → col rows3 y c ≡ col rows2 y c
        last_kept y ne c hc = go (dec_le y x)
          where
            go : Dec (y ≤ x) → col rows3 y c ≡ col rows2 y c
            go (yes h) = st.before (y * ROW + c) (omega arith)
            go (no h) = st.after (y * ROW + c) (omega (arith, pass.most))

        left_last : (y : ℕ) → HasRow y l → (c : ℕ) → c < ROW → col rows3 y c ≡ col rows1 y c
        left_last y h c hc = last_kept y (λ e. g.apart.0 (subst (λ (z : ℕ). HasRow z l) e h)) c hc ∙ left_kept y h c hc

        right_last : (y : ℕ) → HasRow y r → (c : ℕ) → c < ROW → col rows3 y c ≡ col rows2 y c
        right_last y h c hc = last_kept y (λ e. g.apart.1 (subst (λ (z : ℕ). HasRow z r) e h)) c hc

        own_low : (c : ℕ) → c < COST + from → c < ROW → col rows3 x c ≡ col rows x c
        own_low c h hc = st.before (x * ROW + c) (omega arith) ∙ own_kept c hc

        -- what the sums say of the levels below, where the node has i + 1 levels left
        below_is : (i m : ℕ) → i ≡ suc m → from ≤ i → i < to → (j : ℕ) → j ≤ max (depth (shape l)) (depth (shape r))
            → column (below * COLUMNS + (i - from)) COLUMNS sums j ≡ held (sum_below j (opt_by held m) (shape l) + sum_below j (opt_by held m) (shape r))
        below_is i m e lo hi j h =
            let f : j * COLUMNS + (below * COLUMNS + (i - from)) ≡ (below + j) * COLUMNS + (suc m - from) = omega arith in
            ap (λ (y : ℕ). get_or sums y 0) f ∙ sum j m (omega arith) (omega arith)

        own_priced : Priced to rows3 x (node p (shape l) q (shape r))
        own_priced = record {
          cost = λ i h. cost i h (dec_le from i);
          stride = λ i h. stride i h (dec_le from i);
        }
          where
            cost : (i : ℕ) → i < to → Dec (from ≤ i) → col rows3 x (COST + i) ≡ opt_by held i (node p (shape l) q (shape r))
            cost i h (no e) = own_low (COST + i) (omega arith) (omega (arith, pass.most)) ∙ g.priced.0.cost i (omega arith)
            cost i h (yes e) = st.cost i e h ∙ best_cost_lem (shape l) (shape r) _ p q i (λ m z. below_is i m z e h)

            stride : (i : ℕ) → i < to → Dec (from ≤ i) → col rows3 x (STRIDE + i) ≡ pick_by held i (node p (shape l) q (shape r))
            stride i h (no e) =
                st.between (x * ROW + (STRIDE + i)) (omega (arith, pass.most)) (omega arith) ∙ own_kept (STRIDE + i) (omega (arith, pass.most)) ∙ g.priced.0.stride i (omega arith)
            stride i h (yes e) = st.stride i e h ∙ best_stride_lem (shape l) (shape r) _ p q i (λ m z. below_is i m z e h)

        own_above : (i : ℕ) → to ≤ i → i < LEVELS → (col rows3 x (COST + i) ≡ col rows x (COST + i)) × (col rows3 x (STRIDE + i) ≡ col rows x (STRIDE + i))
        own_above i lo hi = (
          st.between (x * ROW + (COST + i)) (omega arith) (omega arith) ∙ own_kept (COST + i) (omega arith),
          st.after (x * ROW + (STRIDE + i)) (omega arith) ∙ own_kept (STRIDE + i) (omega arith),
        )

        tree_settled : TreeOut to rows rows3 (fork x p l q r)
        unfolding shape
        tree_settled = record {
          stand = (
            record {
              link0 = own_low 0 (omega arith) (omega arith) ∙ g.stand.0.link0;
              link1 = own_low 1 (omega arith) (omega arith) ∙ g.stand.0.link1;
              mark0 = own_low 2 (omega arith) (omega arith) ∙ g.stand.0.mark0;
              mark1 = own_low 3 (omega arith) (omega arith) ∙ g.stand.0.mark1;
            },
            keep_stand rows1 rows3 l (λ y h c hc. left_last y h c (omega arith)) o1.stand,
            keep_stand rows2 rows3 r (λ y h c hc. right_last y h c (omega arith)) o2.stand,
          );
          depths = (
            own_low DEPTH (omega arith) (omega arith) ∙ g.depths.0,
            keep_deep rows1 rows3 l (λ y h. left_last y h DEPTH (omega arith)) o1.depths,
            keep_deep rows2 rows3 r (λ y h. right_last y h DEPTH (omega arith)) o2.depths,
          );
          priced = (own_priced, keep_priced to rows1 rows3 l pass.most left_last o1.priced, keep_priced to rows2 rows3 r pass.most right_last o2.priced);
          above = λ y i h lo hi. above_at y i h lo hi;
          others = λ y gone c hc. last_kept y (λ e. gone (inl e)) c hc ∙ o2.others y (λ h. gone (inr (inr h))) c hc ∙ o1.others y (λ h. gone (inr (inl h))) c hc;
        }
          where
            above_at : (y i : ℕ) → HasRow y (fork x p l q r) → to ≤ i → i < LEVELS
                → (col rows3 y (COST + i) ≡ col rows y (COST + i)) × (col rows3 y (STRIDE + i) ≡ col rows y (STRIDE + i))
            above_at y i (inl e) lo hi =
                subst (λ (z : ℕ). (col rows3 z (COST + i) ≡ col rows z (COST + i)) × (col rows3 z (STRIDE + i) ≡ col rows z (STRIDE + i))) (sym e) (own_above i lo hi)
            above_at y i (inr (inl h)) lo hi =
                let v = o1.above y i h lo hi in
                (left_last y h (COST + i) (omega arith) ∙ v.0, left_last y h (STRIDE + i) (omega arith) ∙ v.1)
            above_at y i (inr (inr h)) lo hi =
                let v = o2.above y i h lo hi in (
                  right_last y h (COST + i) (omega arith) ∙ v.0 ∙ right_kept y h (COST + i) (omega arith),
                  right_last y h (STRIDE + i) (omega arith) ∙ v.1 ∙ right_kept y h (STRIDE + i) (omega arith),
                )

-- ---- for whichever tree stands there

module _ {from to : ℕ} (pass : Pass from to) {rows : List ℕ} {k d : ℕ} where
  pub some_fits : TreeAsk from rows k d → (k ≡ 0 → ⊥) → (k * ROW ≤ length rows) × (0 < k) × (d < WIDTH)
  unfolding shape depth
  some_fits (nil, g) ne = absurd (ne g.link)
  some_fits (fork x p l q r, g) ne = (node_fits from to pass rows k d x p l q r g, omega (arith, g.link), omega (arith, g.deep))

  pub some_left : TreeAsk from rows k d → (k ≡ 0 → ⊥) → TreeAsk from rows (ask rows k 0) (d + 1)
  some_left (nil, g) ne = absurd (ne g.link)
  some_left (fork x p l q r, g) ne = (l, left_tree from to pass rows k d x p l q r g)

  pub none_settled : k ≡ 0 → TreeDone from to rows k d rows
  none_settled z nil g = record { stand = tt; depths = tt; priced = tt; above = λ y i h lo hi. absurd h; others = λ y h c hc. refl }
  none_settled z (fork x p l q r) g = absurd (omega (arith, g.link))

  module _ {j : ℕ} {sums : List ℕ} (lent : SumsIn j (WIDTH - d) sums) where
    pub none_summed : k ≡ 0 → SumsDone from to rows k d j sums sums
    unfolding shape
    none_summed z nil g = sums_none lent
    none_summed z (fork x p l q r) g = absurd (omega (arith, g.link))

    module _ (ne : k ≡ 0 → ⊥) where
      pub left_sums : TreeAsk from rows k d → SumsIn (j + (WIDTH - d)) (WIDTH - (d + 1)) sums
      left_sums a =
          let f = some_fits a ne in
          let e : WIDTH - (d + 1) ≡ WIDTH - d - 1 = omega arith in
          rw e (sums_below lent (omega arith))

      module _ {rows1 sums1 : List ℕ} (len1 : length rows1 ≡ length rows) (long1 : length sums1 ≡ length sums)
          (d1 : TreeDone from to rows (ask rows k 0) (d + 1) rows1) (s1 : SumsDone from to rows (ask rows k 0) (d + 1) (j + (WIDTH - d)) sums sums1) where
        pub some_right : TreeAsk from rows k d → TreeAsk from rows1 (ask rows1 k 1) (d + 1)
        some_right (nil, g) = absurd (ne g.link)
        some_right (fork x p l q r, g) = (r, right_tree from to pass rows k d x p l q r g rows1 len1 (d1 l (left_tree from to pass rows k d x p l q r g)))

        pub right_sums : TreeAsk from rows k d → SumsIn (j + (WIDTH - d)) (WIDTH - (d + 1)) sums1
        right_sums (nil, g) = absurd (ne g.link)
        right_sums (fork x p l q r, g) =
            let t = left_tree from to pass rows k d x p l q r g in
            sums_after (left_sums (fork x p l q r, g)) (omega (arith, t.deep)) long1 (s1 l t)

        module _ {rows2 sums2 : List ℕ} (len2 : length rows2 ≡ length rows1) (long2 : length sums2 ≡ length sums1)
            (d2 : TreeDone from to rows1 (ask rows1 k 1) (d + 1) rows2) (s2 : SumsDone from to rows1 (ask rows1 k 1) (d + 1) (j + (WIDTH - d)) sums1 sums2) where
          module _ (x p : ℕ) (l : Tree) (q : ℕ) (r : Tree) (g : TreeIn from rows k d (fork x p l q r)) where
            first : TreeIn from rows (ask rows k 0) (d + 1) l
            first = left_tree from to pass rows k d x p l q r g

            second : TreeIn from rows1 (ask rows1 k 1) (d + 1) r
            second = right_tree from to pass rows k d x p l q r g rows1 len1 (d1 l first)

            deep_is : ask rows2 k DEPTH ≡ suc (max (depth (shape l)) (depth (shape r)))
            deep_is = own_depth from to pass rows k d x p l q r g rows1 len1 (d1 l first) rows2 len2 (d2 r second)

            reaches : suc (max (depth (shape l)) (depth (shape r))) ≤ WIDTH - d
            unfolding shape depth
            reaches = omega (arith, g.deep)

            settle_at : SettleIn from to rows2 k j (j + (WIDTH - d)) sums2
            settle_at = record {
              pass = pass;
              some = omega (arith, g.link);
              fits = omega (arith, node_fits from to pass rows k d x p l q r g);
              deep = (omega (arith, deep_is), omega (arith, deep_is, reaches));
              reach = omega (arith, deep_is, reaches);
              room = omega (arith, deep_is, reaches, sums_room lent);
            }

            module _ (rows3 sums3 : List ℕ) (st : Stored from to rows2 (k - 1) (ask rows2 k DEPTH) ((j + (WIDTH - d)) * COLUMNS) sums2 rows3)
                (h : HandedUp from to rows3 k j (j + (WIDTH - d)) (ask rows2 k DEPTH - 1) sums2 sums3) where
              stored_at : Stored from to rows2 x (suc (max (depth (shape l)) (depth (shape r)))) ((j + (WIDTH - d)) * COLUMNS) sums2 rows3
              stored_at = let e : k - 1 ≡ x = omega (arith, g.link) in rw (e, deep_is) at st

              tree_at_lem : TreeOut to rows rows3 (fork x p l q r)
              tree_at_lem =
                  tree_settled from to pass rows k d x p l q r g rows1 len1 (d1 l first) rows2 len2 (d2 r second) rows3 (j + (WIDTH - d)) sums2 stored_at
                  (both_sums lent pass reaches (s1 l first) (s2 r second))

              sums_at : SumsOut from to j (shape (fork x p l q r)) sums sums3
              unfolding shape
              sums_at =
                  let m : ask rows2 k DEPTH - 1 ≡ max (depth (shape l)) (depth (shape r)) = omega (arith, deep_is) in
                  sums_node lent pass reaches (s1 l first) (s2 r second)
                  (λ i hi. let e : before_costs + suc i ≡ COST + i = omega arith in
                  ap (ask rows3 k) e ∙ at_node from to pass rows k d x p l q r g rows3 (COST + i) ∙ tree_at_lem.priced.0.cost i (omega arith))
                  (rw m at h)

          pub settle_row_in : TreeAsk from rows k d → SettleIn from to rows2 k j (j + (WIDTH - d)) sums2
          settle_row_in (nil, g) = absurd (ne g.link)
          settle_row_in (fork x p l q r, g) = settle_at x p l q r g

          module _ {rows3 sums3 : List ℕ} (st : Stored from to rows2 (k - 1) (ask rows2 k DEPTH) ((j + (WIDTH - d)) * COLUMNS) sums2 rows3)
              (h : HandedUp from to rows3 k j (j + (WIDTH - d)) (ask rows2 k DEPTH - 1) sums2 sums3) where
            pub tree_done : TreeDone from to rows k d rows3
            tree_done nil g = absurd (ne g.link)
            tree_done (fork x p l q r) g = tree_at_lem x p l q r g rows3 sums3 st h

            pub sums_done : SumsDone from to rows k d j sums sums3
            sums_done nil g = absurd (ne g.link)
            sums_done (fork x p l q r) g = sums_at x p l q r g rows3 sums3 st h

-- ---- pass after pass

module _ (rows : List ℕ) (k : ℕ) where
  module _ (from : ℕ) (rows1 : List ℕ) (len : length rows1 ≡ length rows) (done : TreeDone 0 from rows k 0 rows1) where
    then : (t : Tree) → TreeIn 0 rows k 0 t → TreeIn from rows1 k 0 t
    then t g =
        let o = done t g in
        record {
          link = g.link;
          stand = o.stand;
          depths = o.depths;
          priced = o.priced;
          apart = g.apart;
          fits = λ y h. omega (arith, g.fits y h);
          deep = g.deep;
        }

    pub pass_in : TreeAsk 0 rows k 0 → TreeAsk from rows1 k 0
    pass_in (t, g) = (t, then t g)

    pub passes_next : (to : ℕ) (rows2 : List ℕ) → from ≤ to → TreeDone from to rows1 k 0 rows2 → TreeDone 0 to rows k 0 rows2
    passes_next to rows2 h next t g =
        let o = done t g in
        let n = next t (then t g) in
        record {
          stand = n.stand;
          depths = n.depths;
          priced = n.priced;
          above = λ y i r lo hi. let v = n.above y i r lo hi in let u = o.above y i r (omega arith) hi in (v.0 ∙ u.0, v.1 ∙ u.1);
          others = λ y r c hc. n.others y r c hc ∙ o.others y r c hc;
        }
