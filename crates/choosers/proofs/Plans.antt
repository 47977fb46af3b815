-- The plan of each kind: from the rows of a table, what the fixed and the variable choice ask, and what they leave.
use mathlib.Core.Path.{◌≡◌, refl, ap, sym, subst, ◌∙◌}
use mathlib.Core.List.{List}
use mathlib.Core.Logic.{inl}
use Prim.Native.Nat.{ℕ, ◌+◌, ◌-◌, ◌*◌, ◌%◌, ◌^◌, ◌≤◌, ◌<◌}
use native.Mathlib.Omega.{arith}
use lib.Pow.{pow_mono}
use lib.ListN.{length, get_or, replicate, take, set, length-replicate, length-take}
use lib.Seq.{get_or-take}
use Rattle.table.specs.Table.{at}
use Rattle.strides.specs.Trie.{Trie, depth, size}
use Rattle.strides.specs.Entries.{longest_length}
use Rattle.strides.specs.Cheapest.{Kind, fixed, variable}
use Rattle.strides.specs.Recurrence.{plain, opt_by, pick_by, least_by, strides_by, fixed_strides}
use Rattle.strides.specs.Strides.{variable_stride, fixed_stride, chosen_by}
use Rattle.strides.proofs.Insertion.{trie_depth, trie_depth_width, nodes_entries}
use Rattle.strides.proofs.Marks.{AllMarks, trie_marks}
use Rattle.strides.proofs.Capped.{least_capped, strides_capped, follows_capped, cap_never_bites}
use Rattle.walk.specs.Limits.{WIDTH, LEVELS}
use Rattle.choosers.specs.Limits.{cost_cap, BYTE}
use Rattle.choosers.specs.Scratch.{ROW, ask, Stands, before_costs, before_strides, COST, STRIDE}
use Rattle.layout.specs.Marks.{entry_marks}
use Rattle.layout.specs.Laid.{table_trie}
use Rattle.choosers.specs.Trees.{Tree, nil, fork, shape, link_of, HasRow, tree_of}
use Rattle.choosers.specs.Making.{Prefixes, MakeIn, MakeOut}
use Rattle.choosers.specs.Costs.{held, TreeIn, TreeAsk, TreeDone}
use Rattle.choosers.specs.LevelCounts.{CountsOf}
use Rattle.choosers.specs.FixedChoice.{FixedIn, FixedOut}
use Rattle.table.proofs.Zeroes.{zeros_read}
use Rattle.table.specs.Lists.{padded}
use Rattle.table.proofs.Lists.{padded_read, padded_length}
use Rattle.choosers.proofs.Making.{tree_shape}
use Rattle.choosers.proofs.Settling.{priced_none}
use Rattle.choosers.specs.Plans.{PlanIn, Planned}
use Rattle.choosers.proofs.ChooseTests.{table_prefixes}
use Rattle.choosers.proofs.PlanRows.{Small, tree_stands, strides_own, root_cost, root_pick, least_variable, root_stride, fixed_strides_lem}

-- ---- the plan of each kind

module _ (W k : ℕ) (vs ls hs scratch : List ℕ) (g : PlanIn W k vs ls hs scratch) where
  abbrev trie : Trie
  trie = table_trie W vs ls hs

  abbrev tree : Tree
  tree = tree_of W (at vs) (at ls) (entry_marks ls hs) (length vs)

  plan_prefixes : Prefixes W vs ls
  plan_prefixes = table_prefixes W vs ls hs g.table

  tree_trie : shape tree ≡ trie
  tree_trie = tree_shape W (at vs) (at ls) (entry_marks ls hs) (length vs) plan_prefixes.prefix

  plan_depth_width : depth trie ≤ W
  plan_depth_width = trie_depth_width W (at vs) (at ls) (entry_marks ls hs) (length vs) plan_prefixes.prefix

  plan_depth : depth trie ≤ WIDTH
  plan_depth = omega (arith, plan_depth_width, g.table.width)

  two_to_depth : 2 ^ depth trie ≤ 2 ^ WIDTH
  two_to_depth = pow_mono plan_depth

  pub below_cap : (kind : Kind) → least_by plain kind k trie < cost_cap
  below_cap kind = cap_never_bites cost_cap kind k trie (omega (arith, two_to_depth))

  pub make_in : MakeIn W vs ls hs (replicate (length scratch) 0) (replicate WIDTH 0)
  make_in = record {
    prefixes = plan_prefixes;
    hops = g.table.hops;
    zeros = zeros_read (length scratch);
    counts_long = refl;
    no_counts = zeros_read WIDTH;
    room = omega (arith, g.room, length-replicate {A = ℕ} (length scratch) 0);
  }

  module _ (root : ℕ) (rows counts : List ℕ) (m : MakeOut W vs ls hs root rows counts) (len : length rows ≡ length scratch) where
    small_marks : AllMarks Small (shape tree)
    small_marks = rw tree_trie (trie_marks Small (omega arith) W (at vs) (at ls) (entry_marks ls hs) (length vs) m.small)

    rows_fit : (y : ℕ) → HasRow y tree → (y + 1) * ROW ≤ length rows
    rows_fit y h = omega (arith, m.laid.under y h, ap size tree_trie, g.room)

    tree_in : TreeIn 0 rows root 0 tree
    tree_in = record {
      link = m.link;
      stand = m.laid.stand;
      depths = m.laid.deep;
      priced = priced_none rows tree;
      apart = m.laid.apart;
      fits = rows_fit;
      deep = omega (arith, ap depth tree_trie, plan_depth);
    }

    pub settle_in : TreeAsk 0 rows root 0
    settle_in = (tree, tree_in)

    pub root_fits : (rows' : List ℕ) → length rows' ≡ length rows → root * ROW ≤ length rows'
    root_fits rows' len' = go tree m.link rows_fit
      where
        go : (t : Tree) → root ≡ link_of t → ((y : ℕ) → HasRow y t → (y + 1) * ROW ≤ length rows) → root * ROW ≤ length rows'
        go nil e f = omega arith
        go (fork x p l q r) e f = omega (arith, f x (inl refl))

    -- what stands for the tree stands for the trie
    for_trie : (σ : ℕ → Trie → ℕ) (rows' plan : List ℕ) → Stands σ rows' plan (link_of tree) (shape tree) → Stands σ rows' plan root trie
    for_trie σ rows' plan s =
        subst (Stands σ rows' plan root) tree_trie (subst (λ (x : ℕ). Stands σ rows' plan x (shape tree)) (sym m.link) s)

    pub fixed_in : (deep : ℕ) → deep ≡ longest_length (at ls) (length ls) → FixedIn counts deep k trie
    fixed_in deep e = record {
      counted = subst (CountsOf counts) tree_trie m.counted;
      depths = e ∙ ap (longest_length (at ls)) g.table.lengths ∙ sym (trie_depth W (at vs) (at ls) (entry_marks ls hs) (length vs) plan_prefixes.prefix);
      short = plan_depth;
      few = λ j. omega (arith, nodes_entries W (at vs) (at ls) (entry_marks ls hs) (length vs) j plan_prefixes.prefix, g.table.few);
      within = g.levels;
    }

    pub plan_fixed : (deep cost : ℕ) (strides : List ℕ) → deep ≡ longest_length (at ls) (length ls) → FixedOut counts deep k cost strides
        → Planned fixed W k vs ls hs cost strides strides root rows
    unfolding chosen_by fixed_stride strides_by
    plan_fixed deep cost strides d f =
        let o = f trie (fixed_in deep d) in
        let b = below_cap fixed in
        let h = strides_capped cost_cap fixed k trie g.levels.0 b in
        let plan = take k strides in
        let long : length plan ≡ k = length-take k strides ∙ omega (arith, ap length o.1, padded_length LEVELS (strides_by held fixed k trie), g.levels.1) in
        let read : (x : ℕ) → x < k → get_or plan x 0 ≡ get_or (fixed_strides held k trie) x 0
        = λ x l. get_or-take k strides x 0 l ∙ ap (λ (y : List ℕ). get_or y x 0) o.1 ∙ padded_read LEVELS (fixed_strides held k trie) x (omega (arith, g.levels.1)) in
        record {
          least = o.0 ∙ least_capped cost_cap fixed k trie ∙ omega arith;
          named = o.1 ∙ ap (padded LEVELS) h;
          holds = record {
            long = ap length o.1 ∙ padded_length LEVELS (strides_by held fixed k trie);
            σ = chosen_by held fixed k trie;
            follows = follows_capped cost_cap fixed k trie g.levels.0 b;
            stands = for_trie (chosen_by held fixed k trie) rows plan
                (tree_stands (chosen_by held fixed k trie) rows plan tree m.laid.stand m.laid.deep small_marks rows_fit
                (fixed_strides_lem k trie (chosen_by held fixed k trie) rows plan tree g.levels.0 (ap depth tree_trie) (read 0 g.levels.0)
                (λ i u p q. ap (λ (y : ℕ). get_or plan (y - i) 0) long ∙ read (k - i) (omega (arith, long)))));
          };
        }

    pub plan_variable : (rows' : List ℕ) (cost stride : ℕ) → length rows' ≡ length rows → TreeDone 0 k rows root 0 rows' → cost ≡ ask rows' root (before_costs + k)
        → stride ≡ ask rows' root (before_strides + k)
        → Planned variable W k vs ls hs cost (set (replicate LEVELS 0) 0 (stride % BYTE)) (replicate LEVELS 0) root rows'
    unfolding chosen_by
    plan_variable rows' cost stride len' d e f =
        let o = d tree tree_in in
        let fits : (y : ℕ) → HasRow y tree → (y + 1) * ROW ≤ length rows' = λ y h. omega (arith, rows_fit y h) in
        let k1 : k - 1 < k = omega (arith, g.levels.0) in
        let costs-from : before_costs + k ≡ COST + (k - 1) = omega (arith, g.levels.0) in
        let strides-from : before_strides + k ≡ STRIDE + (k - 1) = omega (arith, g.levels.0) in
        let b = below_cap variable in
        let plan = take {A = ℕ} k (replicate LEVELS 0) in
        let long : length plan ≡ k = length-take {A = ℕ} k (replicate LEVELS 0) ∙ omega (arith, g.levels.1) in
        let own : stride ≡ pick_by held (k - 1) trie
        = f ∙ ap (ask rows' root) strides-from ∙ ap (λ (x : ℕ). ask rows' x (STRIDE + (k - 1))) m.link ∙ root_pick k rows' tree o.priced (k - 1) k1 ∙ ap (pick_by held (k - 1)) tree_trie in
        record {
          least = e ∙ ap (ask rows' root) costs-from ∙ ap (λ (x : ℕ). ask rows' x (COST + (k - 1))) m.link ∙ root_cost k rows' tree o.priced (k - 1) k1
              ∙ ap (opt_by held (k - 1)) tree_trie ∙ least_variable k trie g.levels.0
              ∙ least_capped cost_cap variable k trie ∙ omega arith;
          named = root_stride k trie stride g.levels.0 own plan_depth ∙ ap (padded LEVELS) (strides_capped cost_cap variable k trie g.levels.0 b);
          holds = record {
            long = refl;
            σ = chosen_by held variable k trie;
            follows = follows_capped cost_cap variable k trie g.levels.0 b;
            stands = for_trie (chosen_by held variable k trie) rows' plan
                (tree_stands (variable_stride held) rows' plan tree o.stand o.depths small_marks fits
                (strides_own k rows' plan tree (get_or-take {A = ℕ} k (replicate LEVELS 0) 0 0 g.levels.0) long o.priced));
          };
        }
