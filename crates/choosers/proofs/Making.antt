-- The tree of a table's entries is its 1-bit trie, with one row for each node: what each step of the making asks and gives.
use mathlib.Core.Path.{◌≡◌, refl, ap, sym, subst, ◌∙◌}
use mathlib.Core.List.{List}
use mathlib.Core.Logic.{◌⊎◌, inl, inr, ⊎_elim}
use Prim.Native.Nat.{ℕ, zero, suc, max, ◌+◌, ◌-◌, ◌*◌, ◌≤◌, ◌<◌}
use native.Mathlib.Nat.{le_refl, add-zero, add-suc}
use native.Mathlib.Omega.{arith}
use native.Mathlib.Numerals.{sub-one, add-one}
use lib.ListN.{length, get_or}
use borrow.Author.Count.{below_more}
use Rattle.table.specs.Prefix.{start, IsPrefix}
use Rattle.table.specs.Table.{at}
use Rattle.strides.specs.Trie.{bit, depth, size, sum_by, nodes_at}
use Rattle.strides.specs.Entries.{trie_of}
use Rattle.strides.specs.Insertion.{insert_t, met, node_count}
use Rattle.layout.specs.Marks.{entry_marks}
use Rattle.strides.proofs.Insertion.{trie_insert, trie_empty, insert_size, met_within}
use Rattle.strides.proofs.Counting.{node_count_lem}
use Rattle.walk.specs.Limits.{WIDTH}
use Rattle.choosers.specs.Limits.{WORD}
use Rattle.choosers.specs.Scratch.{ROW, DEPTH, MARKS}
use Rattle.choosers.specs.Trees.{Tree, nil, fork, shape, link_of, row_for, next, side, set_side, set_mark, lt, rt, lmark, rmark, Stand, Deepens}
use Rattle.choosers.specs.Trees.{insert_r, count_r, add_entry, tree_of}
use Rattle.choosers.specs.Inserting.{InsertIn, Inserted}
use Rattle.choosers.specs.Making.{Prefixes, InRows, AddIn, AddOut, Added, CountIn, AddCounted, MakeOut}
use Rattle.choosers.specs.LevelCounts.{LevelsAdded, CountsOf}
use Rattle.choosers.proofs.LevelCounts.{counts_can, counts_next}
use Rattle.choosers.proofs.Shapes.{add_shape}
use Rattle.choosers.proofs.Inserting.{made, next_le, made_insert, made_count, made_apart, made_under, count_grows, under_insert, apart_insert, link_insert}

-- ---- a tree and its trie

-- as many rows are taken as nodes are new
size_mark : (s u h : ℕ) (t : Tree) → next u t + size (shape t) ≡ u + size (shape (set_mark s (row_for u t) t h))
unfolding shape size
size_mark zero u h nil = omega arith
size_mark (suc s) u h nil = omega arith
size_mark zero u h (fork x p l q r) = omega arith
size_mark (suc s) u h (fork x p l q r) = omega arith

size_set : (s u : ℕ) (t k : Tree) → u + (size (shape (set_side s (row_for u t) t k)) + size (shape (side s t))) ≡ next u t + (size (shape t) + size (shape k))
unfolding shape size
size_set zero u nil k = omega arith
size_set (suc s) u nil k = omega arith
size_set zero u (fork x p l q r) k = omega arith
size_set (suc s) u (fork x p l q r) k = omega arith

insert_count : (n u : ℕ) (t : Tree) (v h : ℕ) → count_r n u t v + size (shape t) ≡ u + size (shape (insert_r n u t v h))
unfolding insert_r count_r
insert_count zero u t v h = size_mark (bit 0 v) u h t
insert_count (suc n) u t v h =
    let s = bit (suc n) v in
    omega (arith, insert_count n (next u t) (side s t) v h, size_set s u t (insert_r n (next u t) (side s t) v h))

-- ---- one entry more

-- the root's row is taken with the first node
open_next : (t : Tree) → max (size (shape t)) 1 ≡ next (size (shape t)) t
unfolding shape size
open_next nil = refl
open_next (fork x p l q r) = omega arith

row_root : (t : Tree) (u : ℕ) → row_for 0 t ≡ 0 → u ≡ size (shape t) → row_for u t ≡ 0
unfolding shape size
row_root nil u e f = f
row_root (fork x p l q r) u e f = e

made_stand : (rows : List ℕ) (t : Tree) → InRows rows t → Stand rows (made (size (shape t)) t)
unfolding shape size
made_stand rows nil a =
    (record { link0 = a.blank 0 (omega arith); link1 = a.blank 1 (omega arith); mark0 = a.blank 2 (omega arith); mark1 = a.blank 3 (omega arith) }, tt, tt)
made_stand rows (fork x p l q r) a = a.stand

made_deep : (rows : List ℕ) (t : Tree) → InRows rows t → (n : ℕ) → Deepens n rows (made (size (shape t)) t)
unfolding shape size depth
made_deep rows nil a n = (omega (arith, a.blank DEPTH (omega arith)), tt, tt)
made_deep rows (fork x p l q r) a n = (ap (λ (d : ℕ). max d (suc n)) a.deep.0, a.deep.1, a.deep.2)

link_row : (t : Tree) → link_of t ≡ 0 + 1 → row_for 0 t ≡ 0
link_row nil e = absurd (omega arith)
link_row (fork x p l q r) e = omega arith

-- the root, opened, is a node at row 0
module _ (rows : List ℕ) (t : Tree) (a : InRows rows t) where
  open_in : (v n h : ℕ) → n < WORD → size (shape (insert_r n (size (shape t)) t v h)) * ROW ≤ length rows → InsertIn rows 0 (next (size (shape t)) t) v n
  open_in v n h s room =
      let u = size (shape t) in
      rw (← (row_root t u a.rooted refl))
      (record {
        p = lmark t;
        l = lt t;
        q = rmark t;
        r = rt t;
        stand = made_stand rows t a;
        apart = made_apart u t a.apart;
        under = made_under u t a.under;
        room = omega (arith, made_count n u t v, insert_count n u t v h);
        blank = λ i b. a.blank i (omega (arith, next_le u t));
        short = s;
      })

  open_out : (v n h used' : ℕ) (rows' : List ℕ) → Inserted rows 0 (next (size (shape t)) t) v n h used' rows'
      → InRows rows' (insert_r n (size (shape t)) t v h) × (used' ≡ size (shape (insert_r n (size (shape t)) t v h)))
  open_out v n h used' rows' ins =
      let u = size (shape t) in
      let ins' = rw (← (row_root t u a.rooted refl)) at ins in
      let o = ins'.tree (lmark t) (lt t) (rmark t) (rt t) (made_stand rows t a) (made_apart u t a.apart) (made_under u t a.under) in
      let c : used' ≡ size (shape (insert_r n u t v h)) = omega (arith, o.count, made_count n u t v, insert_count n u t v h) in
      let b : count_r n u t v ≡ size (shape (insert_r n u t v h)) = omega (arith, insert_count n u t v h) in (
        record {
          stand = rw (made_insert n u t v h) at o.stands;
          deep = rw (made_insert n u t v h) at (o.deep (made_deep rows t a n));
          apart = apart_insert n u t v h a.apart a.under;
          under = rw b at (under_insert n u t v h a.under);
          rooted = link_row (insert_r n u t v h) (link_insert n u t v h ∙ ap (λ (x : ℕ). x + 1) (row_root t u a.rooted refl));
          bare = λ y c lo hi. ins.columns y c lo hi ∙ a.bare y c lo hi;
          blank = λ i l. ins.after i (omega arith) ∙ a.blank i (omega (arith, count_grows n u t v));
        },
        c,
      )

module _ (rows : List ℕ) (used W v l h : ℕ) where
  pub add_in : AddIn rows used W v l h → (l ≡ 0 → ⊥) → InsertIn rows 0 (max used 1) (start W l v) (l - 1)
  unfolding add_entry
  add_in g ne = go l ne g.short g.room
    where
      go : (l : ℕ) → (l ≡ 0 → ⊥) → l ≤ W → size (shape (add_entry l used g.tree (start W l v) h)) * ROW ≤ length rows
          → InsertIn rows 0 (max used 1) (start W l v) (l - 1)
      go zero ne s r = absurd (ne refl)
      go (suc n) ne s r =
          rw (sub-one (suc n), g.count, open_next g.tree)
          (open_in rows g.tree g.laid (start W (suc n) v) n h (omega (arith, g.width)) (rw g.count at r))

  pub add_out : (rows' : List ℕ) (used' : ℕ) → (l ≡ 0 → ⊥) → Inserted rows 0 (max used 1) (start W l v) (l - 1) h used' rows' → Added rows used W v l h used' rows'
  unfolding add_entry
  add_out rows' used' ne ins t a e = go l ne ins
    where
      go : (l : ℕ) → (l ≡ 0 → ⊥) → Inserted rows 0 (max used 1) (start W l v) (l - 1) h used' rows' → AddOut used W v l h t used' rows'
      go zero ne ins = absurd (ne refl)
      go (suc n) ne ins =
          let o = open_out rows t a (start W (suc n) v) n h used' rows' (rw (sub-one (suc n), e, open_next t) at ins) in
          rw e (record { laid = o.0; count = o.1 })

  pub add_none : l ≡ 0 → Added rows used W v l h used rows
  unfolding add_entry
  add_none z t a e = rw z (record { laid = a; count = e })

-- ---- its new nodes, counted

module _ (rows counts : List ℕ) (used W v l h : ℕ) where
  -- as many rows are taken as the entry has proper starts that were not met
  grown_is : (t : Tree) (used' : ℕ) (rows' : List ℕ) → used ≡ size (shape t) → AddOut used W v l h t used' rows' → used' ≡ used + (l - met l (start W l v) (shape t))
  grown_is t used' rows' e o =
      omega (arith, o.count, ap size (add_shape l used t (start W l v) h), insert_size l (start W l v) h (shape t))

  pub levels_in : CountIn rows counts used W v l h → (used' : ℕ) (rows' : List ℕ) → Added rows used W v l h used' rows'
      → (used ≤ used') × (used' - used ≤ l) × (l ≤ WIDTH)
  levels_in g used' rows' a =
      let i = g.adds in
      let n = grown_is i.tree used' rows' i.count (a i.tree i.laid i.count) in
      (omega arith, omega arith, omega (arith, i.short, i.width))

  pub counted_out : (used' : ℕ) (rows' counts' : List ℕ) → Added rows used W v l h used' rows' → LevelsAdded counts (l - (used' - used)) l counts'
      → AddCounted rows counts used W v l h used' rows' counts'
  counted_out used' rows' counts' a b = record {
    added = a;
    levels = λ t i e.
        let n = grown_is t used' rows' e (a t i e) in
        let m : l - (used' - used) ≡ met l (start W l v) (shape t) = omega (arith, met_within l (start W l v) (shape t)) in
        rw m at b;
  }

-- ---- the whole table

module _ (W : ℕ) (val len mark : ℕ → ℕ) where
  pub tree_shape : (n : ℕ) → ((i : ℕ) → i < n → IsPrefix W (val i) (len i)) → shape (tree_of W val len mark n) ≡ trie_of W val len mark n
  unfolding tree_of shape
  tree_shape zero h = sym (trie_empty W val len mark)
  tree_shape (suc n) h =
      let t = tree_of W val len mark n in
      add_shape (len n) (size (shape t)) t (start W (len n) (val n)) (mark n)
      ∙ ap (insert_t (len n) (start W (len n) (val n)) (mark n)) (tree_shape n (λ i l. h i (omega arith)))
      ∙ sym (trie_insert W val len mark n h)

count_mono : (W : ℕ) (val len : ℕ → ℕ) (i k : ℕ) → node_count W val len i ≤ node_count W val len (i + k)
unfolding node_count
count_mono W val len i zero = omega (arith, ap (node_count W val len) (add-zero i))
count_mono W val len i (suc k) = omega (arith, count_mono W val len i k, ap (node_count W val len) (add-suc i k))

link_one : (t : Tree) → row_for 0 t ≡ 0 → (0 < size (shape t) → link_of t ≡ 1) × (size (shape t) ≡ 0 → link_of t ≡ 0)
unfolding shape size
link_one nil e = (λ h. absurd (omega arith), λ z. refl)
link_one (fork x p l q r) e = (λ h. omega arith, λ z. absurd (omega arith))

module _ (W : ℕ) (vs ls hs : List ℕ) where
  abbrev tree : ℕ → Tree
  tree i = tree_of W (at vs) (at ls) (entry_marks ls hs) i

  -- after the first i entries
  pub record Made (i used : ℕ) (rows counts : List ℕ) : Type 0 where
    pub small : (j : ℕ) → j < i → entry_marks ls hs j < MARKS
    pub laid : InRows rows (tree i)
    pub count : used ≡ size (shape (tree i))
    pub counted : CountsOf counts (shape (tree i))

  pub make_start : (rows counts : List ℕ) → ((i : ℕ) → get_or rows i 0 ≡ 0) → length counts ≡ WIDTH → ((j : ℕ) → at counts j ≡ 0) → Made 0 0 rows counts
  unfolding tree_of shape size nodes_at sum_by
  make_start rows counts z long clear = record {
    small = λ j h. absurd (omega arith);
    laid = record { stand = tt; deep = tt; apart = tt; under = λ y h. absurd h; rooted = refl; bare = λ y c lo hi. z (y * ROW + c); blank = λ i h. z i };
    count = refl;
    counted = record { long = long; nodes = λ j h. clear j };
  }

  module _ (p : Prefixes W vs ls) where
    -- the trie of the first entries is no larger than that of all
    tree_room : (i : ℕ) → i ≤ length vs → size (shape (tree i)) ≤ size (trie_of W (at vs) (at ls) (entry_marks ls hs) (length vs))
    tree_room i h =
        let n = length vs in
        let c : (j : ℕ) → j ≤ n → node_count W (at vs) (at ls) j ≡ size (trie_of W (at vs) (at ls) (entry_marks ls hs) j)
        = λ j l. node_count_lem W (at vs) (at ls) n p.prefix p.rises (entry_marks ls hs) j l in
        let s = ap size (tree_shape W (at vs) (at ls) (entry_marks ls hs) i (λ j l. p.prefix j (omega arith))) in
        let e : i + (n - i) ≡ n = omega arith in
        omega (arith, c i h, c n (le_refl n), rw e at (count_mono W (at vs) (at ls) i (n - i)))

    pub make_add : (rows counts : List ℕ) (i used : ℕ) → size (trie_of W (at vs) (at ls) (entry_marks ls hs) (length vs)) * ROW ≤ length rows → i < length vs
        → Made i used rows counts → CountIn rows counts used W (at vs i) (at ls i) (entry_marks ls hs i)
    unfolding tree_of
    make_add rows counts i used room h m = record {
      adds = record {
        tree = tree i;
        laid = m.laid;
        count = m.count;
        room = rw m.count (omega (arith, tree_room (suc i) h));
        short = (p.prefix i h).short;
        width = p.width;
      };
      can = counts_can counts (shape (tree i)) m.counted;
    }

    pub make_next : (rows rows' counts counts' : List ℕ) (i used used' : ℕ) → Made i used rows counts → entry_marks ls hs i < MARKS
        → AddCounted rows counts used W (at vs i) (at ls i) (entry_marks ls hs i) used' rows' counts' → Made (i + 1) used' rows' counts'
    unfolding tree_of
    make_next rows rows' counts counts' i used used' m here d =
        let o = d.added (tree i) m.laid m.count in
        let c = counts_next counts counts' (shape (tree i)) (at ls i) (start W (at ls i) (at vs i)) (entry_marks ls hs i) m.counted (d.levels (tree i) m.laid m.count) in
        let e : add_entry (at ls i) used (tree i) (start W (at ls i) (at vs i)) (entry_marks ls hs i) ≡ tree (i + 1) = tree_next i used m.count in
        record {
          small = below_more (λ (j : ℕ). entry_marks ls hs j < MARKS) i m.small here;
          laid = rw e at o.laid;
          count = rw e at o.count;
          counted = subst (CountsOf counts') (sym (add_shape (at ls i) used (tree i) (start W (at ls i) (at vs i)) (entry_marks ls hs i)) ∙ ap shape e) c;
        }
      where
        tree_next : (i used : ℕ) → used ≡ size (shape (tree i)) → add_entry (at ls i) used (tree i) (start W (at ls i) (at vs i)) (entry_marks ls hs i) ≡ tree (i + 1)
        tree_next i used e = rw (add-one i, e) refl

    pub make_done : (rows counts : List ℕ) (i used root : ℕ) → i ≡ length vs → Made i used rows counts → (0 < used → root ≡ 1) → (used ≡ 0 → root ≡ 0)
        → MakeOut W vs ls hs root rows counts
    make_done rows counts i used root h m one nil' =
        let t = tree_of W (at vs) (at ls) (entry_marks ls hs) i in
        let e = m.count in
        let l = link_one t m.laid.rooted in
        let k : root ≡ link_of t = ⊎_elim (λ z. nil' z ∙ sym (l.1 (sym e ∙ z))) (λ q. one q ∙ sym (l.0 (rw e at q))) (zero_or used) in
        record { small = rw (← h) m.small; counted = rw (← h) m.counted; laid = rw (← h) m.laid; link = rw (← h) k }
      where
        zero_or : (u : ℕ) → (u ≡ 0) ⊎ (0 < u)
        zero_or zero = inl refl
        zero_or (suc u) = inr (omega arith)
