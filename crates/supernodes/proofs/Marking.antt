-- One supernode's maps and hops: bit after bit, mark after mark; then that the links of its places tell what its trie does.
use Prim.Native.Nat.{ℕ, zero, suc, ◌+◌, ◌*◌, ◌^◌, ◌≤◌, ◌<◌, zero-le}
use mathlib.Core.Path.{◌≡◌, refl, sym, ap, subst, ◌∙◌}
use mathlib.Core.Bool.{Bool, true, false}
use mathlib.Core.List.{List, [], ◌∷◌, ◌++◌}
use mathlib.Core.Logic.{⊎_elim}
use native.Mathlib.Nat.{le_refl, eq-or-lt_of_le}
use native.Mathlib.Numerals.{add-one}
use native.Mathlib.Omega.{arith}
use lib.Count.{ones}
use lib.Dec.{ltb}
use lib.Pow.{pow_mono}
use lib.ListN.{length, length-append, get_or, set, length-set}
use lib.Seq.{get_or-set_same, get_or-set_other}
use borrow.Author.Tests.{lt-ltb}
use Rattle.pieces.specs.BinaryTrie.{BinaryTrie, mark}
use Rattle.pieces.specs.Maps.{INTERNAL, EXTERNAL, digit, map_of, count_set, subtrie_at, is_node, internal_map, external_map, if_mark, marks_to, kids, marks}
use Rattle.pieces.proofs.Bits.{map_lt}
use Rattle.pieces.proofs.Counted.{ones_map}
use Rattle.pieces.proofs.Inside.{length_kids}
use Rattle.visits.specs.Rows.{RowLists, HoldHops}
use Rattle.supernodes.specs.Linked.{row_column, node_column, Nodes}
use Rattle.supernodes.specs.Spots.{all_places, PlaceAsk, PlacesFound}
use Rattle.supernodes.specs.Marking.{LinksFit, place_mark, marked_place, taken_branch, place_marks, HopsPut, HopsIn, row_with, RowSet, SupernodeIn, SupernodeAsk, SupernodeDone}
use Rattle.supernodes.proofs.Linking.{column_is}

-- ---- one bit more
pub map_none : (f : ℕ → Bool) → 0 ≡ map_of 0 f
unfolding map_of
map_none f = refl

pub map_more : (f : ℕ → Bool) (i : ℕ) {map b n : ℕ} {on : Bool} → map ≡ map_of i f → on ≡ f i → b ≡ digit on * 2 ^ i → n ≡ suc i → map + b ≡ map_of n f
unfolding map_of
map_more f i {map} {b} e o d z = rw (z, e, d, o) (swap (map_of i f) (digit (f i) * 2 ^ i))
  where
    swap : (x y : ℕ) → x + y ≡ y + x
    swap x y = omega arith

pub map_fits : (f : ℕ → Bool) (i : ℕ) {map b : ℕ} {on : Bool} → map ≡ map_of i f → on ≡ f i → b ≡ digit on * 2 ^ i → i < 16 → map + b < 2 ^ 16
map_fits f i e o d h =
    let l : suc i ≤ 16 = h in
    let p : 2 ^ suc i ≤ 2 ^ 16 = pow_mono l in
    omega (arith, map_more f i e o d refl, map_lt (suc i) f, p)

-- ---- hops, one after the other
hops_kept : (ms h h' : List ℕ) (b : ℕ) → ((i : ℕ) → i < b + length ms → get_or h' i 0 ≡ get_or h i 0) → HoldHops h b ms → HoldHops h' b ms
hops_kept [] h h' b f p = tt
hops_kept (m ∷ ms) h h' b f p = (f b (omega arith) ∙ p.0, hops_kept ms h h' (suc b) (λ i l. f i (omega arith)) p.1)

hops_join : (xs ys h : List ℕ) (b c : ℕ) → c ≡ b + length xs → HoldHops h b xs → HoldHops h c ys → HoldHops h b (xs ++ ys)
hops_join [] ys h b c e p q = let z : b ≡ c = omega arith in rw z q
hops_join (x ∷ xs) ys h b c e p q = (p.0, hops_join xs ys h (suc b) c (omega arith) p.1 q)

pub put_none : (hops : List ℕ) (first : ℕ) → HopsPut hops first [] first hops
put_none hops first = record { end = omega arith; long = refl; wrote = tt; before = λ i h. refl; after = λ i h. refl }

pub put_both : {hops hops1 hops2 xs ys : List ℕ} {first mid next : ℕ} → HopsPut hops first xs mid hops1 → HopsPut hops1 mid ys next hops2
    → HopsPut hops first (xs ++ ys) next hops2
put_both {hops} {hops1} {hops2} {xs} {ys} {first} {mid} {next} a b = record {
  end = omega (arith, a.end, b.end, length-append xs ys);
  long = b.long ∙ a.long;
  wrote = hops_join xs ys hops2 first mid a.end (hops_kept xs hops1 hops2 first (λ i h. b.before i (omega (arith, a.end))) a.wrote) b.wrote;
  before = λ i h. b.before i (omega (arith, a.end)) ∙ a.before i h;
  after = λ i h. b.after i h ∙ a.after i (omega (arith, b.end));
}

pub put_no_mark : (hops : List ℕ) (first m : ℕ) → m ≡ 0 → HopsPut hops first (if_mark m) first hops
unfolding if_mark
put_no_mark hops first m e = rw e (put_none hops first)

pub one_mark : (m : ℕ) → (m ≡ 0 → ⊥) → length (if_mark m) ≡ 1
unfolding if_mark
one_mark zero ne = absurd (ne refl)
one_mark (suc m) ne = refl

pub put_mark : (hops : List ℕ) (first m : ℕ) → (m ≡ 0 → ⊥) → first < length hops → HopsPut hops first (if_mark m) (first + 1) (set hops first m)
unfolding if_mark
put_mark hops first zero ne h = absurd (ne refl)
put_mark hops first (suc m) ne h = record {
  end = omega arith;
  long = length-set hops first (suc m);
  wrote = (get_or-set_same hops first (suc m) 0 h, tt);
  before = λ i l. get_or-set_other hops first i (suc m) 0 (λ e. omega arith);
  after = λ i l. get_or-set_other hops first i (suc m) 0 (λ e. omega arith);
}

-- ---- the marks of a supernode's places
pub marks_first : (rows p : List ℕ) → place_marks rows p 0 ≡ []
unfolding place_marks
marks_first rows p = refl

pub marks_more : (rows p : List ℕ) (n : ℕ) → place_marks rows p (suc n) ≡ place_marks rows p n ++ if_mark (place_mark rows p n)
unfolding place_marks
marks_more rows p n = refl

marks_rise : (rows p : List ℕ) (i n : ℕ) → i ≤ n → length (place_marks rows p i) ≤ length (place_marks rows p n)
unfolding place_marks
marks_rise rows p i zero h = let e : i ≡ 0 = omega arith in rw e (le_refl _)
marks_rise rows p i (suc n) h = ⊎_elim (λ (e : i ≡ suc n). rw e (le_refl _))
    (λ (l : i < suc n). omega (arith, marks_rise rows p i n (omega arith), length-append (place_marks rows p n) (if_mark (place_mark rows p n)))) (eq-or-lt_of_le h)

module _ {rows p hops₀ hops : List ℕ} {first next i : ℕ} (g : HopsIn rows p hops₀ first) (l : i < INTERNAL)
    (v : HopsPut hops₀ first (place_marks rows p i) next hops) {m : ℕ} (e : m ≡ place_mark rows p i) where
  pub mark_room : next + length (if_mark m) ≤ length hops
  mark_room = rw e (omega (
    arith,
    g.room,
    v.end,
    v.long,
    ap length (marks_more rows p i),
    length-append (place_marks rows p i) (if_mark (place_mark rows p i)),
    marks_rise rows p (suc i) INTERNAL l,
  ))

  pub mark_next : {next' i' : ℕ} {hops' : List ℕ} → HopsPut hops next (if_mark m) next' hops' → i' ≡ suc i
      → HopsPut hops₀ first (place_marks rows p i') next' hops'
  mark_next {next'} {i'} {hops'} w z = rw (z, marks_more rows p i) (put_both v (rw e at w))

-- ---- the links of the places tell what the trie has
link_mark : (tree : ℕ → BinaryTrie) (used : ℕ) (rows : List ℕ) → Nodes tree used rows → (l : ℕ) → l ≤ used → node_column rows l 2 ≡ mark (tree l)
unfolding node_column mark
link_mark tree used rows n zero h = rw n.none refl
link_mark tree used rows n (suc l) h = sym (ap mark (n.each (suc l) (omega arith) h).is)

link_node : (tree : ℕ → BinaryTrie) (used : ℕ) (rows : List ℕ) → Nodes tree used rows → (l : ℕ) → l ≤ used → ltb 0 l ≡ is_node (tree l)
unfolding is_node
link_node tree used rows n zero h = rw n.none refl
link_node tree used rows n (suc l) h = lt-ltb 0 (suc l) (omega arith) ∙ sym (ap is_node (n.each (suc l) (omega arith) h).is)

map_same : (n : ℕ) (f g : ℕ → Bool) → ((i : ℕ) → i < n → f i ≡ g i) → map_of n f ≡ map_of n g
unfolding map_of
map_same zero f g e = refl
map_same (suc n) f g e = rw (e n (omega arith), map_same n f g (λ i h. e i (omega arith))) refl

-- a supernode has as many children as its external map has ones, 16 at most
count_most : (f : ℕ → Bool) (n : ℕ) → count_set f n ≤ n
unfolding count_set
count_most f zero = zero-le
count_most f (suc n) = go (f n) (count_most f n)
  where
    go : (b : Bool) → count_set f n ≤ n → digit b + count_set f n ≤ suc n
    go true h = omega arith
    go false h = omega arith

pub kids_most : (t : BinaryTrie) → length (kids t) ≤ EXTERNAL
kids_most t = omega (arith, length_kids t EXTERNAL, count_most (λ i. is_node (subtrie_at (INTERNAL + i) t)) EXTERNAL)

pub kids_ones : (t : BinaryTrie) → ones (external_map t) ≡ length (kids t)
unfolding external_map
kids_ones t = ones_map EXTERNAL (λ i. is_node (subtrie_at (INTERNAL + i) t)) ∙ sym (length_kids t EXTERNAL)

module _ {tree : ℕ → BinaryTrie} {used : ℕ} {rows p : List ℕ} {k : ℕ} (n : Nodes tree used rows) (h : k ≤ used) (g : PlacesFound rows k all_places p) where
  links_fit : LinksFit rows p
  links_fit = record { long = g.long; fits = λ j l. omega (arith, (g.each tree used n h j l).0, n.fits) }

  place_mark_lem : (j : ℕ) → j < all_places → place_mark rows p j ≡ mark (subtrie_at j (tree k))
  place_mark_lem j l = let a = g.each tree used n h j l in link_mark tree used rows n (get_or p j 0) a.0 ∙ ap mark a.1

  internal_is : map_of INTERNAL (marked_place rows p) ≡ internal_map (tree k)
  unfolding internal_map
  internal_is = map_same INTERNAL (marked_place rows p) (λ i. ltb 0 (mark (subtrie_at i (tree k)))) (λ i l. ap (ltb 0) (place_mark_lem i (omega arith)))

  external_is : map_of EXTERNAL (taken_branch p) ≡ external_map (tree k)
  unfolding external_map
  external_is = map_same EXTERNAL (taken_branch p) (λ i. is_node (subtrie_at (INTERNAL + i) (tree k)))
      (λ i l. let a = g.each tree used n h (INTERNAL + i) (omega arith) in link_node tree used rows n (get_or p (INTERNAL + i) 0) a.0 ∙ ap is_node a.1)

  marks_to_lem : (m : ℕ) → m ≤ all_places → place_marks rows p m ≡ marks_to m (tree k)
  unfolding place_marks marks_to
  marks_to_lem zero l = refl
  marks_to_lem (suc m) l = rw (marks_to_lem m (omega arith), place_mark_lem m l) refl

  pub marks_are : place_marks rows p INTERNAL ≡ marks (tree k)
  marks_are = marks_to_lem INTERNAL (omega arith)

-- ---- the supernode at place i of the queue
module _ (rows : List ℕ) (i : ℕ) {k : ℕ} (e : k ≡ node_column rows (i + 1) 3) (child hop : ℕ) (lists : RowLists) (hops : List ℕ) where
  link_is_row : k ≡ row_column rows i 3
  link_is_row = e ∙ rw (add-one i) (column_is rows i 3)

  module _ (tree : ℕ → BinaryTrie) (used : ℕ) (g : SupernodeIn tree used rows i child hop lists hops) where
    link_used : k ≤ used
    link_used = rw link_is_row g.link

    same_tree : tree k ≡ tree (row_column rows i 3)
    same_tree = ap tree link_is_row

  pub supernode_places : SupernodeAsk rows i child hop lists hops → PlaceAsk rows k
  supernode_places (tree, used, g) = (tree, used, g.nodes, link_used tree used g)

  module _ {p : List ℕ} (w : PlacesFound rows k all_places p) where
    pub supernode_links : SupernodeAsk rows i child hop lists hops → LinksFit rows p
    supernode_links (tree, used, g) = links_fit g.nodes (link_used tree used g) w

    pub supernode_hops : SupernodeAsk rows i child hop lists hops → HopsIn rows p hops hop
    supernode_hops (tree, used, g) =
        let n = g.nodes in
        let l = link_used tree used g in
        record {
          links = links_fit n l w;
          small = λ j m. let a = w.each tree used n l j m in rw (link_mark tree used rows n (get_or p j 0) a.0) (g.small (get_or p j 0));
          room = rw (marks_are n l w, same_tree tree used g) g.hop_room;
        }

    pub supernode_put : {own below child' hop' : ℕ} {lists' : RowLists} {hops' : List ℕ} → own ≡ map_of INTERNAL (marked_place rows p)
        → below ≡ map_of EXTERNAL (taken_branch p) → RowSet lists i (row_with own below child hop) lists' → child' ≡ child + ones below
        → HopsPut hops hop (place_marks rows p INTERNAL) hop' hops' → SupernodeDone rows i child hop lists hops child' hop' lists' hops'
    supernode_put {own} {below} {child'} {hop'} {lists'} {hops'} a b r c q tree used g =
        let n = g.nodes in
        let l = link_used tree used g in
        let s = same_tree tree used g in
        let t = tree (row_column rows i 3) in
        let o : own ≡ internal_map t = a ∙ internal_is n l w ∙ ap internal_map s in
        let x : below ≡ external_map t = b ∙ external_is n l w ∙ ap external_map s in
        record {
          row = subst (λ (y : ℕ). RowSet lists i (row_with (internal_map t) y child hop) lists') x
              (subst (λ (y : ℕ). RowSet lists i (row_with y below child hop) lists') o r);
          children = c ∙ ap (λ (y : ℕ). child + y) (ap ones x ∙ kids_ones t);
          put = subst (λ (ms : List ℕ). HopsPut hops hop ms hop' hops') (marks_are n l w ∙ ap marks s) q;
        }
