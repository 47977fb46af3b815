-- What a lookup reads of a record and lists that are `LaidBitmap` for a table: demand 2, and the supernodes on the path.
use Prim.Native.Nat.{ℕ, zero, suc, ◌+◌, ◌-◌, ◌*◌, ◌/◌, ◌^◌, ◌≤◌, ◌<◌, zero-le}
use mathlib.Core.Path.{◌≡◌, refl, sym, ap, subst, ◌∙◌}
use mathlib.Core.Bool.{true}
use mathlib.Core.List.{List, []}
use mathlib.Core.Logic.{◌↔◌}
use native.Mathlib.Omega.{arith}
use native.Mathlib.Nat.{zero-add}
use lib.Dec.{ltb}
use lib.ListN.{length, get_or}
use borrow.Author.Tests.{ltb-true, lt-ltb, le-ltb, ne_eqb}
use Rattle.table.specs.Prefix.{start, IsPrefix}
use Rattle.table.specs.Table.{at}
use Rattle.table.specs.Longest.{longest, matched, NoPrefix, no_match, LongestEntry}
use Rattle.table.proofs.Longest.{longest_is, longest_zero}
use Rattle.table.proofs.Unique.{longest_unique}
use Rattle.walk.specs.Cases.{NoRoute}
use Rattle.walk.specs.Answers.{hop_of, length_of, reads_of, NotRefused, answer}
use Rattle.walk.proofs.Answers.{answer_number, answer_hop, answer_reads}
use Rattle.pieces.specs.BinaryTrie.{BinaryTrie, empty, knot, mark, SomeBegins, some_begins, table_binary}
use Rattle.pieces.specs.Maps.{STEP, is_node, subtrie_along, if_node, kids}
use Rattle.pieces.specs.Order.{kids_of, order}
use Rattle.pieces.specs.Rows.{supernodes_of}
use Rattle.pieces.specs.Depth.{deep, nodes_left, number_on}
use Rattle.pieces.proofs.Begins.{begins_is, begins_of}
use Rattle.pieces.proofs.Over.{node_at}
use Rattle.pieces.proofs.Longest.{deepest_longest, unmarked_none}
use Rattle.pieces.proofs.Depth.{tree_deep}
use Rattle.pieces.proofs.Passing.{along_empty}
use Rattle.visits.specs.Winner.{Best}
use Rattle.std.specs.Prelude.{None}
use Rattle.visits.specs.declared.record.Bitmap.{Bitmap}
use Rattle.visits.specs.Rows.{RowLists, row_room}
use Rattle.visits.specs.Lookup.{path_numbers, lookup_bitmap_of}
use Rattle.visits.specs.Meaning.{BitmapPassed, OnWay, visited, winning_hop, winning_length, InCount}
use Rattle.visits.specs.Laid.{LaidBinary, LaidBitmap}
use Rattle.visits.proofs.Unique.{on_way_unique}
use Rattle.visits.proofs.Looked.{looked_bitmap, way_answer}
use Rattle.visits.proofs.LaidRows.{numbered_root, numbered_lt}
use Rattle.visits.proofs.PathNumbers.{OnNode, numbers_on}
use Rattle.visits.proofs.LaidWay.{binary_on, WinnerOf, nowhere, deepest, Steps, AtDepth, goes}
use Rattle.visits.proofs.Reading.{way_numbers}

-- no supernode in an empty trie
order_none : (n : ℕ) → order kids n [] ≡ []
unfolding order kids_of
order_none zero = refl
order_none (suc n) = order_none n

none_of : (W : ℕ) → length (supernodes_of W empty) ≡ 0
unfolding supernodes_of if_node
none_of W = ap length (order_none (suc (W / STEP)))

-- the way of an address, whatever the trie: its supernodes, and a winner that is the deepest marked node
pub record Found (W : ℕ) (t : BinaryTrie) (rec : Bitmap) (rows : RowLists) (hops : List ℕ) (a : ℕ) : Type 0 where
  pub numbers : List ℕ
  pub winner : Best
  pub way : OnWay rec rows a numbers winner
  pub says : WinnerOf W t a hops rec.hops (suc W) winner
  pub steps : Steps W t a 0 numbers
  pub places : (m : ℕ) → m < length numbers → get_or numbers m 0 ≡ number_on m t (a / 2 ^ (W - STEP * m))

module _ {most : ℕ} {t : BinaryTrie} {rec : Bitmap} {rows : RowLists} {hops : List ℕ} (g : LaidBinary most t rec rows hops) (flat : deep t ≤ suc rec.width) (a : ℕ) where
  abbrev W : ℕ
  W = rec.width

  found_empty : t ≡ empty → Found W t rec rows hops a
  unfolding is_node mark
  found_empty e = record {
    numbers = [];
    winner = None;
    way = OnWay.empty (g.supernodes ∙ ap (λ (u : BinaryTrie). length (supernodes_of W u)) e ∙ none_of W);
    says = nowhere (λ d l h w. ap mark (none d));
    steps = record {
      levels = λ n h. le-ltb n 0 (omega arith) ∙ sym (ap is_node (none (0 + STEP * n)));
      tries = λ n h. absurd (omega arith);
      few = omega arith;
    };
    places = λ m h. absurd (omega arith);
  }
    where
      none : (d : ℕ) → binary_on W t a d ≡ empty
      none d = ap (λ (u : BinaryTrie). binary_on W u a d) e ∙ along_empty d _

  root_on : (e : is_node t ≡ true) → OnNode W t rows a g.row e flat 0 W 0
  unfolding subtrie_along number_on order nodes_left
  root_on e = record { whole = omega arith; trie = t; own = refl; at = numbered_root e; number = refl }

  found_node : is_node t ≡ true → Found W t rec rows hops a
  unfolding subtrie_along
  found_node e =
      let first : AtDepth W t rows hops a g.row g.hop e flat 0 0 W = record { whole = omega arith; number = numbered_root e; node = e } in
      let r = goes W t rows hops a g.row g.hop e flat (W / STEP) {best = None} refl first (nowhere (λ d l h w. absurd (omega arith))) in
      let some : 0 < length (supernodes_of W t) = numbered_lt (numbered_root {W = W} e) in
      record {
        numbers = r.numbers;
        winner = r.winner;
        way = visited {is = r.numbers} {b = r.winner} (omega (arith, g.supernodes)) (rw g.supernodes r.way);
        says = rw g.hop_count r.says;
        steps = r.steps;
        places = λ m h.
            let z : 0 + m ≡ m = omega arith in
            numbers_on W t rows a g.row e flat r.way (root_on e) m h ∙ ap (λ (k : ℕ). number_on k t (a / 2 ^ (W - STEP * m))) z;
      }

  found : Found W t rec rows hops a
  unfolding is_node
  found = go t refl
    where
      go : (u : BinaryTrie) → t ≡ u → Found W t rec rows hops a
      go empty e = found_empty e
      go (knot m l r) e = found_node (node e)
        where
          node : t ≡ knot m l r → is_node t ≡ true
          node e = ap is_node e

module _ {most W : ℕ} {vs ls hs : List ℕ} {rec : Bitmap} {rows : RowLists} {hops : List ℕ} (g : LaidBitmap most W vs ls hs rec rows hops) (a : ℕ) (small : a < 2 ^ W) where
  abbrev trie : BinaryTrie
  trie = table_binary W vs ls hs

  prefixed : (i : ℕ) → i < length vs → IsPrefix W (at vs i) (at ls i)
  prefixed i h = (g.table.entry i h).prefix

  hop_some : (i : ℕ) → i < length vs → 0 < at hs i
  hop_some i h = (g.table.entry i h).some_hop

  laid_found : Found W trie rec rows hops a
  laid_found =
      subst (λ (w : ℕ). Found w trie rec rows hops a) g.width
      (found g.built (rw g.width (tree_deep W (at vs) (at ls) (at hs) (length vs))) a)

  passed : BitmapPassed most rec (row_room rows) (length hops) a
  passed = record { width = g.built.width; inside = rw g.width small; enough = g.built.room; hops_enough = g.built.hop_room }

  abbrev hop : ℕ
  hop = longest W (at vs) (at ls) (at hs) (length vs) a

  abbrev len : ℕ
  len = matched W (at vs) (at ls) (length vs) a

  -- ---- the longest prefix
  -- the deepest marked node is the longest entry that begins the address
  winner_longest : {b : Best} → WinnerOf W trie a hops rec.hops (suc W) b → LongestEntry W vs ls hs a (winning_hop hops b) (winning_length W hops b)
  unfolding start
  winner_longest (nowhere f) = no_match (unmarked_none W (at vs) (at ls) (at hs) (length vs) prefixed hop_some a small (λ d h. f d zero-le (omega arith) h))
  winner_longest (deepest {left = left} d w s f h c) =
      let e : W - left ≡ d = omega arith in
      rw (h, ne_eqb (mark (binary_on W trie a d)) 0 (λ z. omega arith), e)
      (deepest_longest W (at vs) (at ls) (at hs) (length vs) prefixed hop_some a small d (omega arith) s (λ k l i. f k l (omega arith) i))

  winner_counted : {b : Best} → WinnerOf W trie a hops rec.hops (suc W) b → InCount b rec.hops
  winner_counted (nowhere f) = tt
  winner_counted (deepest d w s f h c) = c

  pub bitmap_lookup : lookup_bitmap_of most rec rows hops a ≡ answer hop len (length (path_numbers rec rows a))
  bitmap_lookup =
      let f = laid_found in
      let n = (way_numbers rec rows a f.way).0 in
      let u = longest_unique W vs ls hs g.table a (winner_longest f.says) (longest_is W (at vs) (at ls) (at hs) (length vs) a) in
      way_answer most rec rows hops a passed f.way (winner_counted f.says)
      ∙ ap (λ (w : ℕ). answer (winning_hop hops f.winner) (winning_length w hops f.winner) (length f.numbers)) g.width ∙ rw (u.0, u.1, n) refl

  pub bitmap_not_refused : NotRefused (lookup_bitmap_of most rec rows hops a)
  bitmap_not_refused = rw bitmap_lookup (answer_number hop len (length (path_numbers rec rows a)))

  bitmap_hop : hop_of (lookup_bitmap_of most rec rows hops a) ≡ hop
  bitmap_hop = rw bitmap_lookup (answer_hop hop len (length (path_numbers rec rows a)))

  -- hop and length are both 0, or those of a prefix that begins the address and than which none that does is longer
  pub laid_bitmap_longest : let r = lookup_bitmap_of most rec rows hops a in LongestEntry W vs ls hs a (hop_of r) (length_of r)
  laid_bitmap_longest =
      let f = laid_found in
      let t = (looked_bitmap most rec rows hops a).told bitmap_not_refused in
      let l = t.4 ∙ ap (λ (w : ℕ). winning_length w hops t.1) g.width in
      rw (t.3, l, (on_way_unique t.2 f.way).1) (winner_longest f.says)

  -- no route exactly when no prefix begins the address
  pub no_bitmap_route : (lookup_bitmap_of most rec rows hops a ≡ NoRoute (length (path_numbers rec rows a))) ↔ NoPrefix W vs ls a
  unfolding answer
  no_bitmap_route =
      let z = longest_zero W (at vs) (at ls) (at hs) (length vs) a hop_some in
      (λ e. z.0 (sym bitmap_hop ∙ ap hop_of e), λ nil. bitmap_lookup ∙ rw (z.1 nil) refl)

  -- ---- the supernodes on the path
  pub bitmap_reads : reads_of (lookup_bitmap_of most rec rows hops a) ≡ length (path_numbers rec rows a)
  bitmap_reads = rw bitmap_lookup (answer_reads hop len (length (path_numbers rec rows a)))

  steps : Steps W trie a 0 (path_numbers rec rows a)
  steps = rw (way_numbers rec rows a laid_found.way).0 laid_found.steps

  level_visited : (n : ℕ) → STEP * n ≤ W → ltb n (length (path_numbers rec rows a)) ≡ is_node (binary_on W trie a (STEP * n))
  level_visited n = rw (zero-add (STEP * n)) at (steps.levels n)

  -- one at each of the levels 0, 4, .. whose first node begins the address, and no other
  pub path_levels : (n : ℕ) → (n < length (path_numbers rec rows a)) ↔ ((STEP * n ≤ W) × SomeBegins W (at vs) (at ls) (length vs) (STEP * n) (start W (STEP * n) a))
  unfolding start
  path_levels n = (
    λ h.
        let l : STEP * n ≤ W = omega (arith, steps.few) in
        (l, begins_is W (at vs) (at ls) (length vs) (STEP * n) (start W (STEP * n) a) (sym (node n l) ∙ sym (level_visited n l) ∙ lt-ltb _ _ h)),
    λ w. ltb-true n (length (path_numbers rec rows a)) (level_visited n w.0 ∙ node n w.0 ∙ begins_of W (at vs) (at ls) (length vs) (STEP * n) (start W (STEP * n) a) w.1),
  )
    where
      node : (n : ℕ) → STEP * n ≤ W → is_node (subtrie_along (STEP * n) trie (start W (STEP * n) a)) ≡ some_begins W (at vs) (at ls) (length vs) (STEP * n) (start W (STEP * n) a)
      node n l = node_at W (at vs) (at ls) (at hs) (length vs) prefixed hop_some a (STEP * n) small l

  -- the n-th of them has the number of the supernode at that node, breadth first
  pub path_places : (n : ℕ) → n < length (path_numbers rec rows a) → get_or (path_numbers rec rows a) n 0 ≡ number_on n trie (start W (STEP * n) a)
  unfolding start
  path_places = rw (way_numbers rec rows a laid_found.way).0 laid_found.places

  -- and the row of that supernode
  pub path_tries : (n : ℕ) → n < length (path_numbers rec rows a)
      → get_or (supernodes_of W trie) (get_or (path_numbers rec rows a) n 0) empty ≡ subtrie_along (STEP * n) trie (start W (STEP * n) a)
  unfolding start
  path_tries n = rw (zero-add (STEP * n)) at (steps.tries n)
